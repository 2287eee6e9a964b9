use Rattle.trio_app.proofs.Words.{◌++◌, ◌≡◌, libs_text, take}
use Rattle.trio_app.proofs.script.put_libraries.Given as goal

abbrev pub invariant-loop-at : goal.invariant-loop-at
invariant-loop-at l = l.text.items ≡ l.fn.text.items ++ libs_text 1 (take l.at l.libs) (take l.at l.tolds)
