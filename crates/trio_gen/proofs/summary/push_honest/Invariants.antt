use Rattle.trio_gen.proofs.Words.{◌++◌, ◌≡◌, answers_where, is_call, map, take}
use Rattle.trio_gen.proofs.summary.push_honest.Given as goal

abbrev pub invariant-loop-at : goal.invariant-loop-at
invariant-loop-at l = map (λ a. a.now) l.calls.items ≡ map (λ a. a.now) l.fn.calls.items ++ answers_where (take l.at (map (λ l. is_call l.line) l.lines)) (take l.at l.answers)
