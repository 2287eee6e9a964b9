use Rattle.trio_judge_tests.proofs.Words.{◌++◌, ◌≡◌, map, take}
use Rattle.trio_judge_tests.proofs.checked.add_blocks.Given as goal

abbrev pub invariant-loop-at : goal.invariant-loop-at
invariant-loop-at l = l.pages.items ≡ l.fn.pages.items ++ map (λ p. p.no.0) (take l.at l.file.stands.blocks)
