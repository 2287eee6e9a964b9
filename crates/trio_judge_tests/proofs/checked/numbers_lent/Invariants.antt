use Rattle.trio_judge_tests.proofs.Words.{◌++◌, ◌≡◌, map, take}
use Rattle.trio_judge_tests.proofs.checked.numbers_lent.Given as goal

abbrev pub invariant-loop-file : goal.invariant-loop-file
invariant-loop-file l = l.numbers.items ≡ map (λ f. f.stands.ino) (take l.file-index l.writes)

abbrev pub invariant-loop-hold : goal.invariant-loop-hold
invariant-loop-hold l = l.numbers.items ≡ map (λ f. f.stands.ino) l.writes ++ map (λ h. h.ino) (take l.hold-index l.holds)
