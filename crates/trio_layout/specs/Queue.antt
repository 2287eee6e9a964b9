-- A walk that passes one file after another: how code goes through the files that the levels of a survey meet. No definition
-- of the claim cites it.
use Rattle.std.specs.Prelude.{ℕ, suc, zero, List, [], ◌∷◌, ◌++◌}
use Rattle.trio_layout.specs.Survey.{Met, Front, first_listed, numbers}

-- one file passed: those that it lists first join the end of the queue
abbrev pub pass_on : (Met → List Met) → List Met → List Met → Front
pass_on kids passed [] = record { passed = passed; level = [] }
pass_on kids passed (m ∷ ms) = record {
  passed = passed ++ m ∷ [];
  level = ms ++ first_listed (numbers (passed ++ m ∷ ms)) (kids m);
}

abbrev pub pass : (Met → List Met) → Front → Front
pass kids f = pass_on kids f.passed f.level

-- the queue after so many files
abbrev pub queue : (Met → List Met) → Met → ℕ → Front
queue kids root zero = record { passed = []; level = root ∷ [] }
queue kids root (suc i) = pass kids (queue kids root i)
