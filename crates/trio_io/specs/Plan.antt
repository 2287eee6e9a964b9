-- Calls of which some are to fail.
use Rattle.std.specs.Prelude.{ℕ, ◌+◌, ◌-◌, ◌^◌, min, List, Contains}

-- calls that are counted from 1 on
pub record Plan : Type 0 where
  -- how many calls there have been
  pub calls : ℕ
  -- the numbers of the calls that are to fail
  pub failing : List ℕ

-- one call more; the count stands still at the end of its type
abbrev pub counted : Plan → Plan
counted plan = record { calls = min (plan.calls + 1) (2 ^ 64 - 1); failing = plan.failing }

-- the next call is to fail
abbrev pub FailsNext : Plan → Type 0
FailsNext plan = Contains plan.failing (counted plan).calls
