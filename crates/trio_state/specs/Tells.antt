-- Why a bundle is refused.
use Rattle.std.specs.Prelude.{ℕ}
use Rattle.trio_layout.specs.Core.{Location}
use Rattle.trio_layout.specs.Case.{Case, case_of}
use Rattle.trio_layout.specs.Broken.{Breaks}
use Rattle.trio_state.specs.State.{State, settled, creds_of}
use Rattle.trio_rights.specs.Bundle.{Bundle}

-- The cause of a refusal: the number of a rule, and a file and a place at which it fails, 0 where the rule has none to name.
pub record Why : Type 0 where
  pub rule : ℕ
  pub ino : ℕ
  pub page : ℕ
  pub slot : ℕ

-- the page and the slot that a cause names
abbrev pub place_of : Why → Location
place_of why = record { page = why.page; slot = why.slot }

-- the case of a library's bundle in a state
abbrev pub case_in : State → ℕ → Bundle → Case
case_in s lib b = case_of (settled s) (creds_of s lib) b

-- A refusal tells the lowest rule that the library's bundle breaks, with a file and a place at which it does.
abbrev pub Tells : State → ℕ → Bundle → Why → Type 0
Tells s lib b why = Breaks (case_in s lib b) why.rule why.ino (place_of why)
