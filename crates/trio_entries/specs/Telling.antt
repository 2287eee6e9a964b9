-- What must be true of a release for its entry to be told.
use Rattle.std.specs.Prelude.{ℕ, ◌≡◌, true, List, Option, None, is_some, slice_index_or}
use Rattle.trio_rights.specs.Row.{Row, row_in}
use Rattle.trio_layout.specs.Case.{Case}
use Rattle.trio_case.specs.Cases.{CaseShown, case_in}
use Rattle.trio_state.specs.Listed.{Notes}

-- the case of a bundle, with all rows of the image
abbrev pub whole_case : CaseShown → List (Option Row) → Case
whole_case k rows = record (case_in k) { rows = rows }

-- something is noted of each live number
abbrev pub AreNoted : List (Option Row) → Notes → Type 0
AreNoted rows notes = (n : ℕ) → is_some (row_in rows n) ≡ true → is_some (slice_index_or notes n None) ≡ true
