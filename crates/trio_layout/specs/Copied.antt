-- The rows that are all that rules I1, I2 and I4 look at, and a case that has no others.
use Rattle.std.specs.Prelude.{ℕ, Bool, false, ◌||◌, List, Option, Some, None, if◌then◌else◌, length}
use Rattle.trio_rights.specs.Row.{Row, row_in}
use Rattle.trio_lists.specs.Lists.{is_among, tabulated}
use Rattle.trio_rights.specs.Bundle.{Bundle, is_written}
use Rattle.trio_layout.specs.Case.{Case}

-- a row of a written or held file, or of a recorded child of a written one
abbrev pub is_copied : Bundle → ℕ → Option Row → Bool
is_copied b n None = false
is_copied b n (Some r) = is_written b n || is_among n b.holds || is_written b r.parent

-- the row of a number where it is one of these, else none
abbrev pub copied_row : Bundle → ℕ → Option Row → Option Row
copied_row b n r = if is_copied b n r then r else None

-- the table with these rows and no others
abbrev pub copied_rows : Bundle → List (Option Row) → List (Option Row)
copied_rows b rows = tabulated (λ n. copied_row b n (row_in rows n)) (length rows)

-- the case with these rows and no others
abbrev pub with_copied : Case → Case
with_copied c = record {
  bundle = c.bundle;
  lent = c.lent;
  rows = copied_rows c.bundle c.rows;
  creds = c.creds;
  range = c.range;
  inodes = c.inodes;
}
