-- Rows with their numbers. Cited by the case's own invariant and private functions alone.
use Rattle.std.specs.Prelude.{ℕ, List, Option, slice_get}
use Rattle.std.specs.Option.{option_and_then, option_map}
use Rattle.trio_rights.specs.Row.{Row}
use Rattle.trio_tables.specs.Row.{as_row}
use Rattle.trio_tables.specs.declared.row.Row.{Row as RowData}
use Rattle.trio_case.specs.Order.{place_of}

-- numbers, and at the same places their rows
pub record RowList : Type 0 where
  pub numbers : List ℕ
  pub rows : List RowData

-- the row at the place of a number
abbrev pub row_listed : RowList → ℕ → Option Row
row_listed l n = option_and_then (λ at. option_map as_row (slice_get l.rows at)) (place_of n l.numbers)
