-- What the numbers and the rows of a case tell. Cited by the case's own invariant and private functions alone.
use Rattle.std.specs.Prelude.{ℕ, ◌≡◌, ◌+◌, ◌==◌, ◌<◌, Bool, false, List, ◌++◌, Option, None, count_by, length, map, slice_index_or}
use Rattle.std.specs.List.{find}
use Rattle.std.specs.Option.{option_and_then, option_map, option_map_or}
use Rattle.trio_rights.specs.Row.{Row, row_in}
use Rattle.trio_lists.specs.Lists.{is_among, tabulated}
use Rattle.trio_lease.specs.Bundles.{Bundled}
use Rattle.trio_lease.specs.Views.{bundle_in}
use Rattle.trio_lease.specs.declared.parts.HoldParts.{HoldParts}
use Rattle.trio_layout.specs.Copied.{copied_row}
use Rattle.trio_tables.specs.Row.{as_row}
use Rattle.trio_tables.specs.declared.row.Row.{Row as RowData}
use Rattle.trio_case.specs.Order.{in_order, place_of}
use Rattle.trio_case.specs.declared.numbers.Numbers.{Numbers}
use Rattle.trio_case.specs.declared.numbers.CopiedRows.{CopiedRows}
use Rattle.trio_case.specs.declared.numbers.CopiedRows.TheVariants.{Listed, Few}
use Rattle.trio_case.specs.inner.RowLists.{row_listed}

-- rows, where there are any
abbrev pub rows_seen : List (Option RowData) → List (Option Row)
rows_seen rows = map (option_map as_row) rows

-- the row of a number, where it is copied
abbrev pub row_kept : Numbers → CopiedRows → ℕ → Option Row
row_kept t (Listed rows) n = row_listed rows n
row_kept t (Few rows) n = option_and_then (λ at. slice_index_or (rows_seen rows.items) at None) (place_of n (t.writes ++ t.holds))

-- the copied rows, by number up to `inodes`
abbrev pub rows_kept : Numbers → CopiedRows → ℕ → List (Option Row)
rows_kept t rows inodes = tabulated (row_kept t rows) (inodes + 1)

-- the body that the first of these holds on a number lent
abbrev pub body_lent : List HoldParts → ℕ → Option (List ℕ)
body_lent holds n = option_map (λ h. h.body) (find (λ h. h.ino == n) holds)

-- the numbers are those that the bundle has
pub record Tells (numbers : Numbers) (b : Bundled) : Type 0 where
  pub writes : numbers.writes ≡ map (λ f. f.stands.ino) b.writes
  pub holds : numbers.holds ≡ map (λ h. h.ino) b.holds
  pub held_order : numbers.held_order.items ≡ in_order numbers.holds
  pub fresh : numbers.fresh ≡ map (λ n. n.no) b.inodes

-- the row of a file that stands in one of these directories
abbrev pub stands_in : List ℕ → Option Row → Bool
stands_in dirs r = option_map_or (λ r. is_among r.parent dirs) r false

-- no more rows than so many are copied from a table
abbrev pub most_copied : Numbers → List (Option Row) → ℕ
most_copied t rows = length t.writes + length t.holds + count_by (stands_in t.writes) rows

-- of each number of the table the row is there that is copied for the bundle
abbrev pub HasCopied : Numbers → Bundled → List (Option Row) → CopiedRows → Type 0
HasCopied t b rows copied =
    (n : ℕ) → n < length rows → row_kept t copied n ≡ copied_row (bundle_in b) n (row_in rows n)
