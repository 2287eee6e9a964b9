-- What is looked at before a whole image is judged. Cited by private functions alone.
use Rattle.std.specs.Prelude.{◌≡◌, ◌<◌, ℕ, ◌==◌, ◌&&◌, Bool, List, Option, None, Some, length, map, nat_lt, slice_index_or}
use Rattle.std.specs.List.{list_all}
use Rattle.trio_rights.specs.Sheets.{Sheet}
use Rattle.trio_lease.specs.Shown.{LentFile}
use Rattle.trio_lease.specs.Views.{lent_sheet}

-- the page is there, with 4096 bytes
abbrev pub IsWhole : Option (List ℕ) → Type 0
IsWhole None = ⊥
IsWhole (Some bytes) = length bytes ≡ 4096

-- no page is absent, and each has 4096 bytes
abbrev pub AreWhole : List (Option (List ℕ)) → Type 0
AreWhole pages = (n : ℕ) → n < length pages → IsWhole (slice_index_or pages n None)

-- the page has 4096 bytes, and a number below this one
abbrev pub sheet_fits : ℕ → Sheet → Bool
sheet_fits count x = (length x.bytes == 4096) && nat_lt x.page count

-- all pages of a lease do
abbrev pub file_fits : ℕ → LentFile → Bool
file_fits count f = list_all (sheet_fits count) (map lent_sheet f.stands.index) && list_all (sheet_fits count) (map lent_sheet f.stands.blocks)
