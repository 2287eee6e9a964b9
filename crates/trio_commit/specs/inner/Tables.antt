-- Rows and owners as they are put in place, step by step.
use Rattle.std.specs.Prelude.{ℕ, ◌==◌, Bool, not, ◌&&◌, List, ◌++◌, Option, Some, if◌then◌else◌}
use Rattle.std.specs.List.{find}
use Rattle.std.specs.Option.{option_map, option_map_or}
use Rattle.trio_lists.specs.Lists.{is_among}
use Rattle.trio_rights.specs.Row.{Row}
use Rattle.trio_tables.specs.Row.{as_row}
use Rattle.trio_layout.specs.Listing.{Listing, ListedEntry, ListedFile}
use Rattle.trio_layout.specs.Edges.{is_listed}
use Rattle.trio_layout.specs.Tables.{placed_row}
use Rattle.trio_case.specs.declared.listing.ListedFile.{ListedFile as FileData}

-- the file is held, and no entry names it
abbrev pub is_gone : Listing → ℕ → Bool
is_gone l n = is_among n l.held && not (is_listed l n)

-- the row of a number, at the place of the first of these entries that names it
abbrev pub row_moved : List ListedEntry → ℕ → Option Row → Option Row
row_moved entries n r = option_map_or (λ e. option_map (placed_row e) r) (find (λ e. e.ino == n) entries) r

-- the row of a number, or that of the first of these files that has it
abbrev pub row_judged : List FileData → ℕ → Option Row → Option Row
row_judged files n r = option_map_or (λ f. Some (as_row f.row)) (find (λ f. f.ino == n) files) r

-- the owner of a page, or the first of these files that lists it
abbrev pub owner_listed : List ListedFile → ℕ → ℕ → ℕ
owner_listed files page owner = option_map_or (λ f. f.ino) (find (λ f. is_among page (f.index ++ f.blocks)) files) owner

-- the owner of a page, unless it is gone
abbrev pub owner_staying : Listing → ℕ → ℕ
owner_staying l owner = if is_gone l owner then 0 else owner
