-- The rows and owners after an accepted bundle, by its listing and the tables before it.
use Rattle.std.specs.Prelude.{ℕ, ◌==◌, Bool, not, ◌&&◌, ◌||◌, List, ◌++◌, Option, Some, None, if◌then◌else◌, slice_index}
use Rattle.std.specs.List.{find}
use Rattle.std.specs.Option.{option_map, option_map_or}
use Rattle.trio_rights.specs.Row.{Row, row_in}
use Rattle.trio_lists.specs.Lists.{is_among}
use Rattle.trio_layout.specs.Listing.{Listing, ListedEntry}
use Rattle.trio_layout.specs.Edges.{has_file, is_listed}

-- a row with the directory and the place of an entry
abbrev pub placed_row : ListedEntry → Row → Row
placed_row e r =
    record { kind = r.kind; mode = r.mode; uid = r.uid; gid = r.gid; parent = e.dir; page = e.page; slot = e.slot }

-- A judged file has the row that is listed, any other file that an entry names its row at the entry's place, a held
-- file that is listed nowhere none, and every other number what it had.
abbrev pub row_after : Listing → List (Option Row) → ℕ → Option Row
row_after l rows n =
    option_map_or (λ f. Some f.row)
    (find (λ f. f.ino == n) l.files)
    (option_map_or (λ e. option_map (placed_row e) (row_in rows n))
    (find (λ e. e.ino == n) l.entries)
    (if is_among n l.held then None else row_in rows n))

-- the file of this number gives up all its pages that it doesn't list again: it is judged, or held and gone
abbrev pub gives_up : Listing → ℕ → Bool
gives_up l n = has_file l n || (is_among n l.held && not (is_listed l n))

-- A core page has the judged file for an owner that lists it, else the owner that it had, unless that gives it up.
abbrev pub owner_after : Listing → List ℕ → ℕ → ℕ
owner_after l owners page =
    option_map_or (λ f. f.ino)
    (find (λ f. is_among page (f.index ++ f.blocks)) l.files)
    (if gives_up l (slice_index owners page) then 0 else slice_index owners page)
