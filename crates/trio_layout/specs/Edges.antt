-- Rule I3 on a bundle, over its listing and the rows of the image alone.
use Rattle.std.specs.Prelude.{ℕ, zero, suc, ◌==◌, Bool, true, not, ◌&&◌, ◌||◌, List, Option, None, Some, length}
use Rattle.std.specs.List.{list_all, list_any, find}
use Rattle.std.specs.Option.{option_map_or}
use Rattle.trio_rights.specs.declared.kind.Kind.TheVariants.{Directory}
use Rattle.trio_rights.specs.Row.{Row, row_in, is_child}
use Rattle.trio_lists.specs.Lists.{is_among}
use Rattle.trio_layout.specs.Allowed.{all_up_to, has_kind}
use Rattle.trio_layout.specs.Listing.{Listing, ListedEntry}

-- the parent that the row of a number names; 0 where the number isn't live
abbrev pub row_parent : List (Option Row) → ℕ → ℕ
row_parent rows n = option_map_or (λ r. r.parent) (row_in rows n) 0

-- the proposed parent: of a listed file the directory that lists it, of any other the row's parent
abbrev pub proposed_parent : Listing → List (Option Row) → ℕ → ℕ
proposed_parent l rows n = option_map_or (λ e. e.dir) (find (λ e. e.ino == n) l.entries) (row_parent rows n)

-- the climb from a number reaches the root within so many steps
abbrev pub climbs : (ℕ → ℕ) → ℕ → ℕ → Bool
climbs parent zero n = n == 1
climbs parent (suc k) n = n == 1 || climbs parent k (parent n)

-- the climb from a number reaches the root within so many steps, and doesn't meet this directory on its way
abbrev pub climbs_clear : (ℕ → ℕ) → ℕ → ℕ → ℕ → Bool
climbs_clear parent directory zero n = n == 1
climbs_clear parent directory (suc k) n =
    n == 1 || (not (n == directory) && climbs_clear parent directory k (parent n))

-- an entry names this number
abbrev pub is_listed : Listing → ℕ → Bool
is_listed l n = list_any (λ e. e.ino == n) l.entries

-- a kept child has this number
abbrev pub is_listed_kept : Listing → ℕ → Bool
is_listed_kept l n = list_any (λ e. e.ino == n && e.kept) l.entries

-- the file of this number is judged
abbrev pub has_file : Listing → ℕ → Bool
has_file l n = list_any (λ f. f.ino == n) l.files

-- A recorded child of a written directory that isn't held is listed as a kept child. (The judged files are the
-- written ones and new ones, which have no recorded children.)
abbrev pub stays_listed : Listing → ℕ → Option Row → Bool
stays_listed l n None = true
stays_listed l n (Some r) = not (has_file l r.parent) || is_among n l.held || is_listed_kept l n

-- every recorded child does so
abbrev pub keeps_children : Listing → List (Option Row) → Bool
keeps_children l rows = all_up_to (λ n. stays_listed l n (row_in rows n)) (length rows)

-- a held file that is listed nowhere has no recorded children
abbrev pub leaves_none : Listing → List (Option Row) → ℕ → Bool
leaves_none l rows n = is_listed l n || not (list_any (is_child n) rows)

-- the entry names a held directory and isn't a kept child
abbrev pub is_moved : Listing → List (Option Row) → ListedEntry → Bool
is_moved l rows e = is_among e.ino l.held && not e.kept && has_kind Directory (row_in rows e.ino)

-- from such a directory the climb over proposed parents reaches the root without meeting it again
abbrev pub comes_to_root : Listing → List (Option Row) → ListedEntry → Bool
comes_to_root l rows e =
    not (is_moved l rows e)
    || climbs_clear (proposed_parent l rows) e.ino (length rows) (proposed_parent l rows e.ino)

-- I3: no recorded child is lost, no held file is dropped over its children, and no held directory is moved below itself
abbrev pub meets_edges : Listing → List (Option Row) → Bool
meets_edges l rows =
    keeps_children l rows && list_all (leaves_none l rows) l.held && list_all (comes_to_root l rows) l.entries
