-- What the steps of a judgement answer, in the words of the code's tables. Cited by private functions alone.
use Rattle.std.specs.Prelude.{◌≡◌, ◌≢◌, ◌<◌, ◌≤◌, ℕ, zero, suc, ◌==◌, nat_le, Bool, false, not, ◌&&◌, ◌||◌, List, [], ◌∷◌, ◌++◌, Option, Some, None, IsSome, IsTrue, is_some, if◌then◌else◌, length, map, slice_index_or, unwrap_or}
use Rattle.std.specs.List.{find}
use Rattle.std.specs.Option.{option_map, option_map_or}
use Rattle.trio_rights.specs.Row.{Row, row_in}
use Rattle.trio_rights.specs.declared.rights.Creds.{Creds}
use Rattle.trio_layout.specs.Entries.{body_in_slot}
use Rattle.trio_lists.specs.Lists.{In}
use Rattle.trio_lists.specs.Marked.{MarksJust}
use Rattle.trio_layout.specs.Survey.{Met}
use Rattle.trio_lease.specs.Shown.{LentFile}
use Rattle.trio_rights.specs.Sheets.{Sheet, sheet_numbers, with_pages}
use Rattle.trio_lease.specs.Views.{lent_sheet}
use Rattle.trio_layout.specs.Allowed.{same_row, has_owner}
use Rattle.trio_survey.specs.declared.picks.Picked.{Picked}

-- ---- bodies that are kept

-- the body of the first lease on this file
abbrev pub lent_body : List LentFile → ℕ → Option (List ℕ)
lent_body leases n = option_map (λ f. f.stands.body) (find (λ f. f.stands.ino == n) leases)

-- the body of each file that is written, by its number
abbrev pub AreLentBodies : List LentFile → List (Option (List ℕ)) → Type 0
AreLentBodies leases bodies = (n : ℕ) → n < length bodies → slice_index_or bodies n None ≡ lent_body leases n

-- the body in a slot of one of these pages
abbrev pub body_on : List (Option (List ℕ)) → ℕ → ℕ → List ℕ
body_on pages page slot = option_map_or (body_in_slot slot) (slice_index_or pages page None) []

-- each live number but the root's stands in a slot of a page that is there
abbrev pub ArePlaced : List (Option (List ℕ)) → List (Option Row) → Type 0
ArePlaced pages rows = (n : ℕ) (r : Row) → row_in rows n ≡ Some r → n ≢ 1 → (r.slot < 16) × IsSome (slice_index_or pages r.page None)

-- the settled body of the number that has this row
abbrev pub settled_at : List (Option (List ℕ)) → List ℕ → ℕ → Row → List ℕ
settled_at pages root n r = if n == 1 then root else body_on pages r.page r.slot

-- the body that it keeps: its lease's, or the settled one
abbrev pub kept_at : List (Option (List ℕ)) → List ℕ → List (Option (List ℕ)) → ℕ → Row → List ℕ
kept_at pages root written n r = unwrap_or (slice_index_or written n None) (settled_at pages root n r)

-- the body that each live number keeps
abbrev pub AreKept : List (Option (List ℕ)) → List ℕ → List (Option Row) → List (Option (List ℕ)) → List (Option (List ℕ)) → Type 0
AreKept pages root rows written kept = (n : ℕ) → slice_index_or kept n None ≡ option_map (kept_at pages root written n) (row_in rows n)

-- a body at the place that a row names
abbrev pub picked_by : Option Row → Option (List ℕ) → Option Picked
picked_by None body = None
picked_by (Some r) None = None
picked_by (Some r) (Some body) = Some (record { parent = r.parent; page = r.page; slot = r.slot; body = body })

-- each live number has its body at its place
abbrev pub ArePicked : List (Option Row) → List (Option (List ℕ)) → List (Option Picked) → Type 0
ArePicked rows kept picks = (n : ℕ) → slice_index_or picks n None ≡ picked_by (row_in rows n) (slice_index_or kept n None)

-- ---- pages that are put and marked

-- these pages were put in place of others, and their numbers marked
pub record ArePut (sheets : List Sheet) (before after : List (Option (List ℕ))) (marks marks' : List Bool) : Type 0 where
  pub pages : after ≡ with_pages sheets before
  pub marked : (seen : List ℕ) → MarksJust marks seen → MarksJust marks' (seen ++ sheet_numbers sheets)
  pub many : length marks' ≡ length marks

-- each of these pages has its place among so many
abbrev pub AreWithin : ℕ → List Sheet → Type 0
AreWithin count sheets = (x : Sheet) → In x sheets → x.page < count

-- the same, and each of them is whole; cited by tests alone
abbrev pub AreFit : ℕ → List Sheet → Type 0
AreFit count sheets = (x : Sheet) → In x sheets → (x.page < count) × (length x.bytes ≡ 4096)

-- the pages of a lease: the index pages, then the blocks
abbrev pub lease_sheets : LentFile → List Sheet
lease_sheets f = map lent_sheet f.stands.index ++ map lent_sheet f.stands.blocks

-- ---- what may change

-- what is asked of the row of a number: that of a live one stays, and one that comes has a number of the bundle and this owner
abbrev pub row_may : Creds → Bool → Option Row → Option Row → Bool
row_may creds handed before after =
    if is_some before then same_row before after else (not (is_some after) || (handed && has_owner creds after))

abbrev pub RowsMay : Creds → List Bool → List (Option Row) → List (Option Row) → Type 0
RowsMay creds numbers rows found =
    (n : ℕ) → 1 ≤ n → n < length rows → IsTrue (row_may creds (slice_index_or numbers n false) (row_in rows n) (row_in found n))

-- what is asked of the owner of a core page: none, or the page is the bundle's, or the owner is live and not written
abbrev pub owner_may : List (Option Row) → List (Option (List ℕ)) → Bool → ℕ → Bool
owner_may rows written handed owner =
    owner == 0 || handed || (is_some (row_in rows owner) && not (is_some (slice_index_or written owner None)))

abbrev pub OwnersMay : List (Option Row) → List (Option (List ℕ)) → List Bool → List ℕ → ℕ → ℕ → Type 0
OwnersMay rows written pages owners first end =
    (p : ℕ) → first ≤ p → p < end → IsTrue (owner_may rows written (slice_index_or pages p false) (slice_index_or owners p 0))

-- ---- bodies that are put at their places

-- the file of a number with this row and body
abbrev pub met_by : ℕ → Option Row → Option (List ℕ) → List Met
met_by n None body = []
met_by n (Some r) None = []
met_by n (Some r) (Some body) =
    record { ino = n; kind = r.kind; parent = r.parent; page = r.page; slot = r.slot; body = body } ∷ []

-- the files of the numbers below n, but for the root
abbrev pub mets_below : List (Option Row) → List (Option (List ℕ)) → ℕ → List Met
mets_below rows kept zero = []
mets_below rows kept (suc n) =
    mets_below rows kept n ++ (if nat_le n 1 then [] else met_by n (row_in rows n) (slice_index_or kept n None))
