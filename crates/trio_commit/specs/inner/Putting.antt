-- Bodies as they are put in place, one after another.
use Rattle.std.specs.Prelude.{◌≡◌, ◌≢◌, ◌<◌, ◌==◌, ℕ, List, Option, Some, None, is_some, length, false, if◌then◌else◌, IsTrue, slice_index_or, slice_set}
use Rattle.std.specs.Option.{option_map, option_map_or}
use Rattle.trio_lists.specs.Lists.{In, is_among}
use Rattle.trio_rights.specs.Row.{Row}
use Rattle.trio_rights.specs.Sheets.{sheet_numbers}
use Rattle.trio_layout.specs.Survey.{Met}
use Rattle.trio_layout.specs.Listing.{ListedEntry}
use Rattle.trio_lease.specs.Shown.{LentFile}
use Rattle.trio_checkpoint.specs.Covered.{Checkpointed, with_body}
use Rattle.trio_commit.specs.Bodies.{IsPlaced, placed_files}
use Rattle.trio_commit.specs.declared.taken_page.TakenPage.{TakenPage}
use Rattle.trio_commit.specs.inner.Files.{leases_in}

-- the bodies of these leases have places
abbrev pub ArePlaced : List (Option Row) → List (Option Checkpointed) → List LentFile → Type 0
ArePlaced rows checkpoints files = (m : Met) → In m (placed_files rows (leases_in files)) → IsPlaced checkpoints m

-- the checkpoint covers this directory page, if it is there
abbrev pub Covers : ℕ → Option Checkpointed → Type 0
Covers page checkpoint = (c : Checkpointed) → checkpoint ≡ Some c → IsTrue (is_among page (sheet_numbers c.blocks))

-- the checkpoint with this body in a slot of a directory page
abbrev pub with_body_on : ℕ → ℕ → List ℕ → Checkpointed → Checkpointed
with_body_on page slot body c =
    record { ino = c.ino; body = c.body; chain = c.chain; index = c.index; blocks = with_body page slot body c.blocks }

-- no entry names the root
abbrev pub NamesNoRoot : List ListedEntry → Type 0
NamesNoRoot entries = (e : ListedEntry) → In e entries → e.ino ≢ 1

-- ---- a page that is taken

-- the pages with the one that was taken back in its place
abbrev pub with_taken : Option TakenPage → List (Option (List ℕ)) → List (Option (List ℕ))
with_taken None pages = pages
with_taken (Some t) pages = slice_set pages t.no.0 t.page

-- none stands at its place meanwhile, which is one of the image
abbrev pub IsAway : Option TakenPage → List (Option (List ℕ)) → Type 0
IsAway None pages = Unit {0}
IsAway (Some t) pages = (slice_index_or pages t.no.0 None ≡ None) × (IsTrue (is_some t.page) → t.no.0 < length pages)

-- one look for another page than the one that is taken, else none
abbrev pub looks_for : ℕ → Option TakenPage → ℕ
looks_for page taken = if option_map_or (λ t. t.no.0 == page) taken false then 0 else 1

-- the number of the page that is taken
abbrev pub taken_number : Option TakenPage → Option ℕ
taken_number taken = option_map (λ t. t.no.0) taken
