-- A core with rows: the files of live numbers, and when they are one tree.
use Rattle.std.specs.Prelude.{◌≡◌, ◌≢◌, ◌↔◌, ◌≤◌, ℕ, suc, ◌==◌, List, [], ◌∷◌, Option, Some, None, is_some, length, if◌then◌else◌, IsTrue}
use Rattle.std.specs.List.{flat_map, count_by}
use Rattle.trio_rights.specs.declared.kind.Kind.TheVariants.{Directory}
use Rattle.trio_rights.specs.Row.{Row, row_in}
use Rattle.trio_lists.specs.Lists.{In, are_new}
use Rattle.trio_lists.specs.Counting.{count_up}
use Rattle.trio_layout.specs.Core.{Core}
use Rattle.trio_layout.specs.Survey.{Met, Pick, plain, survey}
use Rattle.trio_layout.specs.Sound.{IsSound, listings, listed_numbers, listed_pages, are_in_grammar}
use Rattle.trio_layout.specs.Image.{Image, IsFit, body_at_place}
use Rattle.trio_layout.specs.Verifies.{Verifies}
use Rattle.trio_layout.specs.Edges.{climbs, row_parent}

-- the file of a live number: of its row's kind, at its row's place, with the body that is picked there
abbrev pub file_at_row : Core → Pick → ℕ → Row → Met
file_at_row core pick n r = record {
  ino = n;
  kind = r.kind;
  parent = r.parent;
  page = r.page;
  slot = r.slot;
  body = if n == 1 then core.root else pick r.parent r.page r.slot n (body_at_place core r.page r.slot);
}

-- the file of a number, if it is live
abbrev pub live_at : Core → Pick → ℕ → Option Row → List Met
live_at core pick n None = []
live_at core pick n (Some r) = file_at_row core pick n r ∷ []

-- the files of the live numbers, in rising order
abbrev pub live_files : Core → Pick → List (Option Row) → List Met
live_files core pick rows = flat_map (λ n. live_at core pick n (row_in rows n)) (count_up 1 core.inodes)

-- The root is live, a directory with parent 0 and place 0, 0. The live numbers are numbers of the table. Their files are in the
-- grammar and list no page twice, and where a live number is listed at its row's place the entry has its row's kind.
pub record HasRows (core : Core) (pick : Pick) (rows : List (Option Row)) : Type 0 where
  pub root : Row
  pub root_row : row_in rows 1 ≡ Some root
  pub root_kind : root.kind ≡ Directory
  pub root_parent : root.parent ≡ 0
  pub root_page : root.page ≡ 0
  pub root_slot : root.slot ≡ 0
  pub none : row_in rows 0 ≡ None
  pub many : length rows ≡ suc core.inodes
  pub grammar : IsTrue (are_in_grammar core (live_files core pick rows))
  pub pages_once : IsTrue (are_new [] (listed_pages core (live_files core pick rows)))
  pub kinds :
      (m : Met) (r : Row) → In m (listings core pick (live_files core pick rows)) → row_in rows m.ino ≡ Some r
      → m.parent ≡ r.parent → m.page ≡ r.page → m.slot ≡ r.slot → m.kind ≡ r.kind

-- the survey is sound and meets just the live numbers, each in its row's parent and at its row's place
pub record MeetsRows (core : Core) (pick : Pick) (rows : List (Option Row)) : Type 0 where
  pub sound : IsSound core pick
  pub met : (n : ℕ) (r : Row) → row_in rows n ≡ Some r → In (file_at_row core pick n r) (survey core pick)
  pub just :
      (m : Met) → In m (survey core pick)
      → (r : Row) × (row_in rows m.ino ≡ Some r) × (m ≡ file_at_row core pick m.ino r)

-- the number's entry, in its row's parent and at its row's place
pub record IsAtRow (m : Met) (n : ℕ) (r : Row) : Type 0 where
  pub number : m.ino ≡ n
  pub parent : m.parent ≡ r.parent
  pub page : m.page ≡ r.page
  pub slot : m.slot ≡ r.slot

-- Each live number but the root is listed once by the live directories, in its row's parent and at its row's place; nothing else is
-- listed; and every climb over the rows' parents reaches the root within as many steps as there are live numbers.
pub record ListsRows (core : Core) (pick : Pick) (rows : List (Option Row)) : Type 0 where
  pub listed :
      (n : ℕ) (r : Row) → row_in rows n ≡ Some r → n ≢ 1
      → (m : Met) × In m (listings core pick (live_files core pick rows)) × IsAtRow m n r
  pub once : IsTrue (are_new [] (listed_numbers core pick (live_files core pick rows)))
  pub nothing_else :
      (m : Met) → In m (listings core pick (live_files core pick rows))
      → (m.ino ≢ 1) × IsTrue (is_some (row_in rows m.ino))
  pub climb : (n : ℕ) → IsTrue (is_some (row_in rows n)) → IsTrue (climbs (row_parent rows) (count_by is_some rows) n)

-- over a core with rows the survey is sound and meets just the live numbers, each where its row says, exactly where the rows
-- say all that is listed and every climb reaches the root
abbrev pub RowsAreSurvey : Type 0
RowsAreSurvey =
    (core : Core) (pick : Pick) (rows : List (Option Row)) → 1 ≤ core.inodes → HasRows core pick rows
    → MeetsRows core pick rows ↔ ListsRows core pick rows

-- the core of an image that verifies is one with the image's rows
abbrev pub VerifiedHasRows : Type 0
VerifiedHasRows = (image : Image) → IsFit image.core → Verifies image → HasRows image.core plain image.rows
