-- How far a walk over the judged files has come. Cited by private functions alone.
use Rattle.std.specs.Prelude.{ℕ, ◌≡◌, ◌+◌, ◌*◌, ◌<◌, ◌≤◌, ◌==◌, ◌⊎◌, Bool, true, false, ◌&&◌, IsFalse, List, [], ◌∷◌, ◌++◌, length, map, take, drop, Option, None, MatchOption, is_ok, if◌then◌else◌, slice_index_or, vec_capacity, vec_len}
use Rattle.std.specs.List.{list_all, list_any, flat_map, filter}
use Rattle.std.specs.Option.{option_map_or}
use Rattle.trio_rights.specs.Row.{row_in}
use Rattle.trio_rights.specs.Bundle.{bundle_pages, is_written}
use Rattle.trio_lists.specs.Lists.{In, is_among, are_new}
use Rattle.trio_lists.specs.Sorting.{sorted_by}
use Rattle.trio_rights.specs.ByKind.{is_directory}
use Rattle.trio_layout.specs.declared.body.Body.{Body}
use Rattle.trio_layout.specs.declared.refusal.FaultAt.{FaultAt}
use Rattle.trio_layout.specs.Survey.{Met, numbers, first_listed}
use Rattle.trio_layout.specs.Case.{Case, file_in}
use Rattle.trio_layout.specs.JudgedFiles.{written_files, entries_in, new_entries, judged_files, judged_entries, pages_within}
use Rattle.trio_layout.specs.Listing.{Listing, entry_listed, file_listed}
use Rattle.trio_layout.specs.Rules.{entry_in_grammar, entry_is_own, entry_keeps_rights, file_keeps_rights, has_rights}
use Rattle.trio_layout.specs.Broken.{BreaksOwning, BreaksRights}
use Rattle.trio_layout.proofs.QueueLaws.{pass_many}
use Rattle.trio_case.specs.Order.{place_of, AreMarked}
use Rattle.trio_case.specs.declared.entries.DirEntry.{DirEntry}
use Rattle.trio_case.specs.declared.listing.ListingRoom.{ListingRoom}
use Rattle.trio_judge.specs.declared.walk.JudgedFile.{JudgedFile}
use Rattle.trio_judge.specs.declared.walk.Walk.{Walk}

-- ---- how it is seen

-- a judged file, or an entry
abbrev pub file_met : JudgedFile → Met
file_met f = record { ino = f.ino; kind = f.kind; parent = f.parent; page = f.page; slot = f.slot; body = f.body }

-- the file that an entry of this directory lists
abbrev pub listed_met : ℕ → DirEntry → Met
listed_met directory l = record { ino = l.ino; kind = l.kind; parent = directory; page = l.page; slot = l.slot; body = l.body }

-- the files found, in order
abbrev pub files_of : Walk → List Met
files_of w = map file_met w.files.items

-- a file's body of this number keeps the rights
abbrev pub body_keeps_rights : Case → ℕ → Body → Bool
body_keeps_rights c ino b =
    if is_written c.bundle ino then has_rights (row_in c.rows ino) b else (b.uid == c.creds.uid && b.gid == c.creds.gid)

-- the entry names one of the bundle's numbers
abbrev pub is_new : Case → Met → Bool
is_new c e = is_among e.ino c.bundle.numbers

-- ---- pages

-- one of these pages that is none of the bundle's, or that stands before it
pub record IsForeign (own before pages : List ℕ) (page : ℕ) : Type 0 where
  pub earlier : List ℕ
  pub later : List ℕ
  pub order : pages ≡ earlier ++ page ∷ later
  pub fault : (is_among page own ≡ false) ⊎ (is_among page (before ++ earlier) ≡ true)

-- all these pages are the bundle's, and new, and now they have their marks
pub record AreOwn (own before pages : List ℕ) (marks : List Bool) : Type 0 where
  pub own_all : list_all (λ p. is_among p own) pages ≡ true
  pub new : are_new before pages ≡ true
  pub marked : AreMarked own marks (before ++ pages)

-- the first of these pages that is foreign; none where all are the bundle's and new
abbrev pub FirstForeign : List ℕ → List ℕ → List ℕ → List Bool → Option ℕ → Type 0
FirstForeign own before pages marks first = MatchOption first (AreOwn own before pages marks) (IsForeign own before pages)

-- ---- what was found of the files passed and the entries passed

-- the pages of these files and these entries are the bundle's, each listed once
pub record Owns (c : Case) (done es : List Met) : Type 0 where
  pub pages : list_all (λ page. is_among page (bundle_pages c.bundle)) (flat_map (pages_within c) done) ≡ true
  pub pages_once : are_new [] (flat_map (pages_within c) done) ≡ true
  pub entries : list_all (entry_is_own c) es ≡ true
  pub entries_once : are_new [] (numbers es) ≡ true

-- these files and these entries keep the rights
pub record KeepRights (c : Case) (done es : List Met) : Type 0 where
  pub files : list_all (λ m. file_keeps_rights c m (file_in c m)) done ≡ true
  pub entries : list_all (entry_keeps_rights c) es ≡ true

-- whatever files and entries come behind these, I2 fails here
abbrev pub OwningFails : Case → List Met → List Met → FaultAt → Type 0
OwningFails c done es p =
    (rest more : List Met) → judged_files c ≡ done ++ rest → judged_entries c ≡ es ++ more → BreaksOwning c p.ino p.place

-- whatever files and entries come behind these, I4 fails here
abbrev pub RightsFail : Case → List Met → List Met → FaultAt → Type 0
RightsFail c done es p =
    (rest more : List Met) → judged_files c ≡ done ++ rest → judged_entries c ≡ es ++ more → BreaksRights c p.ino p.place

-- what these files and entries list
abbrev pub listing_of : Case → List Met → List Met → Listing
listing_of c done es = record {
  held = sorted_by (λ n. n) c.bundle.holds;
  files = flat_map (λ m. file_listed m (file_in c m)) done;
  entries = map (entry_listed c) es;
}

-- no fault of I2 was found
pub record Lists (c : Case) (done es : List Met) (w : Walk) : Type 0 where
  pub owns : Owns c done es
  pub rights : MatchOption w.rights (KeepRights c done es) (RightsFail c done es)
  pub listing : w.listing.listing ≡ listing_of c done es
  pub pages : AreMarked (bundle_pages c.bundle) w.pages.items (flat_map (pages_within c) done)

-- a fault of I2 was found, or none so far
abbrev pub IsListed : Case → List Met → List Met → Walk → Type 0
IsListed c done es w = MatchOption w.owning (Lists c done es w) (OwningFails c done es)

-- these files and entries are in the grammar, and the walk has found what they are
pub record Stands (c : Case) (done es : List Met) (w : Walk) : Type 0 where
  pub read : list_all (λ m. is_ok (file_in c m)) done ≡ true
  pub grammar : list_all (entry_in_grammar c) es ≡ true
  pub listed : IsListed c done es w

-- the first so many files are passed, with all their entries
abbrev pub IsPassed : Case → ℕ → Walk → Type 0
IsPassed c at w = Stands c (take at (files_of w)) (flat_map (entries_in c) (take at (files_of w))) w

-- the queue after so many files
pub record IsQueued (c : Case) (at : ℕ) (w : Walk) : Type 0 where
  pub inside : at ≤ length (files_of w)
  pub queued : pass_many (new_entries c) at (record { passed = []; level = written_files c }) ≡ record { passed = take at (files_of w); level = drop at (files_of w) }

-- ---- the memory

-- the numbers that judged files may have
abbrev pub own_numbers : Case → List ℕ
own_numbers c = map (λ w. w.ino) c.bundle.writes ++ c.bundle.numbers

-- By the places of these numbers, whether a file of the number was found; of no other number one was.
abbrev pub is_found : List ℕ → List Bool → ℕ → Bool
is_found own marks n = option_map_or (λ at. slice_index_or marks at false) (place_of n own) false

-- a mark for each of these numbers, set for just the files found
pub record AreFound (own : List ℕ) (marks : List Bool) (files : List ℕ) : Type 0 where
  pub places : length marks ≡ length own
  pub each : (n : ℕ) → is_found own marks n ≡ is_among n files

-- a directory is written
abbrev pub writes_directory : Case → Bool
writes_directory c = list_any (λ w. is_directory w.kind) c.bundle.writes

-- A listing of this room has a place for all that may be listed. That is entries only where a directory is written.
pub record HasListingRoom (c : Case) (room : ListingRoom) : Type 0 where
  pub files : length (own_numbers c) ≤ room.files
  pub index : length (bundle_pages c.bundle) ≤ room.index
  pub blocks : length (bundle_pages c.bundle) ≤ room.blocks
  pub entries : writes_directory c ≡ true → 16 * length (bundle_pages c.bundle) ≤ room.entries

-- The files found are each found once and are the bundle's, the written ones among them. One is a directory only where a directory
-- is written. There is a place for all that may be found.
pub record IsReady (c : Case) (w : Walk) : Type 0 where
  pub fit : (n : ℕ) → In n (own_numbers c) → n < c.inodes + 1
  pub once : are_new [] (numbers (files_of w)) ≡ true
  pub own : (n : ℕ) → In n (numbers (files_of w)) → In n (own_numbers c)
  pub written : (n : ℕ) → In n (map (λ x. x.ino) c.bundle.writes) → In n (numbers (files_of w))
  pub found : AreFound (own_numbers c) w.found.items (numbers (files_of w))
  pub lists : (m : Met) → In m (files_of w) → is_directory m.kind ≡ true → writes_directory c ≡ true
  pub places : length (own_numbers c) ≤ vec_capacity w.files
  pub pages : vec_len w.pages ≡ length (bundle_pages c.bundle)
  pub room : HasListingRoom c w.listing.room

-- the listing has a place for so many entries more, as long as there is one
abbrev pub PlacesLeft : ℕ → Walk → Type 0
PlacesLeft n w = w.owning ≡ None → length w.listing.listing.entries + n ≤ w.listing.room.entries

-- ---- one step

-- the queue is as it was, and so is the room
pub record SameQueue (w w' : Walk) : Type 0 where
  pub files : w'.files ≡ w.files
  pub found : w'.found ≡ w.found
  pub pages : vec_len w'.pages ≡ vec_len w.pages
  pub room : w'.listing.room ≡ w.listing.room

-- what was found of the files and entries passed is as it was
pub record SameFindings (w w' : Walk) : Type 0 where
  pub pages : w'.pages ≡ w.pages
  pub listing : w'.listing ≡ w.listing
  pub owning : w'.owning ≡ w.owning
  pub rights : w'.rights ≡ w.rights

-- before this file is noted: it is one file more than those that are listed
pub record IsOnWay (c : Case) (m : Met) (w : Walk) : Type 0 where
  pub done : List Met
  pub es : List Met
  pub stands : Stands c done es w
  pub few : length done < length (own_numbers c)

-- these entries were noted
pub record Noted (c : Case) (xs : List Met) (w w' : Walk) : Type 0 where
  pub stands : (done es : List Met) → Stands c done es w → Stands c done (es ++ xs) w'
  pub grows : files_of w' ≡ files_of w ++ first_listed (numbers (files_of w)) (filter (is_new c) xs)
  pub ready : IsReady c w'
  pub places : (n : ℕ) → PlacesLeft (length xs + n) w → PlacesLeft n w'

-- the body of one of these entries isn't in the grammar
abbrev pub BadEntry : Case → List Met → FaultAt → Type 0
BadEntry c xs p =
    (e : Met) × In e xs × (e.parent ≡ p.ino) × (e.page ≡ p.place.page) × (e.slot ≡ p.place.slot) × IsFalse (entry_in_grammar c e)

-- ---- the walk from its start to its end

-- a walk that has passed no file and found no fault
pub record Starts (c : Case) (w : Walk) : Type 0 where
  pub queued : IsQueued c 0 w
  pub passed : IsPassed c 0 w
  pub ready : IsReady c w
  pub owning : w.owning ≡ None
  pub rights : w.rights ≡ None

-- the files found are the judged files
pub record HasEnded (c : Case) (w : Walk) : Type 0 where
  pub files : judged_files c ≡ files_of w
