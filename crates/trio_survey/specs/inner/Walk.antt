-- How far a walk over the files with a queue has come. Cited by private functions alone.
use Rattle.std.specs.Prelude.{◌≡◌, ℕ, ◌+◌, ◌<◌, ◌≤◌, ◌⊎◌, nat_lt, Bool, false, true, List, [], ◌∷◌, ◌++◌, length, map, take, drop, Option, Some, None, MatchOption, if◌then◌else◌, slice_set, slice_index, slice_index_or, ⊤}
use Rattle.std.specs.List.{count_by, list_all}
use Rattle.trio_rights.specs.Row.{Row}
use Rattle.trio_lists.specs.Lists.{is_among, are_new}
use Rattle.trio_layout.specs.declared.body.Body.{Body}
use Rattle.trio_layout.specs.Core.{Core, Location, at_page}
use Rattle.trio_layout.specs.Chain.{Chain}
use Rattle.trio_layout.specs.Entries.{Listed, place_of}
use Rattle.trio_lists.specs.Marked.{MarksJust, all_below}
use Rattle.trio_layout.specs.Queue.{queue}
use Rattle.trio_layout.specs.Survey.{Met, Pick, children, first_listed, met_in, numbers, owner_of, root_of, row_by, row_of}
use Rattle.trio_layout.specs.Sound.{are_in_grammar, are_listed_once, listed_numbers, listed_pages, FailsAt, ListsNumberAgain, ListsPageAgain}
use Rattle.trio_survey.specs.Seen.{met_seen}
use Rattle.trio_survey.specs.Within.{all_some}
use Rattle.trio_survey.specs.inner.Again.{KnowsAllHeads}
use Rattle.trio_survey.specs.declared.blocks.DirEntry.{DirEntry}
use Rattle.trio_survey.specs.declared.walk.CoreFrame.{CoreFrame}
use Rattle.trio_survey.specs.declared.walk.Walk.{Walk}
use Rattle.trio_survey.specs.declared.fault.SurveyFault.{SurveyFault}
use Rattle.trio_survey.specs.declared.fault.SurveyFault.TheVariants.{Fails, NoMemory}
use Rattle.trio_layout.specs.declared.refusal.FaultAt.{FaultAt}

-- the core of these pages
abbrev pub framed : List (Option (List ℕ)) → CoreFrame → Core
framed pages frame = record { pages = pages; root = frame.root; range = frame.range; inodes = frame.inodes }

-- one of these numbers, which is among those before it
pub record Repeats (before these : List ℕ) (n : ℕ) : Type 0 where
  pub earlier : List ℕ
  pub later : List ℕ
  pub order : these ≡ earlier ++ n ∷ later
  pub seen : is_among n (before ++ earlier) ≡ true

-- the place of one of these entries whose number is among those before it
pub record RepeatsEntry (before : List ℕ) (these : List Listed) (place : Location) : Type 0 where
  pub earlier : List Listed
  pub again : Listed
  pub later : List Listed
  pub order : these ≡ earlier ++ again ∷ later
  pub place_is : place_of again ≡ place
  pub seen : is_among again.entry.ino (before ++ map (λ l. l.entry.ino) earlier) ≡ true

-- the first of these numbers that is among those before it; none where each is new
abbrev pub FirstRepeat : List ℕ → List ℕ → Option ℕ → Type 0
FirstRepeat before these first = MatchOption first (are_new before these ≡ true) (Repeats before these)

-- the same for entries and their numbers
abbrev pub FirstEntry : List ℕ → List Listed → Option Location → Type 0
FirstEntry before these first =
    MatchOption first (are_new before (map (λ l. l.entry.ino) these) ≡ true) (λ p. RepeatsEntry before these p)

-- the files are those that are marked, each once
pub record AreMarked (files : List Met) (marks : List Bool) : Type 0 where
  pub marked : MarksJust marks (numbers files)
  pub counted : count_by (λ b. b) marks ≡ length files

-- whether each of these entries has a mark at its number
abbrev pub are_marked : List Bool → List DirEntry → Bool
are_marked marks entries = list_all (λ l. slice_index_or marks l.ino false) entries

-- the files that are met after these entries of a directory, and the first entry that lists a number again
pub record Grows (pick : Pick) (directory : ℕ) (old now : List Met) (marks : List Bool) (first : Option Location) (entries : List Listed) : Type 0 where
  pub added : now ≡ old ++ first_listed (numbers old) (map (met_in pick directory) entries)
  pub marked : AreMarked now marks
  pub repeat : FirstEntry (numbers old) entries first

-- at this file and place a number or a page is listed again
abbrev pub RepeatsAt : Core → Pick → List Met → ℕ → Location → Type 0
RepeatsAt core pick files ino place = ListsNumberAgain core pick files ino place ⊎ ListsPageAgain core files ino place

abbrev pub RepeatsBy : Core → Pick → List Met → FaultAt → Type 0
RepeatsBy core pick files r = RepeatsAt core pick files r.ino r.place

-- where these files list something again; none where they list all once
abbrev pub IsFirstRepeat : Core → Pick → List Met → Option FaultAt → Type 0
IsFirstRepeat core pick files twice = MatchOption twice (are_listed_once core pick files ≡ true) (RepeatsBy core pick files)

-- what a file lists again, by the first repeated index page, block and entry of it
abbrev pub entry_repeat : ℕ → Option Location → Option FaultAt
entry_repeat ino None = None
entry_repeat ino (Some p) = Some (record { ino = ino; place = p })

abbrev pub page_repeat : ℕ → Option ℕ → Option FaultAt → Option FaultAt
page_repeat ino None other = other
page_repeat ino (Some page) other = Some (record { ino = ino; place = at_page page })

abbrev pub file_repeat : ℕ → Option ℕ → Option ℕ → Option Location → Option FaultAt
file_repeat ino index block entry = page_repeat ino index (page_repeat ino block (entry_repeat ino entry))

-- The first i files are passed: what the walk has found of them, with the marks over numbers and pages.
pub record Stands (core : Core) (pick : Pick) (i : ℕ) (files : List Met) (marks used : List Bool) (twice : Option FaultAt) : Type 0 where
  pub inside : i ≤ length files
  pub queued : queue (children core pick) (root_of core) i ≡ record { passed = take i files; level = drop i files }
  pub good : are_in_grammar core (take i files) ≡ true
  pub marked : AreMarked files marks
  pub same : (n : ℕ) → is_among n (numbers files) ≡ is_among n (1 ∷ listed_numbers core pick (take i files))
  pub pages : MarksJust used (listed_pages core (take i files))
  pub once : IsFirstRepeat core pick (take i files) twice
  pub fit : all_below (core.inodes + 1) (numbers files) ≡ true
  pub some : all_some (numbers files) ≡ true
  pub many_marks : length marks ≡ core.inodes + 1
  pub many_used : length used ≡ core.range.end

-- the owner of a page, by the files that list it
abbrev pub owner_in : Core → List Met → ℕ → ℕ
owner_in core files page = if nat_lt page core.range.first then 0xFFFFFFFF else owner_of core files page

-- the tables are those of the files passed
pub record Tabled (core : Core) (done : List Met) (owners : List ℕ) (rows : List (Option Row)) : Type 0 where
  pub each_page : are_new [] (listed_pages core done) ≡ true → (page : ℕ) → page < length owners → slice_index owners page ≡ owner_in core done page
  pub each_file : (n : ℕ) → n < length rows → slice_index_or rows n None ≡ row_of core done n
  pub many_owners : length owners ≡ core.range.end
  pub many_rows : length rows ≡ core.inodes + 1

-- the tables have the file's row and pages now
pub record Entered (m : Met) (b : Body) (c : Chain) (owners owners' : List ℕ) (rows rows' : List (Option Row)) : Type 0 where
  pub owned : (p : ℕ) → p < length owners' → slice_index owners' p ≡ (if is_among p (c.index ++ c.blocks) then m.ino else slice_index owners p)
  pub rowed : rows' ≡ slice_set rows m.ino (Some (row_by m b))
  pub many_owners : length owners' ≡ length owners

-- the same of a walk as the code has it
abbrev pub WalkStands : Core → Pick → ℕ → Walk → Type 0
WalkStands core pick i w = Stands core pick i (map met_seen w.files.items) w.met.items w.used.items w.repeated

abbrev pub WalkTables : Core → ℕ → Walk → Type 0
WalkTables core i w = Tabled core (take i (map met_seen w.files.items)) w.owners w.rows

abbrev pub WalkHeads : Core → ℕ → Walk → Type 0
WalkHeads core i w = KnowsAllHeads core (take i (map met_seen w.files.items)) w.heads

-- a file and place at which the survey fails; want of memory says nothing
abbrev pub IsFault : Core → Pick → SurveyFault → Type 0
IsFault core pick (Fails rule ino page slot) = FailsAt core pick rule ino (record { page = page; slot = slot })
IsFault core pick NoMemory = ⊤
