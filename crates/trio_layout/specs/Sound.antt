-- When a survey is sound: rules I1 and I2 of the files met.
use Rattle.std.specs.Prelude.{ℕ, ◌≡◌, ◌+◌, nat_lt, Bool, ◌&&◌, ◌⊎◌, List, [], ◌∷◌, ◌++◌, map, is_ok, IsTrue, Option, if◌then◌else◌, Err}
use Rattle.std.specs.List.{flat_map, list_all}
use Rattle.trio_rights.specs.Row.{Row}
use Rattle.trio_lists.specs.Lists.{In, is_among, are_new, tabulated}
use Rattle.trio_layout.specs.declared.refusal.Rule.TheVariants.{Grammar, Owning}
use Rattle.trio_layout.specs.Rule.{rule_number}
use Rattle.trio_layout.specs.Core.{Core, Location, at_page}
use Rattle.trio_layout.specs.Survey.{Met, Pick, file_of, survey, children, numbers, pages_of, row_of, owner_of}

-- I1: each file met has its body, its chain and, of a directory, its slots in the grammar, and its names differ
abbrev pub are_in_grammar : Core → List Met → Bool
are_in_grammar core files = list_all (λ m. is_ok (file_of core m)) files

-- the files that the directories list, in order
abbrev pub listings : Core → Pick → List Met → List Met
listings core pick files = flat_map (children core pick) files

-- the inode numbers that the directories list, in order
abbrev pub listed_numbers : Core → Pick → List Met → List ℕ
listed_numbers core pick files = flat_map (λ m. numbers (children core pick m)) files

-- the pages that the files list, in order
abbrev pub listed_pages : Core → List Met → List ℕ
listed_pages core files = flat_map (pages_of core) files

-- I2: no inode number is listed twice, the root nowhere, and no page is listed twice
abbrev pub are_listed_once : Core → Pick → List Met → Bool
are_listed_once core pick files =
    are_new (1 ∷ []) (listed_numbers core pick files) && are_new [] (listed_pages core files)

-- both rules, of the files that the survey meets
abbrev pub is_sound : Core → Pick → Bool
is_sound core pick = let files = survey core pick in are_in_grammar core files && are_listed_once core pick files

-- the survey is sound
abbrev pub IsSound : Core → Pick → Type 0
IsSound core pick = IsTrue (is_sound core pick)

-- ---- at which file and place a rule fails

-- the file can't be read whole, because of this place
pub record LeavesGrammar (core : Core) (files : List Met) (ino : ℕ) (place : Location) : Type 0 where
  pub met : Met
  pub among : In met files
  pub number : met.ino ≡ ino
  pub fault : file_of core met ≡ Err place

-- the directory lists a number at this place that is the root's, or that a directory lists before
pub record ListsNumberAgain (core : Core) (pick : Pick) (files : List Met) (ino : ℕ) (place : Location) : Type 0 where
  pub earlier : List Met
  pub again : Met
  pub later : List Met
  pub order : listings core pick files ≡ earlier ++ again ∷ later
  pub parent : again.parent ≡ ino
  pub page : again.page ≡ place.page
  pub slot : again.slot ≡ place.slot
  pub seen : IsTrue (is_among again.ino (1 ∷ numbers earlier))

-- a file, and a page that it lists
pub record PageListing : Type 0 where
  pub ino : ℕ
  pub page : ℕ

-- the listings of pages, in order
abbrev pub page_listings : Core → List Met → List PageListing
page_listings core files = flat_map (λ m. map (λ p. record { ino = m.ino; page = p }) (pages_of core m)) files

-- the file lists a page that a file lists before, or it itself
pub record ListsPageAgain (core : Core) (files : List Met) (ino : ℕ) (place : Location) : Type 0 where
  pub earlier : List PageListing
  pub later : List PageListing
  pub again : ℕ
  pub order : page_listings core files ≡ earlier ++ record { ino = ino; page = again } ∷ later
  pub seen : IsTrue (is_among again (map (λ l. l.page) earlier))
  pub place_is : place ≡ at_page again

-- the lowest rule that fails of a survey's files, with a file and a place at which it fails
abbrev pub FailsAt : Core → Pick → ℕ → ℕ → Location → Type 0
FailsAt core pick rule ino place =
    let files = survey core pick in
    ((rule ≡ rule_number Grammar) × LeavesGrammar core files ino place)
    ⊎ ((rule ≡ rule_number Owning) × IsTrue (are_in_grammar core files)
    × (ListsNumberAgain core pick files ino place ⊎ ListsPageAgain core files ino place))

-- ---- the tables of a survey

-- the row of each inode number, from 0 up to the last; 0 has none
abbrev pub rows_table : Core → List Met → List (Option Row)
rows_table core files = tabulated (row_of core files) (core.inodes + 1)

-- the owner of each page: of those below the first core page the controller, of each other the file that lists it, else 0
abbrev pub owners_table : Core → List Met → List ℕ
owners_table core files =
    tabulated (λ page. if nat_lt page core.range.first then 0xFFFFFFFF else owner_of core files page) core.range.end
