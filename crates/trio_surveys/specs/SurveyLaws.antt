-- Laws of surveys, as they are to be read.
use Rattle.std.specs.Prelude.{◌≡◌, ◌≢◌, ◌≤◌, ◌⊎◌, ℕ, List, ◌∷◌, ◌++◌, map, Option, Ok, IsTrue, slice_get}
use Rattle.trio_lists.specs.Lists.{In}
use Rattle.trio_rights.specs.Sheets.{Sheet, sheet_numbers, with_pages}
use Rattle.trio_layout.specs.Core.{Core}
use Rattle.trio_layout.specs.Survey.{Met, Pick, plain, FileRead, file_of, survey, root_of, children}
use Rattle.trio_layout.specs.Sound.{are_in_grammar, listings, IsSound}
use Rattle.trio_layout.specs.Image.{IsFit, body_at_place}
use Rattle.trio_layout.specs.Accept.{with_bodies}
use Rattle.trio_surveys.specs.Reading.{AgreeOn, picked_entry, with_picked_bodies}

-- the cores differ in their pages alone
pub record IsAlike (a b : Core) : Type 0 where
  pub range : b.range ≡ a.range
  pub inodes : b.inodes ≡ a.inodes
  pub root : b.root ≡ a.root

-- two cores that differ in pages alone have one survey where each file that the first survey meets lists the same in both,
-- each by its own pick
abbrev pub SurveyFollows : Type 0
SurveyFollows = (a b : Core) (p q : Pick) → IsAlike a b → ((m : Met) → In m (survey a p) → children b q m ≡ children a p m) → survey b q ≡ survey a p

-- a survey goes by the pages that it reads: where all files met are in the grammar, another core that agrees on the pages read
-- of them has the same survey
abbrev pub SurveyIsLocal : Type 0
SurveyIsLocal = (a b : Core) (pick : Pick) → IsAlike a b → IsTrue (are_in_grammar a (survey a pick)) → AgreeOn a b (survey a pick) → survey b pick ≡ survey a pick

-- soundness goes by the pages that are read
abbrev pub SoundnessIsLocal : Type 0
SoundnessIsLocal = (a b : Core) (pick : Pick) → IsAlike a b → IsSound a pick → AgreeOn a b (survey a pick) → IsSound b pick

-- a sound survey is one tree: the root, and what its files list, each listing once
abbrev pub SurveyIsTree : Type 0
SurveyIsTree = (core : Core) (pick : Pick) → 1 ≤ core.inodes → IsSound core pick → survey core pick ≡ root_of core ∷ listings core pick (survey core pick)

-- each file that a sound survey meets reads the same once the picked bodies are at their places, with these bodies in its slots
abbrev pub FileKeeps : Type 0
FileKeeps = (core : Core) (pick : Pick) → IsFit core → IsSound core pick → (m : Met) (f : FileRead) → In m (survey core pick) → file_of core m ≡ Ok f → file_of (with_picked_bodies core pick) m ≡ Ok (record f { entries = map (picked_entry pick m.ino) f.entries })

-- the plain survey of the core with the picked bodies at their places is the survey with the pick, and sound as it is
abbrev pub BodiesInPlace : Type 0
BodiesInPlace = (core : Core) (pick : Pick) → IsFit core → IsSound core pick → (survey (with_picked_bodies core pick) plain ≡ survey core pick) × IsSound (with_picked_bodies core pick) plain

-- The bodies of a sound survey can be put at their places in any order, and a body that stands in its slot already can be left
-- out.
abbrev pub BodiesInAnyOrder : Type 0
BodiesInAnyOrder =
    (core : Core) (pick : Pick) (ms : List Met) → IsFit core → IsSound core pick
    → ((m : Met) → In m ms → In m (survey core pick) × (m.ino ≢ 1))
    → ((m : Met) → In m (survey core pick) → m.ino ≢ 1 → In m ms ⊎ (m.body ≡ body_at_place core m.page m.slot))
    → with_bodies ms core.pages ≡ with_bodies (survey core pick) core.pages

-- Pages at home, sheets that stay aside, sheets that come home, and all sheets that stood aside before: of each page that doesn't
-- come, those that stay say the same as all. Bodies have their places on pages of neither, on pages that stay aside, and on pages
-- that come.
pub record StandApart (home : List (Option (List ℕ))) (staying coming all : List Sheet) (elsewhere aside brought : List Met) : Type 0 where
  pub apart : (p : ℕ) → In p (sheet_numbers staying) → In p (sheet_numbers coming) → ⊥
  pub settled : (p : ℕ) → (In p (sheet_numbers coming) → ⊥) → slice_get (with_pages all home) p ≡ slice_get (with_pages staying home) p
  pub elsewhere_stand : (m : Met) → In m elsewhere → (In m.page (sheet_numbers staying) → ⊥) × (In m.page (sheet_numbers coming) → ⊥)
  pub aside_stand : (m : Met) → In m aside → In m.page (sheet_numbers staying)
  pub brought_stand : (m : Met) → In m brought → In m.page (sheet_numbers coming)
  pub no_root : (m : Met) → In m (elsewhere ++ aside ++ brought) → m.ino ≢ 1

-- Then the bodies can be put part by part: first those elsewhere, then, once the sheets have come, those on them, and those aside on
-- the sheets that stay. With these in place that is as if all were put on what stood before with the sheets that come.
abbrev pub BodiesInParts : Type 0
BodiesInParts =
    (home : List (Option (List ℕ))) (staying coming all : List Sheet) (elsewhere aside brought : List Met)
    → StandApart home staying coming all elsewhere aside brought
    → with_bodies aside (with_pages staying (with_bodies brought (with_pages coming (with_bodies elsewhere home))))
    ≡ with_bodies (elsewhere ++ aside ++ brought) (with_pages coming (with_pages all home))
