-- Images of version 1. Their formats are today's but for the field of the version, and they know neither links nor the guard: so a file
-- is read by version 1 as today, and a guard and an entry of a link are outside its grammar.
use Rattle.std.specs.Prelude.{◌≡◌, ◌≢◌, ℕ, ◌*◌, ◌⊎◌, Bool, true, List, [], ◌∷◌, ◌++◌, Option, None, Some, Result, Ok, Err, is_ok, IsTrue, if◌then◌else◌, length, take, ⊤}
use Rattle.std.specs.List.{list_all}
use Rattle.trio_rights.specs.ByKind.{is_link}
use Rattle.trio_lists.specs.Lists.{result_then}
use Rattle.trio_layout.specs.declared.refusal.Rule.TheVariants.{Grammar}
use Rattle.trio_layout.specs.declared.superblock.Superblock.{Superblock}
use Rattle.trio_layout.specs.Rule.{rule_number}
use Rattle.trio_layout.specs.Superblock.{IsSuperblockOf}
use Rattle.trio_layout.specs.Core.{Core, Location, nowhere}
use Rattle.trio_layout.specs.Entries.{Listed, place_of}
use Rattle.trio_layout.specs.Survey.{Met, Pick, plain, FileRead, file_of, survey}
use Rattle.trio_survey.specs.Stored.{core_in, pages_in, PagesVerify}
use Rattle.trio_survey.specs.Verdict.{ImageFailsAt}
use Rattle.trio_survey.specs.declared.fault.SurveyFault.{SurveyFault}
use Rattle.trio_survey.specs.declared.fault.SurveyFault.TheVariants.{Fails, NoMemory}

-- the version before today's
abbrev pub old_version : ℕ
old_version = 1

-- the place of the first of these entries that is a link's
abbrev pub first_link : List Listed → Option Location
first_link [] = None
first_link (l ∷ ls) = if is_link l.entry.kind then Some (place_of l) else first_link ls

-- what of a file version 1 doesn't know, by its first place: a guard, or an entry of a link
abbrev pub new_place : FileRead → Option Location
new_place f = if f.body.guard then Some nowhere else first_link f.entries

-- the file, unless there is such a place
abbrev pub unless_new : FileRead → Option Location → Result FileRead Location
unless_new f None = Ok f
unless_new f (Some place) = Err place

-- A file that is met, read whole by version 1. Else the place where it leaves today's grammar, or that of version 1.
abbrev pub old_file_of : Core → Met → Result FileRead Location
old_file_of core m = result_then (λ f. unless_new f (new_place f)) (file_of core m)

-- each of these files is in the grammar of version 1
abbrev pub are_in_old_grammar : Core → List Met → Bool
are_in_old_grammar core files = list_all (λ m. is_ok (old_file_of core m)) files

-- The first file of a survey that version 1 can't read, and where. The files before it are the same by both versions, and so
-- version 1 meets it too.
pub record LeavesOldGrammar (core : Core) (pick : Pick) (ino : ℕ) (place : Location) : Type 0 where
  pub earlier : List Met
  pub met : Met
  pub later : List Met
  pub order : survey core pick ≡ earlier ++ met ∷ later
  pub before : are_in_old_grammar core earlier ≡ true
  pub number : met.ino ≡ ino
  pub fault : old_file_of core met ≡ Err place

-- the files that are met from the root are in the grammar of version 1
abbrev pub IsOld : Core → Type 0
IsOld core = IsTrue (are_in_old_grammar core (survey core plain))

-- the pages behind the first are those of an image of version 1 with this superblock, and it verifies
pub record OldPagesVerify (s : Superblock) (pages : List (Option (List ℕ))) : Type 0 where
  pub verify : PagesVerify s pages
  pub old : IsOld (core_in s pages)

-- The lowest rule that fails of an image of version 1, and where: I1 where a file leaves its grammar; else what fails of the image by today's rules.
abbrev pub OldImageFailsAt : Superblock → List (Option (List ℕ)) → ℕ → ℕ → Location → Type 0
OldImageFailsAt s pages rule ino place =
    ((rule ≡ rule_number Grammar) × LeavesOldGrammar (core_in s pages) plain ino place)
    ⊎ ((rule ≢ rule_number Grammar) × IsOld (core_in s pages) × ImageFailsAt s pages rule ino place)

-- The pages don't verify by version 1: the rule is the lowest that fails, and fails at this file and place. Want of memory says nothing.
abbrev pub IsOldDenied : Superblock → List (Option (List ℕ)) → SurveyFault → Type 0
IsOldDenied s pages (Fails rule ino page slot) =
    (OldPagesVerify s pages → ⊥) × OldImageFailsAt s pages rule ino (record { page = page; slot = slot })
IsOldDenied s pages NoMemory = ⊤

-- The bytes are those of an image of version 1 that verifies: its superblock is in that version's grammar and tells the length, and its
-- pages verify by that version.
pub record OldBytesVerify (bytes : List ℕ) : Type 0 where
  pub superblock : Superblock
  pub read : IsSuperblockOf old_version (take 4096 bytes) superblock
  pub whole : length bytes ≡ 4096 * superblock.pages
  pub verify : OldPagesVerify superblock (pages_in superblock.pages bytes)
