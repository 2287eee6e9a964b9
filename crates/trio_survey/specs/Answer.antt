-- What a survey answers.
use Rattle.std.specs.Prelude.{◌≡◌, ℕ, false, List, Option, ⊤}
use Rattle.trio_layout.specs.declared.range.CoreRange.{CoreRange}
use Rattle.trio_layout.specs.Core.{Core}
use Rattle.trio_layout.specs.Survey.{Pick}
use Rattle.trio_layout.specs.Sound.{is_sound, FailsAt}
use Rattle.trio_survey.specs.declared.fault.SurveyFault.{SurveyFault}
use Rattle.trio_survey.specs.declared.fault.SurveyFault.TheVariants.{Fails, NoMemory}

-- the core of these pages and this root
abbrev pub core_of : List (Option (List ℕ)) → List ℕ → CoreRange → ℕ → Core
core_of pages root range inodes = record { pages = pages; root = root; range = range; inodes = inodes }

-- The survey isn't sound: the rule is the lowest that fails, and fails at this file and place. Want of memory says nothing.
abbrev pub IsRefused : Core → Pick → SurveyFault → Type 0
IsRefused core pick (Fails rule ino page slot) =
    (is_sound core pick ≡ false) × FailsAt core pick rule ino (record { page = page; slot = slot })
IsRefused core pick NoMemory = ⊤
