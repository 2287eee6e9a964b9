-- A walk by today's grammar or by that of version 1. Cited by private functions alone.
use Rattle.std.specs.Prelude.{◌≡◌, ◌⊎◌, Bool, true, false, ℕ, List, Option, None, map, take, if◌then◌else◌, ⊤}
use Rattle.trio_layout.specs.declared.refusal.Rule.TheVariants.{Grammar, Owning}
use Rattle.trio_layout.specs.Rule.{rule_number}
use Rattle.trio_layout.specs.Core.{Core, Location}
use Rattle.trio_layout.specs.Survey.{Met, Pick, FileRead, survey}
use Rattle.trio_survey.specs.Answer.{IsRefused}
use Rattle.trio_survey.specs.OldVersion.{are_in_old_grammar, new_place, LeavesOldGrammar}
use Rattle.trio_survey.specs.Seen.{met_seen}
use Rattle.trio_survey.specs.declared.fault.SurveyFault.{SurveyFault}
use Rattle.trio_survey.specs.declared.fault.SurveyFault.TheVariants.{Fails, NoMemory}
use Rattle.trio_survey.specs.declared.walk.Walk.{Walk}
use Rattle.trio_survey.specs.inner.Walk.{IsFault}

-- where version 1 is asked, the place of what it doesn't know of a file
abbrev pub place_unknown : Bool → FileRead → Option Location
place_unknown old f = if old then new_place f else None

-- where version 1 is asked, the files are in its grammar
abbrev pub AreOld : Bool → Core → List Met → Type 0
AreOld old core files = old ≡ true → are_in_old_grammar core files ≡ true

-- the same of the files that a walk has passed
abbrev pub WalkOld : Bool → Core → ℕ → Walk → Type 0
WalkOld old core i w = AreOld old core (take i (map met_seen w.files.items))

-- a file and place at which the version that is asked fails; want of memory says nothing
abbrev pub IsFaultBy : Bool → Core → Pick → SurveyFault → Type 0
IsFaultBy false core pick e = IsFault core pick e
IsFaultBy true core pick (Fails rule ino page slot) = (rule ≡ rule_number Grammar) × LeavesOldGrammar core pick ino (record { page = page; slot = slot })
IsFaultBy true core pick NoMemory = ⊤

-- The survey isn't sound by the version that is asked.
abbrev pub IsRefusedBy : Bool → Core → Pick → SurveyFault → Type 0
IsRefusedBy false core pick e = IsRefused core pick e
IsRefusedBy true core pick (Fails rule ino page slot) =
    ((rule ≡ rule_number Grammar) × LeavesOldGrammar core pick ino (record { page = page; slot = slot }))
    ⊎ ((rule ≡ rule_number Owning) × (are_in_old_grammar core (survey core pick) ≡ true) × IsRefused core pick (Fails rule ino page slot))
IsRefusedBy true core pick NoMemory = ⊤
