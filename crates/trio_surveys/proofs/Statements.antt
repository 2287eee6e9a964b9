-- The laws of surveys, each from the lemmas that carry it.
use Rattle.trio_surveys.proofs.Words.{◌∙◌, ◌≡◌, AgreeOn, Core, Pick, ap, arith, is_sound, subst, survey, with_other}
use Rattle.trio_surveys.specs.SurveyLaws.{IsAlike, SurveyFollows, SurveyIsLocal, SoundnessIsLocal, SurveyIsTree, FileKeeps, BodiesInPlace}
use Rattle.trio_surveys.proofs.Local.{survey_follows as follows, survey_local}
use Rattle.trio_surveys.proofs.SoundLocal.{agreeing_sound}
use Rattle.trio_surveys.proofs.Tree.{survey_tree}
use Rattle.trio_surveys.proofs.Picked.{file_put, survey_put, sound_put}

core_is : (a b : Core) → IsAlike a b → b ≡ with_other a b.pages
core_is a b alike = search arith

agree_still : (a b : Core) (pick : Pick) → IsAlike a b → AgreeOn a b (survey a pick) → AgreeOn a (with_other a b.pages) (survey a pick)
agree_still a b pick alike agree =
    let P : Core → Type 0 = λ c. AgreeOn a c (survey a pick) in subst P (core_is a b alike) agree

pub survey_follows : SurveyFollows
survey_follows a b p q alike same = search (arith, core_is, follows)

pub survey_is_local : SurveyIsLocal
survey_is_local a b pick alike grammar agree =
    ap (λ (c : Core). survey c pick) (core_is a b alike) ∙ survey_local a b.pages pick grammar (agree_still a b pick alike agree)

pub soundness_is_local : SoundnessIsLocal
soundness_is_local a b pick alike sound agree =
    ap (λ (c : Core). is_sound c pick) (core_is a b alike) ∙ agreeing_sound a b.pages pick sound (agree_still a b pick alike agree)

pub survey_is_tree : SurveyIsTree
survey_is_tree core pick one sound = survey_tree core pick one sound

pub file_keeps : FileKeeps
file_keeps core pick fit sound m f i read = file_put core pick fit sound m f i read

pub bodies_in_place : BodiesInPlace
bodies_in_place core pick fit sound = (survey_put core pick fit sound, sound_put core pick fit sound)
