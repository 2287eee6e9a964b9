-- What a survey and a comparison of the stored tables say of an image of version 1.
use Rattle.trio_survey.proofs.Words.{◌∙◌, ◌∷◌, ◌≡◌, Core, Fails, List, NoMemory, Option, Pick, Row, Superblock, SurveyFault, and_parts, ap, arith, core_in, false≢true, inl, inr, is_ok, list_all-append, plain, survey, sym, true, ℕ}
use Rattle.trio_layout.specs.Core.{Location}
use Rattle.trio_survey.specs.OldVersion.{are_in_old_grammar, old_file_of, IsOld, IsOldDenied, LeavesOldGrammar}
use Rattle.trio_survey.specs.inner.Compared.{IsTableFault}
use Rattle.trio_survey.specs.inner.Old.{IsRefusedBy}
use Rattle.trio_survey.proofs.Verdicts.{AreFound}

-- where a file leaves its grammar not all are in it
leaves_not_old : (core : Core) (pick : Pick) (ino : ℕ) (place : Location) → LeavesOldGrammar core pick ino place → are_in_old_grammar core (survey core pick) ≡ true → ⊥
leaves_not_old core pick ino place l good =
    let split = list_all-append (λ x. is_ok (old_file_of core x)) l.earlier (l.met ∷ l.later) in
    let parts = and_parts (are_in_old_grammar core l.earlier) (are_in_old_grammar core (l.met ∷ l.later)) (sym split ∙ ap (are_in_old_grammar core) (sym l.order) ∙ good) in
    let one = and_parts (is_ok (old_file_of core l.met)) (are_in_old_grammar core l.later) parts.1 in
    false≢true (ap is_ok (sym l.fault) ∙ one.0)

pub old_denied_by_survey : (s : Superblock) (pages : List (Option (List ℕ))) (e : SurveyFault) → IsRefusedBy true (core_in s pages) plain e → IsOldDenied s pages e
old_denied_by_survey s pages (Fails rule ino page slot) (inl f) =
    (λ v. leaves_not_old (core_in s pages) plain ino (record { page = page; slot = slot }) f.1 v.old, inl f)
old_denied_by_survey s pages (Fails rule ino page slot) (inr f) =
    (λ v. false≢true (sym f.2.0 ∙ v.verify.sound), inr (λ e. omega (arith, f.0, e), f.1, inl f.2.1))
old_denied_by_survey s pages NoMemory r = tt

pub old_denied_by_tables : (s : Superblock) (pages : List (Option (List ℕ))) (rows : List (Option Row)) (owners : List ℕ) (e : SurveyFault) → AreFound s pages rows owners → IsOld (core_in s pages) → IsTableFault s pages rows owners e → IsOldDenied s pages e
old_denied_by_tables s pages rows owners (Fails rule ino page slot) found old f =
    let g = rw (found.rows_are, found.owners_are) at f in
    (λ v. g.1 v.verify.tables, inr (λ e. omega (arith, g.0, e), old, inr (g.0, found.sound, g.2)))
old_denied_by_tables s pages rows owners NoMemory found old f = tt
