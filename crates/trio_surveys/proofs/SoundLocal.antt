-- Soundness goes by the pages that are read.
use Rattle.trio_surveys.proofs.Words.{◌∙◌, ◌∷◌, ◌≡◌, AgreeOn, Core, In, List, Met, Option, Pick, [], ap, are_in_grammar, are_new, children, children_in, file_of, flat_map-same, is_ok, is_sound, list_all-In, list_all-each, listed_numbers, listed_pages, numbers, pages_in, pages_of, survey, true, with_other, ℕ}
use Rattle.trio_surveys.proofs.Local.{file_agrees, survey_local}
use Rattle.trio_surveys.proofs.Owned.{sound_parts, sound_from}

pub agreeing_sound : (core : Core) (pages : List (Option (List ℕ))) (pick : Pick) → is_sound core pick ≡ true → AgreeOn core (with_other core pages) (survey core pick) → is_sound (with_other core pages) pick ≡ true
agreeing_sound core pages pick sound agree =
    let other : Core = with_other core pages in
    let files : List Met = survey core pick in
    let p = sound_parts core pick sound in
    let same : survey other pick ≡ files = survey_local core pages pick p.grammar agree in
    let file : (m : Met) → In m files → file_of other m ≡ file_of core m = λ m i. file_agrees core pages files p.grammar agree m i in
    let listed : listed_numbers other pick files ≡ listed_numbers core pick files =
    flat_map-same (λ m. numbers (children other pick m)) (λ m. numbers (children core pick m)) files (λ m i. ap (λ o. numbers (children_in pick m.ino o)) (file m i)) in
    let paged : listed_pages other files ≡ listed_pages core files = flat_map-same (pages_of other) (pages_of core) files (λ m i. ap pages_in (file m i)) in
    sound_from other pick (record {
      grammar = ap (are_in_grammar other) same ∙ list_all-each (λ m. is_ok (file_of other m)) files (λ m i. ap is_ok (file m i) ∙ list_all-In (λ m. is_ok (file_of core m)) m files p.grammar i);
      numbered = ap (λ fs. are_new (1 ∷ []) (listed_numbers other pick fs)) same ∙ ap (are_new (1 ∷ [])) listed ∙ p.numbered;
      paged = ap (λ fs. are_new [] (listed_pages other fs)) same ∙ ap (are_new []) paged ∙ p.paged;
    })
