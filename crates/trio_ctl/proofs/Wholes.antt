-- Lists of whole pages, and pages by number.
use Rattle.trio_ctl.proofs.Words.{if◌then◌else◌, ◌==◌, ◌∙◌, ◌∷◌, ◌≡◌, Bool, List, None, Option, Some, [], and_parts, ap, eqb-true, false, get_or, is_whole_page, length, list_all, refl, slice_get, suc, sym, true, zero, ℕ}

-- a page of whole ones has 4096 bytes
pub whole_at : (pages : List (Option (List ℕ))) (p : ℕ) (bytes : List ℕ) → list_all is_whole_page pages ≡ true → get_or pages p None ≡ Some bytes → length bytes ≡ 4096
whole_at [] p bytes w e = absurd cc
whole_at (None ∷ pages) p bytes w e = absurd cc
whole_at (Some page ∷ pages) zero bytes w e =
    let same : page ≡ bytes = cc in
    ap length (sym same) ∙ eqb-true (length page) 4096 (and_parts (length page == 4096) (list_all is_whole_page pages) w).0
whole_at (Some page ∷ pages) (suc p) bytes w e =
    whole_at pages p bytes (and_parts (length page == 4096) (list_all is_whole_page pages) w).1 e

-- none of whole pages is absent
pub whole_none : (pages : List (Option (List ℕ))) (p : ℕ) → list_all is_whole_page pages ≡ true → slice_get pages p ≡ Some None → ⊥
whole_none [] p w e = absurd cc
whole_none (None ∷ pages) p w e = absurd cc
whole_none (Some page ∷ pages) zero w e = absurd cc
whole_none (Some page ∷ pages) (suc p) w e = whole_none pages p (and_parts (length page == 4096) (list_all is_whole_page pages) w).1 e

pub cond_there : {X : Type 0} (b : Bool) (o : Option X) (x : X) → (if b then o else None) ≡ Some x → o ≡ Some x
cond_there true o x e = e
cond_there false o x e = absurd cc

pub cond_same : {X : Type 0} (b : Bool) (o o' : Option X) → (b ≡ true → o ≡ o') → (if b then o else None) ≡ (if b then o' else None)
cond_same true o o' h = h refl
cond_same false o o' h = refl
