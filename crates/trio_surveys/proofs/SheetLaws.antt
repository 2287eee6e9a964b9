-- Pages that are set: the page itself, and every other.
use Rattle.trio_surveys.proofs.Words.{◌∙◌, ◌∷◌, ◌≡◌, Core, List, None, Option, Sheet, Some, [], ap, arith, cond, eqb, false, is_among, is_core, length, length-set, option_and_then, option_map, page_of, refl, sheet_numbers, slice_get, slice_index_or, slice_set, suc, with_pages, zero, ℕ}
use Rattle.std.proofs.lemmas.Bool.{or_parts}
use Rattle.std.proofs.lemmas.Bool.Decides.{nat_tests}

-- a page as it is read, by its place in the list
pub page_at : (pages : List (Option (List ℕ))) (n : ℕ) → slice_index_or pages n None ≡ option_and_then (λ x. x) (slice_get pages n)
page_at [] n = refl
page_at (p ∷ ps) zero = refl
page_at (p ∷ ps) (suc n) = page_at ps n

pub page_of_at : (core : Core) (n : ℕ) → page_of core n ≡ cond (is_core core.range n) (option_and_then (λ x. x) (slice_get core.pages n)) None
page_of_at core n = ap (λ o. cond (is_core core.range n) o None) (page_at core.pages n)

pub get-set_same : {X : Type 0} (pages : List X) (k : ℕ) (x : X) → slice_get (slice_set pages k x) k ≡ option_map (λ _. x) (slice_get pages k)
get-set_same [] k x = refl
get-set_same (p ∷ ps) zero x = refl
get-set_same (p ∷ ps) (suc k) x = get-set_same ps k x

pub get-set_other : {X : Type 0} (pages : List X) (k n : ℕ) (x : X) → eqb k n ≡ false → slice_get (slice_set pages k x) n ≡ slice_get pages n
get-set_other [] k n x e = refl
get-set_other (p ∷ ps) zero zero x e = absurd cc
get-set_other (p ∷ ps) zero (suc n) x e = refl
get-set_other (p ∷ ps) (suc k) zero x e = refl
get-set_other (p ∷ ps) (suc k) (suc n) x e =
    let e' : eqb k n ≡ false = grind (arith, nat_tests) in get-set_other ps k n x e'

pub length-with_pages : (ss : List Sheet) (pages : List (Option (List ℕ))) → length (with_pages ss pages) ≡ length pages
length-with_pages [] pages = refl
length-with_pages (s ∷ ss) pages = length-with_pages ss (slice_set pages s.page (Some s.bytes)) ∙ length-set pages s.page (Some s.bytes)

-- only the pages that are put in place differ
pub with_pages-other : (ss : List Sheet) (pages : List (Option (List ℕ))) (n : ℕ) → is_among n (sheet_numbers ss) ≡ false → slice_get (with_pages ss pages) n ≡ slice_get pages n
with_pages-other [] pages n e = refl
with_pages-other (s ∷ ss) pages n e =
    let p = or_parts (eqb s.page n) (is_among n (sheet_numbers ss)) e in
    with_pages-other ss (slice_set pages s.page (Some s.bytes)) n p.1 ∙ get-set_other pages s.page n (Some s.bytes) p.0
