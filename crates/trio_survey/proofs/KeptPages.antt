-- Places for core pages.
use Rattle.trio_survey.proofs.Words.{◌++◌, ◌+◌, ◌∷◌, ◌≡◌, ◌≤◌, List, None, Option, [], arith, cond, count_by-le-length, get_or, is_some, kept_count, length, refl, suc, zero, ℕ}
use Rattle.std.specs.List.{sum_by}
use Rattle.std.proofs.lemmas.List.Sums.{sum_by-append}

-- no more pages were looked at than have a place
pub few_kept : (kept : List (Option (Option (List ℕ)))) → kept_count kept ≤ length kept
few_kept kept = count_by-le-length is_some kept

-- one place more, of a page that wasn't looked at
pub same_more : (kept : List (Option (Option (List ℕ)))) (i : ℕ) → get_or (kept ++ None ∷ []) i None ≡ get_or kept i None
same_more [] zero = refl
same_more [] (suc i) = refl
same_more (p ∷ kept) zero = refl
same_more (p ∷ kept) (suc i) = same_more kept i

pub count_more : (kept : List (Option (Option (List ℕ)))) → kept_count (kept ++ None ∷ []) ≡ kept_count kept
count_more kept =
    let one : Option (Option (List ℕ)) → ℕ = λ p. cond (is_some p) 1 0 in
    let s : kept_count (kept ++ None ∷ []) ≡ kept_count kept + sum_by one (None ∷ []) = sum_by-append one kept (None ∷ []) in
    let z : sum_by one (None ∷ []) ≡ 0 = refl in
    omega (arith, s, z)
