-- How many distinct members a list may have.
use Rattle.trio_case.proofs.Words.{◌∙◌, ◌∷◌, ◌≡◌, ◌≤◌, ◌⊎◌, Bool, In, List, [], ap, are_new, are_new-first, arith, cond, eqb, false, false≢true, inl, inr, length, nat_tests, refl, subst, suc, sym, true, ℕ}

-- distinct members of a list are no more than it has
abbrev without : ℕ → List ℕ → List ℕ
without n [] = []
without n (x ∷ xs) = cond (eqb x n) xs (x ∷ without n xs)

without_step : (b : Bool) (n x : ℕ) (xs : List ℕ) → eqb x n ≡ b → (In n xs → suc (length (without n xs)) ≡ length xs) → (n ≡ x) ⊎ In n xs → suc (length (cond b xs (x ∷ without n xs))) ≡ suc (length xs)
without_step true n x xs e h i = refl
without_step false n x xs e h (inl s) = absurd (false≢true (sym e ∙ (let t : eqb x n ≡ true = grind (arith, nat_tests) in t)))
without_step false n x xs e h (inr i) = ap suc (h i)

shorter : (n : ℕ) (xs : List ℕ) → In n xs → suc (length (without n xs)) ≡ length xs
shorter n [] i = absurd i
shorter n (x ∷ xs) i = without_step (eqb x n) n x xs refl (shorter n xs) i

others_step : (b : Bool) (n k x : ℕ) (xs : List ℕ) → eqb x n ≡ b → (k ≡ n → ⊥) → (In k xs → In k (without n xs)) → (k ≡ x) ⊎ In k xs → In k (cond b xs (x ∷ without n xs))
others_step true n k x xs e d h (inl s) = let t : x ≡ n = grind (arith, nat_tests) in absurd (d (s ∙ t))
others_step true n k x xs e d h (inr i) = i
others_step false n k x xs e d h (inl s) = inl s
others_step false n k x xs e d h (inr i) = inr (h i)

others : (n k : ℕ) (xs : List ℕ) → (k ≡ n → ⊥) → In k xs → In k (without n xs)
others n k [] d i = absurd i
others n k (x ∷ xs) d i = others_step (eqb x n) n k x xs refl d (others n k xs d) i

pub no_more : (xs ys : List ℕ) → are_new [] xs ≡ true → ((n : ℕ) → In n xs → In n ys) → length xs ≤ length ys
no_more [] ys h i = omega arith
no_more (x ∷ xs) ys h i =
    let apart = are_new-first x xs h in
    let rest : length xs ≤ length (without x ys) = no_more xs (without x ys) apart.1 (λ k j. others x k ys (λ e. apart.0 (subst (λ n. In n xs) e j)) (i k (inr j))) in
    let one : suc (length (without x ys)) ≡ length ys = shorter x ys (i x (inl refl)) in
    omega (arith, rest, one)
