-- How many elements of a list pass a test.
use Rattle.trio_laws.proofs.Words.{◌+◌, ◌<◌, ◌∙◌, ◌∷◌, ◌≡◌, ◌≤◌, Bool, In, List, None, Option, [], ap, are_new, are_new-first, arith, cases_eq, cases_lt, cond, count_by, false, false_from_ne_true, false≢true, get_or, get_or-set_other, get_or-set_same, inl, inr, length, refl, set, subst, suc, sum_by-cons, sym, true, zero, ℕ}

-- Two lists of which the elements pass two tests alike have as many that pass, where a number beyond the end passes neither.
pub count_pair : {X Y : Type 0} (p : Option X → Bool) (q : Option Y → Bool) → p None ≡ false → q None ≡ false → (xs : List (Option X)) (ys : List (Option Y))
    → ((n : ℕ) → p (get_or xs n None) ≡ q (get_or ys n None)) → count_by p xs ≡ count_by q ys
count_pair p q a b [] [] h = refl
count_pair p q a b [] (y ∷ ys) h =
    let rest : count_by p [] ≡ count_by q ys = count_pair p q a b [] ys (λ n. h (suc n)) in
    let c : count_by q (y ∷ ys) ≡ cond (q y) 1 0 + count_by q ys = sum_by-cons (λ z. cond (q z) 1 0) y ys in
    let here : cond (q y) 1 0 ≡ 0 = ap (λ t. cond t 1 0) (sym (h 0) ∙ a) in
    let z : 0 + count_by q ys ≡ count_by q ys = omega arith in
    rest ∙ sym (c ∙ ap (λ m. m + count_by q ys) here ∙ z)
count_pair p q a b (x ∷ xs) [] h =
    let rest : count_by p xs ≡ count_by q [] = count_pair p q a b xs [] (λ n. h (suc n)) in
    let c : count_by p (x ∷ xs) ≡ cond (p x) 1 0 + count_by p xs = sum_by-cons (λ z. cond (p z) 1 0) x xs in
    let here : cond (p x) 1 0 ≡ 0 = ap (λ t. cond t 1 0) (h 0 ∙ b) in
    let z : 0 + count_by p xs ≡ count_by p xs = omega arith in
    c ∙ ap (λ m. m + count_by p xs) here ∙ z ∙ rest
count_pair p q a b (x ∷ xs) (y ∷ ys) h =
    let rest : count_by p xs ≡ count_by q ys = count_pair p q a b xs ys (λ n. h (suc n)) in
    let c : count_by p (x ∷ xs) ≡ cond (p x) 1 0 + count_by p xs = sum_by-cons (λ z. cond (p z) 1 0) x xs in
    let d : count_by q (y ∷ ys) ≡ cond (q y) 1 0 + count_by q ys = sum_by-cons (λ z. cond (q z) 1 0) y ys in
    let here : cond (p x) 1 0 ≡ cond (q y) 1 0 = ap (λ t. cond t 1 0) (h 0) in
    c ∙ ap (λ m. m + count_by p xs) here ∙ ap (λ m. cond (q y) 1 0 + m) rest ∙ sym d

-- an element that passes and is taken away
count_less : {X : Type 0} (p : Option X → Bool) → p None ≡ false → (xs : List (Option X)) (n : ℕ) → p (get_or xs n None) ≡ true → count_by p xs ≡ suc (count_by p (set xs n None))
count_less p none [] n e = absurd (false≢true (sym none ∙ e))
count_less p none (x ∷ xs) zero e =
    let c : count_by p (x ∷ xs) ≡ cond (p x) 1 0 + count_by p xs = sum_by-cons (λ z. cond (p z) 1 0) x xs in
    let d : count_by p (None ∷ xs) ≡ cond (p None) 1 0 + count_by p xs = sum_by-cons (λ z. cond (p z) 1 0) None xs in
    let one : ◌≡◌ {A = ℕ} (cond (p x) 1 0) 1 = ap (λ t. cond t 1 0) e in
    let zero' : ◌≡◌ {A = ℕ} (cond (p None) 1 0) 0 = ap (λ t. cond t 1 0) none in
    omega (arith, c, d, one, zero')
count_less p none (x ∷ xs) (suc n) e =
    let ih = count_less p none xs n e in
    let c : count_by p (x ∷ xs) ≡ cond (p x) 1 0 + count_by p xs = sum_by-cons (λ z. cond (p z) 1 0) x xs in
    let d : count_by p (x ∷ set xs n None) ≡ cond (p x) 1 0 + count_by p (set xs n None) = sum_by-cons (λ z. cond (p z) 1 0) x (set xs n None) in
    omega (arith, c, d, ih)

count_none : {X : Type 0} (p : Option X → Bool) (xs : List (Option X)) → ((n : ℕ) → p (get_or xs n None) ≡ true → ⊥) → count_by p xs ≡ 0
count_none p [] h = refl
count_none p (x ∷ xs) h =
    let ih = count_none p xs (λ n e. h (suc n) e) in
    let c : count_by p (x ∷ xs) ≡ cond (p x) 1 0 + count_by p xs = sum_by-cons (λ z. cond (p z) 1 0) x xs in
    let here : ◌≡◌ {A = ℕ} (cond (p x) 1 0) 0 = ap (λ t. cond t 1 0) (false_from_ne_true (p x) (λ e. h zero e)) in
    omega (arith, c, here, ih)

-- the elements that pass are those of just these numbers, each once
pub count_numbers : {X : Type 0} (p : Option X → Bool) → p None ≡ false → (xs : List (Option X)) (ns : List ℕ) → are_new [] ns ≡ true
    → ((n : ℕ) → In n ns → p (get_or xs n None) ≡ true) → ((n : ℕ) → p (get_or xs n None) ≡ true → In n ns) → count_by p xs ≡ length ns
count_numbers p none xs [] new to from = count_none p xs from
count_numbers p none xs (n ∷ ns) new to from =
    let first = are_new-first n ns new in
    let within : n < length xs =
    elim (cases_lt n (length xs)) [
      | inl l ↦ l
      | inr g ↦ absurd (false≢true (sym none ∙ ap p (sym (get_or-past xs n None g)) ∙ to n (inl refl)))
    ] in
    let less = count_less p none xs n (to n (inl refl)) in
    let rest = count_numbers p none (set xs n None) ns first.1
    (λ m i. ap p (get_or-set_other xs n m None None (λ e. first.0 (subst (λ k. In k ns) e i))) ∙ to m (inr i))
    (λ m e. elim (cases_eq m n) [
      | inl same ↦ absurd (false≢true (sym none ∙ ap p (sym (ap (λ k. get_or (set xs n None) k None) same ∙ get_or-set_same xs n None None within)) ∙ e))
      | inr d ↦ elim (from m (ap p (sym (get_or-set_other xs n m None None d)) ∙ e)) [ inl same ↦ absurd (d same) | inr i ↦ i ]
    ]) in
    omega (arith, less, rest)
  where
    get_or-past : {X : Type 0} (xs : List (Option X)) (n : ℕ) (d : Option X) → length xs ≤ n → get_or xs n d ≡ d
    get_or-past [] n d l = refl
    get_or-past (x ∷ xs) zero d l = absurd (omega arith)
    get_or-past (x ∷ xs) (suc n) d l = get_or-past xs n d (omega arith)
