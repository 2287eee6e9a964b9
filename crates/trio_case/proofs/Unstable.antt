-- Sorts that may change the order of ties: a sorted list has the same elements, and its numbers are those in rising order.
use Rattle.trio_case.proofs.Words.{◌+◌, ◌<◌, ◌∙◌, ◌∷◌, ◌≡◌, ◌≤◌, Bool, In, In-map, List, [], ap, are_new, are_new-first, arith, cond, eqb, false, get_or, in_order, inl, inr, inserted_by, length, map, nat_le, nat_tests, refl, sorted_by, sorted_in, subst, suc, sum_by-cons, sym, true, ℕ, ⊤}
use Rattle.std.specs.List.{AllByRecursion, sum_by}
use Rattle.std.specs.List.Sorted.{IsNonDecreasingBy, IsPermutation}
use Rattle.std.proofs.lemmas.List.Elements.{All-from_recursion, recursion_from_All}
use Rattle.std.proofs.lemmas.List.Sorted.{All-permutation, sum_by-IsPermutation}
use Rattle.trio_lists.proofs.Filters.{In-get_or}
use Rattle.trio_lists.proofs.Members.{map-In}
use Rattle.trio_case.proofs.Sorted.{sorted-map}
use Rattle.trio_case.proofs.Ordered.{from_inserted}

-- ---- the same elements

module _ {X : Type 0} (P : X → Type 0) where
  all_of : (xs : List X) → ((x : X) → In x xs → P x) → AllByRecursion P xs
  all_of [] h = tt
  all_of (x ∷ xs) h = (h x (inl refl), all_of xs (λ y i. h y (inr i)))

  one_of : (xs : List X) → AllByRecursion P xs → (x : X) → In x xs → P x
  one_of [] all x i = absurd i
  one_of (y ∷ ys) all x (inl e) = subst P (sym e) all.0
  one_of (y ∷ ys) all x (inr i) = one_of ys all.1 x i

-- what stands in a permuted list stood in it before
pub permuted_in : {X : Type 0} (xs ys : List X) → IsPermutation xs ys → (x : X) → In x ys → In x xs
permuted_in {X} xs ys moved =
    let P : X → Type 0 = λ x. In x xs in
    one_of P ys (recursion_from_All P ys (All-permutation P xs ys moved (All-from_recursion P xs (all_of P xs (λ x i. i)))))

-- ---- how often a number stands in a list

abbrev one_if : Bool → ℕ
one_if b = cond b 1 0

abbrev times : ℕ → List ℕ → ℕ
times n [] = 0
times n (x ∷ xs) = one_if (eqb x n) + times n xs

itself : (n : ℕ) → eqb n n ≡ true
itself n = grind (arith, nat_tests)

times_some : (n : ℕ) (xs : List ℕ) → In n xs → 1 ≤ times n xs
times_some n [] i = absurd i
times_some n (x ∷ xs) (inl e) =
    let one : one_if (eqb x n) ≡ one_if true = ap (λ y. one_if (eqb y n)) (sym e) ∙ ap one_if (itself n) in omega (arith, one)
times_some n (x ∷ xs) (inr i) = let rest = times_some n xs i in omega (arith, rest)

some_times : (n : ℕ) (xs : List ℕ) → 1 ≤ times n xs → In n xs
some_times n [] h = absurd (omega (arith, h))
some_times n (x ∷ xs) h = by (eqb x n) refl h (λ k. some_times n xs k)
  where
    by : (b : Bool) → eqb x n ≡ b → 1 ≤ one_if b + times n xs → (1 ≤ times n xs → In n xs) → In n (x ∷ xs)
    by true e h rest = inl (let same : n ≡ x = grind (arith, nat_tests) in same)
    by false e h rest = inr (rest (omega (arith, h)))

times_inserted : (n w : ℕ) (xs : List ℕ) → times n (inserted_by (λ x. x) w xs) ≡ times n (w ∷ xs)
times_inserted n w [] = refl
times_inserted n w (x ∷ xs) = by (nat_le w x) (times_inserted n w xs)
  where
    by : (b : Bool) → times n (inserted_by (λ x. x) w xs) ≡ times n (w ∷ xs) → times n (cond b (w ∷ (x ∷ xs)) (x ∷ inserted_by (λ x. x) w xs)) ≡ times n (w ∷ (x ∷ xs))
    by true h = refl
    by false h =
        let all : one_if (eqb x n) + times n (inserted_by (λ x. x) w xs) ≡ one_if (eqb w n) + (one_if (eqb x n) + times n xs) = omega (arith, h) in all

times_in_order : (n : ℕ) (xs : List ℕ) → times n (in_order xs) ≡ times n xs
times_in_order n [] = refl
times_in_order n (x ∷ xs) = times_inserted n x (in_order xs) ∙ ap (λ m. one_if (eqb x n) + m) (times_in_order n xs)

-- ---- numbers that rise

-- none is less than one before it
abbrev Rises : List ℕ → Type 0
Rises [] = ⊤
Rises (x ∷ xs) = ((n : ℕ) → In n xs → x ≤ n) × Rises xs

rises_inserted : (w : ℕ) (xs : List ℕ) → Rises xs → Rises (inserted_by (λ x. x) w xs)
rises_inserted w [] r = ((λ n i. absurd i), tt)
rises_inserted w (x ∷ xs) r = by (nat_le w x) refl (rises_inserted w xs r.1)
  where
    by : (b : Bool) → nat_le w x ≡ b → Rises (inserted_by (λ x. x) w xs) → Rises (cond b (w ∷ (x ∷ xs)) (x ∷ inserted_by (λ x. x) w xs))
    by true e rest =
        let le : w ≤ x = grind (arith, nat_tests) in
        ((λ n i. elim i [ inl s ↦ rw s le | inr j ↦ omega (arith, le, r.0 n j) ]), r)
    by false e rest =
        let le : x ≤ w = grind (arith, nat_tests) in
        ((λ n i. elim (from_inserted n w xs i) [ inl s ↦ rw s le | inr j ↦ r.0 n j ]), rest)

rises_in_order : (xs : List ℕ) → Rises (in_order xs)
rises_in_order [] = tt
rises_in_order (x ∷ xs) = rises_inserted x (in_order xs) (rises_in_order xs)

least : (x y : ℕ) (ys : List ℕ) → Rises (y ∷ ys) → In x (y ∷ ys) → y ≤ x
least x y ys r (inl e) = omega (arith, e)
least x y ys r (inr i) = r.0 x i

-- two that rise and have each number equally often are the same
one_order : (xs ys : List ℕ) → Rises xs → Rises ys → ((n : ℕ) → times n xs ≡ times n ys) → xs ≡ ys
one_order [] [] r s h = refl
one_order [] (y ∷ ys) r s h = absurd (omega (arith, times_some y (y ∷ ys) (inl refl), h y))
one_order (x ∷ xs) [] r s h = absurd (omega (arith, times_some x (x ∷ xs) (inl refl), h x))
one_order (x ∷ xs) (y ∷ ys) r s h =
    let there : 1 ≤ times x (y ∷ ys) = subst (λ k. 1 ≤ k) (h x) (times_some x (x ∷ xs) (inl refl)) in
    let here : 1 ≤ times y (x ∷ xs) = subst (λ k. 1 ≤ k) (sym (h y)) (times_some y (y ∷ ys) (inl refl)) in
    let above : y ≤ x = least x y ys s (some_times x (y ∷ ys) there) in
    let below : x ≤ y = least y x xs r (some_times y (x ∷ xs) here) in
    let same : x ≡ y = omega (arith, above, below) in
    let rest : (n : ℕ) → times n xs ≡ times n ys = λ n. (let one = ap (λ z. one_if (eqb z n)) same in let all = h n in omega (arith, one, all)) in
    ap (λ z. z ∷ xs) same ∙ ap (λ zs. y ∷ zs) (one_order xs ys r.1 s.1 rest)

module _ {X : Type 0} (key : X → ℕ) where
  rises_by : (ys : List X) → IsNonDecreasingBy key ys → Rises (map key ys)
  rises_by [] up = tt
  rises_by (y ∷ ys) up = (
    (λ n i.
        let q = map-In key n ys i in
        let at = In-get_or q.0 ys q.1 in
        let l : suc at.0 < length (y ∷ ys) = omega (arith, at.1) in
        let le : key y ≤ key (get_or ys at.0 q.0) = up 0 (suc at.0) q.0 (omega arith) l in
        subst (λ k. key y ≤ k) (ap key at.2 ∙ sym q.2) le),
    rises_by ys (λ i j d le l. up (suc i) (suc j) d (omega (arith, le)) (omega (arith, l))),
  )

  times_by : (n : ℕ) (xs : List X) → times n (map key xs) ≡ sum_by (λ x. one_if (eqb (key x) n)) xs
  times_by n [] = refl
  times_by n (x ∷ xs) = ap (λ m. one_if (eqb (key x) n) + m) (times_by n xs) ∙ sym (sum_by-cons (λ y. one_if (eqb (key y) n)) x xs)

  -- a sort by a number leaves the numbers in rising order
  pub sorted_numbers : (xs ys : List X) → IsPermutation xs ys → IsNonDecreasingBy key ys → map key ys ≡ in_order (map key xs)
  sorted_numbers xs ys moved up =
      one_order (map key ys) (in_order (map key xs)) (rises_by ys up) (rises_in_order (map key xs))
      (λ n. times_by n ys ∙ sum_by-IsPermutation (λ x. one_if (eqb (key x) n)) xs ys moved ∙ sym (times_by n xs) ∙ sym (times_in_order n (map key xs)))

-- ---- a sort of what has numbers that differ has one outcome

module _ {X : Type 0} (key : X → ℕ) where
  one_by_key : (xs : List X) (x y : X) → are_new [] (map key xs) ≡ true → In x xs → In y xs → key x ≡ key y → x ≡ y
  one_by_key [] x y new i j e = absurd i
  one_by_key (z ∷ zs) x y new (inl s) (inl t) e = s ∙ sym t
  one_by_key (z ∷ zs) x y new (inl s) (inr j) e = absurd ((are_new-first (key z) (map key zs) new).0 (subst (λ n. In n (map key zs)) (sym e ∙ ap key s) (In-map key y zs j)))
  one_by_key (z ∷ zs) x y new (inr i) (inl t) e = absurd ((are_new-first (key z) (map key zs) new).0 (subst (λ n. In n (map key zs)) (e ∙ ap key t) (In-map key x zs i)))
  one_by_key (z ∷ zs) x y new (inr i) (inr j) e = one_by_key zs x y (are_new-first (key z) (map key zs) new).1 i j e

  keys_decide : (xs us vs : List X) → are_new [] (map key xs) ≡ true → ((x : X) → In x us → In x xs) → ((x : X) → In x vs → In x xs) → map key us ≡ map key vs → us ≡ vs
  keys_decide xs [] [] new p q e = refl
  keys_decide xs [] (v ∷ vs) new p q e = absurd cc
  keys_decide xs (u ∷ us) [] new p q e = absurd cc
  keys_decide xs (u ∷ us) (v ∷ vs) new p q e =
      let heads : key u ≡ key v = cc in
      let tails : map key us ≡ map key vs = cc in
      let same : u ≡ v = one_by_key xs u v new (p u (inl refl)) (q v (inl refl)) heads in
      ap (λ x. x ∷ us) same ∙ ap (λ ys. v ∷ ys) (keys_decide xs us vs new (λ x i. p x (inr i)) (λ x i. q x (inr i)) tails)

  -- an unstable sort by numbers that differ is the stable one
  pub sorted_distinct : (xs ys : List X) → IsPermutation xs ys → IsNonDecreasingBy key ys → are_new [] (map key xs) ≡ true → ys ≡ sorted_by key xs
  sorted_distinct xs ys moved up new =
      keys_decide xs ys (sorted_by key xs) new (permuted_in xs ys moved) (λ x i. sorted_in key x xs i)
      (sorted_numbers key xs ys moved up ∙ sym (sorted-map key key (λ n. n) (λ x. refl) xs))
