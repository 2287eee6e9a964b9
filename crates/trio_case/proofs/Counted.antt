-- Numbers that differ, by their places.
use Rattle.trio_case.proofs.Words.{◌++◌, ◌+◌, ◌<◌, ◌||◌, ◌∙◌, ◌∷◌, ◌≡◌, AreCounted, AreRising, Bool, Err, In, In-cases, IsBinarySearchResult, List, None, NumberPlace, Ok, Option, Result, Some, [], ap, are_new, are_new-first, arith, cond, counted_numbers, eqb, false, get_or_from_slice_get, in_order, inl, inr, is_among, is_some, length, length-map, map, map-append, nat_cmp, nat_tests, option_and_then, option_map, place_of, refl, result_ok, slice_get, slice_get-get_or, slice_get-map, slice_get_within, subst, suc, sym, take, take_more, true, zero, ℕ}
use Rattle.std.specs.List.Sorted.{IsSearchInRange}
use Rattle.std.proofs.lemmas.List.{get_or-map}
use Rattle.trio_case.specs.inner.Numbered.{ArePlaced}
use Rattle.trio_case.proofs.Opening.{In-slice_get}
use Rattle.trio_case.proofs.Keeping.{none_there}
use Rattle.trio_case.proofs.Ordered.{found_place, not_ordered, place_has}

-- one number more, with its place
pub counted_more : (ns : List ℕ) (old new : List NumberPlace) (p : NumberPlace) → new ≡ old ++ p ∷ [] → slice_get ns p.at ≡ Some p.no → AreCounted ns old → AreCounted ns new
counted_more ns old new p more here was = λ q i.
    elim (In-cases q old (p ∷ []) (rw more at i)) [
      | inl before ↦ was q before
      | inr last ↦ elim last [
        | inl same ↦ rw same here
        | inr none ↦ absurd none
      ]
    ]

pub numbers_more : (ns : List ℕ) (old new : List NumberPlace) (p : NumberPlace) (at : ℕ) → new ≡ old ++ p ∷ [] → slice_get ns at ≡ Some p.no → counted_numbers old ≡ take at ns → counted_numbers new ≡ take (at + 1) ns
numbers_more ns old new p at more here was =
    ap counted_numbers more ∙ map-append (λ (q : NumberPlace). q.no) old (p ∷ []) ∙ ap (λ xs. xs ++ p.no ∷ []) was
    ∙ ap (λ n. take at ns ++ n ∷ []) (sym (get_or_from_slice_get ns at p.no p.no here))
    ∙ sym (take_more ns at p.no (slice_get_within ns at p.no here))

-- ---- places

-- a number has a place where it is among them
pub place_some : (n : ℕ) (xs : List ℕ) → is_some (place_of n xs) ≡ is_among n xs
place_some n [] = refl
place_some n (x ∷ xs) = by (eqb x n) (place_of n xs) (is_among n xs) (place_some n xs)
  where
    by : (b : Bool) (o : Option ℕ) (t : Bool) → is_some o ≡ t → is_some (cond b (Some 0) (option_map suc o)) ≡ (b || t)
    by true o t h = refl
    by false None t h = h
    by false (Some i) t h = h

-- one of different numbers has the place at which it stands
pub place_at : (ns : List ℕ) (n at : ℕ) → are_new [] ns ≡ true → slice_get ns at ≡ Some n → place_of n ns ≡ Some at
place_at [] n at new here = absurd cc
place_at (x ∷ xs) n zero new here =
    let same : eqb x n ≡ true = (let e : x ≡ n = cc in grind (arith, nat_tests)) in rw same refl
place_at (x ∷ xs) n (suc k) new here =
    let first = are_new-first x xs new in
    let other : eqb x n ≡ false = (let apart : x ≡ n → ⊥ = λ e. first.0 (subst (λ m. In m xs) (sym e) (In-slice_get xs k n here)) in grind (arith, nat_tests)) in
    rw (other, place_at xs n k first.1 here) refl

absent : (ns : List ℕ) (n : ℕ) → place_of n (in_order ns) ≡ None → place_of n ns ≡ None
absent ns n e =
    let none : is_among n ns ≡ false = not_ordered n ns (sym (place_some n (in_order ns)) ∙ ap is_some e) in
    none_there (place_of n ns) (sym (place_some n ns ∙ none))

-- a search among things by their numbers is one among the numbers
search_by : {X : Type 0} (f : X → ℕ) (xs : List X) (x : X) (n : ℕ) (r : Result ℕ ℕ) → IsSearchInRange r (length xs) → IsBinarySearchResult (λ y. nat_cmp (f y) n) xs r → IsBinarySearchResult (λ m. nat_cmp m n) (map f xs) r
search_by f xs x n (Ok i) within h = λ d. rw (get_or-map f xs i x d within) (h x)
search_by f xs x n (Err i) within h = λ up.
    let parted = h (λ a b d le l. rw (← get_or-map f xs a d (f d) (omega (arith, le, l)), ← get_or-map f xs b d (f d) l) (up a b (f d) le (omega (arith, l, length-map xs f)))) in (
      (λ k d low l. rw (get_or-map f xs k x d (omega (arith, l, within))) (parted.0 k x low l)),
      (λ k d low l. rw (get_or-map f xs k x d (omega (arith, l, length-map xs f))) (parted.1 k x low (omega (arith, l, length-map xs f)))),
    )

pub search_found : (ps : List NumberPlace) (n : ℕ) (r : Result ℕ ℕ) → AreRising (counted_numbers ps) → IsSearchInRange r (length ps) → IsBinarySearchResult (λ (p : NumberPlace). nat_cmp p.no n) ps r → place_of n (counted_numbers ps) ≡ result_ok r
search_found ps n r up within is =
    found_place (counted_numbers ps) n r up (search_by (λ (p : NumberPlace). p.no) ps (record { no = 0; at = 0 }) n r within is)

-- the place that a search among the sorted ones finds
pub place_found : (ns : List ℕ) (ps : List NumberPlace) (n : ℕ) → ArePlaced ns ps → place_of n ns ≡ option_map (λ (p : NumberPlace). p.at) (option_and_then (slice_get ps) (place_of n (counted_numbers ps)))
place_found ns ps n h = by (place_of n (counted_numbers ps)) refl
  where
    at_place : (k : ℕ) (o : Option NumberPlace) → slice_get ps k ≡ o → option_map (λ (p : NumberPlace). p.no) o ≡ Some n → place_of n ns ≡ option_map (λ (p : NumberPlace). p.at) o
    at_place k None e here = absurd cc
    at_place k (Some p) e here =
        let same : p.no ≡ n = cc in
        place_at ns n p.at h.differ (h.counted p (In-slice_get ps k p e) ∙ ap (λ x. Some x) same)

    by : (o : Option ℕ) → place_of n (counted_numbers ps) ≡ o → place_of n ns ≡ option_map (λ (p : NumberPlace). p.at) (option_and_then (slice_get ps) o)
    by None e = absent ns n (subst (λ xs. place_of n xs ≡ None) h.rising e)
    by (Some k) e =
        let there = place_has n (counted_numbers ps) k e in
        let here : slice_get (counted_numbers ps) k ≡ Some n = slice_get-get_or (counted_numbers ps) k 0 there.0 ∙ ap (λ x. Some x) there.1 in
        at_place k (slice_get ps k) refl (sym (slice_get-map (λ (p : NumberPlace). p.no) ps k) ∙ here)

-- ---- the places in two lists, one after the other

pub place_left : (n i : ℕ) (xs ys : List ℕ) → place_of n xs ≡ Some i → place_of n (xs ++ ys) ≡ Some i
place_left n i [] ys h = absurd cc
place_left n i (x ∷ xs) ys h = by (eqb x n) h (λ j e. place_left n j xs ys e)
  where
    later : (o p : Option ℕ) → place_of n xs ≡ o → place_of n (xs ++ ys) ≡ p → option_map suc o ≡ Some i → ((j : ℕ) → place_of n xs ≡ Some j → place_of n (xs ++ ys) ≡ Some j) → option_map suc p ≡ Some i
    later None p e f h rest = absurd cc
    later (Some j) p e f h rest = ap (option_map suc) (sym f ∙ rest j e) ∙ h

    by : (b : Bool) → cond b (Some 0) (option_map suc (place_of n xs)) ≡ Some i → ((j : ℕ) → place_of n xs ≡ Some j → place_of n (xs ++ ys) ≡ Some j) → cond b (Some 0) (option_map suc (place_of n (xs ++ ys))) ≡ Some i
    by true h rest = h
    by false h rest = later (place_of n xs) (place_of n (xs ++ ys)) refl refl h rest

pub place_right : (n : ℕ) (xs ys : List ℕ) → place_of n xs ≡ None → place_of n (xs ++ ys) ≡ option_map (λ i. length xs + i) (place_of n ys)
place_right n [] ys h = whole (place_of n ys)
  where
    whole : (o : Option ℕ) → o ≡ option_map (λ i. 0 + i) o
    whole None = refl
    whole (Some i) = let e : i ≡ 0 + i = omega arith in ap (λ x. Some x) e
place_right n (x ∷ xs) ys h = by (eqb x n) h (λ e. place_right n xs ys e)
  where
    one : (o : Option ℕ) → option_map suc (option_map (λ i. length xs + i) o) ≡ option_map (λ i. length (x ∷ xs) + i) o
    one None = refl
    one (Some i) = let e : suc (length xs + i) ≡ length (x ∷ xs) + i = omega arith in ap (λ x. Some x) e

    none : (o : Option ℕ) → option_map suc o ≡ None → o ≡ None
    none None h = refl
    none (Some i) h = absurd cc

    by : (b : Bool) → cond b (Some 0) (option_map suc (place_of n xs)) ≡ None → (place_of n xs ≡ None → place_of n (xs ++ ys) ≡ option_map (λ i. length xs + i) (place_of n ys)) → cond b (Some 0) (option_map suc (place_of n (xs ++ ys))) ≡ option_map (λ i. length (x ∷ xs) + i) (place_of n ys)
    by true h rest = absurd cc
    by false h rest = ap (option_map suc) (rest (none (place_of n xs) h)) ∙ one (place_of n ys)

-- the place in the second list is within it
pub place_within : (n i : ℕ) (xs : List ℕ) → place_of n xs ≡ Some i → i < length xs
place_within n i xs h = (place_has n xs i h).0
