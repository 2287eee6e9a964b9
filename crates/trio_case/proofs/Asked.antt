-- A set of numbers that is kept in order.
use Rattle.trio_case.proofs.Words.{◌<◌, ◌||◌, ◌∙◌, ◌∷◌, ◌≡◌, ◌≤◌, Err, In, In-is_among, IsBinarySearchResult, List, MatchResult, Ok, Result, ap, arith, cases_eq, eqb, false, get_or, get_or_default, inl, inr, insert, is_among, is_ok, is_some, length, nat_cmp, nat_tests, refl, searched, subst, sym, true, ℕ}
use Rattle.std.specs.List.Sorted.{IsNonDecreasing}
use Rattle.std.proofs.lemmas.List.Sorted.{IsNonDecreasingBy-insert, IsPermutation-insert, list_any-IsPermutation}
use Rattle.trio_lists.proofs.Filters.{get_or-In}
use Rattle.trio_case.proofs.Counted.{place_some}
use Rattle.trio_case.proofs.Ordered.{place_none}

-- where a search ends: at the number, or between those below it and those above it
abbrev IsSearched : List ℕ → ℕ → Result ℕ ℕ → Type 0
IsSearched xs n r = MatchResult r (λ i. (i < length xs) × (get_or xs i 0 ≡ n)) (λ i. (i ≤ length xs) × ((k : ℕ) → k < i → get_or xs k 0 < n) × ((k : ℕ) → i ≤ k → k < length xs → n < get_or xs k 0))

search_ends : (xs : List ℕ) (n : ℕ) (r : Result ℕ ℕ) → IsNonDecreasing xs → IsBinarySearchResult (λ y. nat_cmp y n) xs r → IsSearched xs n r
search_ends xs n r up is = searched xs n r is (λ i j le l. up i j 0 le l)

there : (xs : List ℕ) (n i : ℕ) → i < length xs → get_or xs i 0 ≡ n → is_among n xs ≡ true
there xs n i l e = In-is_among n xs (subst (λ m. In m xs) e (get_or-In xs i 0 l))

apart : (xs : List ℕ) (n i k : ℕ) → k < length xs → get_or xs k 0 ≡ n → ((k : ℕ) → k < i → get_or xs k 0 < n) → ((k : ℕ) → i ≤ k → k < length xs → n < get_or xs k 0) → ⊥
apart xs n i k l e below above = grind (arith, below k, above k)

-- a search finds a number where it is there
pub found_among : (xs : List ℕ) (n : ℕ) (r : Result ℕ ℕ) → IsNonDecreasing xs → IsBinarySearchResult (λ y. nat_cmp y n) xs r → is_ok r ≡ is_among n xs
found_among xs n r up is = of r (search_ends xs n r up is)
  where
    of : (r : Result ℕ ℕ) → IsSearched xs n r → is_ok r ≡ is_among n xs
    of (Ok i) h = sym (there xs n i h.0 h.1)
    of (Err i) h = sym (sym (place_some n xs) ∙ ap is_some (place_none n xs (λ k l e. apart xs n i k l e h.1 h.2)))

-- a number that is put where the search for it ended
pub ordered_still : (xs : List ℕ) (n i : ℕ) → IsNonDecreasing xs → IsBinarySearchResult (λ y. nat_cmp y n) xs (Err i) → IsNonDecreasing (insert xs i n)
ordered_still xs n i up is =
    let s : IsSearched xs n (Err i) = search_ends xs n (Err i) up is in
    IsNonDecreasingBy-insert (λ x. x) xs i n up s.0
    (λ k d l. omega (arith, s.1 k l, get_or_default xs k d 0 (omega (arith, l, s.0))))
    (λ k d le l. omega (arith, s.2 k le l, get_or_default xs k d 0 l))

-- is one more, and no other is
pub one_more : (xs : List ℕ) (n i m : ℕ) → is_among m (insert xs i n) ≡ (eqb n m || is_among m xs)
one_more xs n i m = sym (list_any-IsPermutation (λ x. eqb x m) (n ∷ xs) (insert xs i n) (IsPermutation-insert xs i n))

-- one that was there is none more
pub none_more : (xs : List ℕ) (n m : ℕ) → is_among n xs ≡ true → is_among m xs ≡ (eqb n m || is_among m xs)
none_more xs n m h = elim (cases_eq n m) [
  | inl same ↦ let here : eqb n m ≡ true = grind (arith, nat_tests) in rw here (subst (λ x. is_among x xs ≡ true) same h)
  | inr differ ↦ let other : eqb n m ≡ false = grind (arith, nat_tests) in rw other refl
]
