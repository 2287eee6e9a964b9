-- What is free, number by number.
use Rattle.trio_allot.proofs.Words.{if◌then◌else◌, ◌++◌, ◌+◌, ◌-◌, ◌<◌, ◌∙◌, ◌∷◌, ◌≡◌, ◌≤◌, ◌⊎◌, Bool, List, [], ap, arith, cond, count_up, drop, filter, get_or, inl, inr, length, numbers_where, refl, suc, sym, take, zero, ℕ}
use Rattle.std.proofs.lemmas.Bool.{cases_lt}
use Rattle.std.proofs.lemmas.List.{drop_more, drop_all, take_more}

pub where_step : (test : ℕ → Bool) (from end : ℕ) → from < end
    → numbers_where test from end ≡ (if test from then from ∷ numbers_where test (from + 1) end else numbers_where test (from + 1) end)
where_step test from end lt =
    let left : end - from ≡ suc (end - (from + 1)) = omega arith in
    let next : suc from ≡ from + 1 = omega arith in
    ap (λ n. filter test (count_up from n)) left
    ∙ ap (λ k. if test from then from ∷ filter test (count_up k (end - (from + 1))) else filter test (count_up k (end - (from + 1)))) next

pub where_end : (test : ℕ → Bool) (from end : ℕ) → end ≤ from → numbers_where test from end ≡ []
where_end test from end le =
    let none : end - from ≡ 0 = omega arith in
    ap (λ n. filter test (count_up from n)) none

-- tests that agree from a number on keep the same numbers from there on
pub where_same : (test other : ℕ → Bool) (from end : ℕ) → ((n : ℕ) → from ≤ n → n < end → test n ≡ other n) → numbers_where test from end ≡ numbers_where other from end
where_same test other from end same = by from (end - from) (λ n le lt. same n le (omega (arith, le, lt)))
  where
    by : (from n : ℕ) → ((k : ℕ) → from ≤ k → k < from + n → test k ≡ other k) → filter test (count_up from n) ≡ filter other (count_up from n)
    by from zero same = refl
    by from (suc n) same =
        ap (λ b. cond b (from ∷ filter test (count_up (suc from) n)) (filter test (count_up (suc from) n))) (same from (omega arith) (omega arith))
        ∙ ap (λ l. cond (other from) (from ∷ l) l) (by (suc from) n (λ k le lt. same k (omega (arith, le)) (omega (arith, lt))))

-- one more of the free numbers: it is the one at i, and the rest are those behind it
pub record Next (free rest : List ℕ) (i n : ℕ) : Type 0 where
  pub below : i < length free
  pub taken : take (i + 1) free ≡ take i free ++ n ∷ []
  pub left : drop (i + 1) free ≡ rest

pub next_of : (free : List ℕ) (i n : ℕ) (rest : List ℕ) → drop i free ≡ n ∷ rest → Next free rest i n
next_of free i n rest e =
    let below : i < length free = by (cases_lt i (length free)) in
    let read = drop_more free i 0 below in
    let here : get_or free i 0 ≡ n = ap (λ xs. get_or xs 0 0) (sym read ∙ e) in
    record {
      below = below;
      taken = take_more free i 0 below ∙ ap (λ x. take i free ++ x ∷ []) here;
      left = ap (drop 1) (sym read ∙ e);
    }
  where
    by : ((i < length free) ⊎ (length free ≤ i)) → i < length free
    by (inl lt) = lt
    by (inr le) = grind (arith, drop_all i free le, e)

pub not_empty : (free : List ℕ) (i : ℕ) → i < length free → drop i free ≡ [] → ⊥
not_empty free i lt e = grind (arith, drop_more free i 0 lt, e)

-- the next one by a test, by another that agrees with it from here on
pub next_same : (test other : ℕ → Bool) (from end n : ℕ) → ((m : ℕ) → from ≤ m → m < end → test m ≡ other m) → from ≤ n
    → numbers_where test from end ≡ n ∷ numbers_where test (n + 1) end → numbers_where other from end ≡ n ∷ numbers_where other (n + 1) end
next_same test other from end n same le e =
    sym (where_same test other from end same) ∙ e
    ∙ ap (λ l. n ∷ l) (where_same test other (n + 1) end (λ m more lt. same m (omega (arith, le, more)) lt))
