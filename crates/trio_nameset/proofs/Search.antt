-- A name that is looked for among others, one after another.
use Rattle.std.proofs.Common.{◌≡◌, ℕ, suc, ◌+◌, ◌<◌, true, false, List, [], ◌∷◌, length, Option, None, Some, inl, inr, refl, sym, subst, arith, below_more, slice_get}
use Rattle.std.specs.Str.{bytes_eq}
use Rattle.std.proofs.lemmas.List.Folds.{list_any_at}
use Rattle.std.proofs.lemmas.Option.{get_or_from_slice_get, slice_get_within}
use Rattle.std.proofs.lemmas.Slice.Eq.{bytes_eq-Decides}
use Rattle.trio_nameset.specs.declared.sorted.Position.{Position}
use Rattle.trio_nameset.specs.declared.sorted.Position.TheVariants.{After}
use Rattle.trio_nameset.specs.Names.{contains}
use Rattle.trio_nameset.specs.inner.Sorted.{nth, IsLess, IsWithin, IsAbove, IsBelow, LeadsUp, IsLinked, link_at}
use Rattle.trio_nameset.proofs.Less.{less_itself, less_cases}
use Rattle.trio_nameset.proofs.Links.{above_trans}

pub contains_at : (name : List ℕ) (names : List (List ℕ)) (k : ℕ) → k < length names → nth names k ≡ name → contains name names ≡ true
contains_at name names k lt e = list_any_at (λ n. bytes_eq n name) names k [] lt ((bytes_eq-Decides (nth names k) name).1 e)

pub contains_read : (name : List ℕ) (names : List (List ℕ)) (k : ℕ) → slice_get names k ≡ Some name → contains name names ≡ true
contains_read name names k e = contains_at name names k (slice_get_within names k name e) (get_or_from_slice_get names k name [] e)

pub contains_none : (name : List ℕ) (names : List (List ℕ)) → ((k : ℕ) → k < length names → nth names k ≡ name → ⊥) → contains name names ≡ false
contains_none name [] h = refl
contains_none name (n ∷ ns) h =
    let rest : contains name ns ≡ false = contains_none name ns (λ k lt e. h (suc k) (omega arith) e) in
    elim (bytes_eq n name) as (λ b. bytes_eq n name ≡ b → contains name (n ∷ ns) ≡ false) [
      | true ↦ λ e. absurd (h 0 (omega arith) ((bytes_eq-Decides n name).0 e))
      | false ↦ λ e. rw e rest
    ] refl

-- the name differs from the first i, and the position follows the last of these that is below it
pub record IsSearched (names : List (List ℕ)) (name : List ℕ) (at : Position) (i : ℕ) : Type 0 where
  pub within : IsWithin names at
  pub above : IsAbove names at name
  pub differ : (k : ℕ) → k < i → nth names k ≡ name → ⊥
  pub last : (k : ℕ) → k < i → IsAbove names at (nth names k) → IsLess (nth names k) name → ⊥

-- the i-th is below it, and above all before that are
pub searched_later : (names : List (List ℕ)) (name : List ℕ) (at : Position) (i : ℕ) → i < length names → IsLess (nth names i) name → IsAbove names at (nth names i)
    → IsSearched names name at i → IsSearched names name (After i) (i + 1)
searched_later names name at i lt less over s = record {
  within = lt;
  above = less;
  differ = below_more (λ k. nth names k ≡ name → ⊥) i s.differ (λ e. less_itself name (subst (λ n. IsLess n name) e less));
  last = below_more (λ k. IsAbove names (After i) (nth names k) → IsLess (nth names k) name → ⊥) i
      (λ k h a b. s.last k h (above_trans names at (nth names i) (nth names k) over a) b)
      (λ a b. less_itself (nth names i) a);
}

-- the i-th is no better
pub searched_more : (names : List (List ℕ)) (name : List ℕ) (at : Position) (i : ℕ) → (nth names i ≡ name → ⊥) → (IsAbove names at (nth names i) → IsLess (nth names i) name → ⊥)
    → IsSearched names name at i → IsSearched names name at (i + 1)
searched_more names name at i ne worse s = record {
  within = s.within;
  above = s.above;
  differ = below_more (λ k. nth names k ≡ name → ⊥) i s.differ ne;
  last = below_more (λ k. IsAbove names at (nth names k) → IsLess (nth names k) name → ⊥) i s.last worse;
}

below_link : (names : List (List ℕ)) (name : List ℕ) (at : Position) (link : Option ℕ) → LeadsUp names at link → IsSearched names name at (length names) → IsBelow names link name
below_link names name at None up s = tt
below_link names name at (Some j) up s =
    elim (less_cases name (nth names j)) [
      | inl less ↦ less
      | inr (inl same) ↦ absurd (s.differ j up.0 (sym same))
      | inr (inr more) ↦ absurd (s.last j up.0 up.1 more)
    ]

-- after all of them, that is its place
pub searched_all : (names : List (List ℕ)) (first : Option ℕ) (next : List (Option ℕ)) (name : List ℕ) (at : Position) → IsLinked names first next → IsSearched names name at (length names) → IsBelow names (link_at first next at) name
searched_all names first next name at h s = below_link names name at (link_at first next at) (h.rising at s.within) s
