-- Sums over the views, and lists that are read by place.
use Rattle.trio_pool.proofs.Words.{List, [], ap, arith, inl, inr, refl, set, subst, suc, sym, total, zero, ℕ, ⊎_elim, ◌++◌, ◌+◌, ◌∷◌, ◌≡◌, ◌≢◌, ◌≤◌, ◌⊎◌}
use mathlib.Core.Option.{some, some-injective, some-ne-none}
use lib.ListN.{get_elem?}
use Rattle.crossbeam_queue.proofs.Lists.{at_set}

-- one of two lists that were put together has it
pub at_append : {A : Type 0} (l m : List A) (k : ℕ) (a : A) → get_elem? (l ++ m) k ≡ some a → (get_elem? l k ≡ some a) ⊎ ((i : ℕ) × (get_elem? m i ≡ some a))
at_append [] m k a e = inr (k, e)
at_append (x ∷ xs) m zero a e = inl e
at_append (x ∷ xs) m (suc k) a e = at_append xs m k a e

module _ {A : Type 0} (f : A → ℕ) where
  pub total_set : (l : List A) (i : ℕ) (v w : A) → get_elem? l i ≡ some v → total f (set l i w) + f v ≡ total f l + f w
  total_set [] i v w e = absurd (some-ne-none v (sym e))
  total_set (x ∷ xs) zero v w e = let is : f x ≡ f v = ap f (some-injective x v e) in omega arith
  total_set (x ∷ xs) (suc i) v w e = let r = total_set xs i v w e in omega arith

  pub total_append : (l m : List A) → total f (l ++ m) ≡ total f l + total f m
  total_append [] m = omega arith
  total_append (x ∷ xs) m = let r = total_append xs m in omega arith

  pub total_at : (l : List A) (i : ℕ) (v : A) → get_elem? l i ≡ some v → f v ≤ total f l
  total_at [] i v e = absurd (some-ne-none v (sym e))
  total_at (x ∷ xs) zero v e = let is : f x ≡ f v = ap f (some-injective x v e) in omega arith
  total_at (x ∷ xs) (suc i) v e = let r = total_at xs i v e in omega arith

  -- two of the numbers
  pub total_two : (l : List A) (i j : ℕ) (v w : A) → i ≢ j → get_elem? l i ≡ some v → get_elem? l j ≡ some w → f v + f w ≤ total f l
  total_two [] i j v w n a b = absurd (some-ne-none v (sym a))
  total_two (x ∷ xs) zero zero v w n a b = absurd (n refl)
  total_two (x ∷ xs) zero (suc j) v w n a b = let is : f x ≡ f v = ap f (some-injective x v a) in let r = total_at xs j w b in omega arith
  total_two (x ∷ xs) (suc i) zero v w n a b = let is : f x ≡ f w = ap f (some-injective x w b) in let r = total_at xs i v a in omega arith
  total_two (x ∷ xs) (suc i) (suc j) v w n a b = let r = total_two xs i j v w (λ e. n (ap suc e)) a b in omega arith

  pub total_none : (l : List A) → ((i : ℕ) (v : A) → get_elem? l i ≡ some v → f v ≡ 0) → total f l ≡ 0
  total_none [] h = refl
  total_none (x ∷ xs) h = let a = h 0 x refl in let r = total_none xs (λ i v e. h (suc i) v e) in omega arith

  -- where all others are 0
  pub total_alone : (l : List A) (i : ℕ) (v : A) → get_elem? l i ≡ some v → ((j : ℕ) (u : A) → j ≢ i → get_elem? l j ≡ some u → f u ≡ 0) → total f l ≡ f v
  total_alone [] i v e h = absurd (some-ne-none v (sym e))
  total_alone (x ∷ xs) zero v e h = let is : f x ≡ f v = ap f (some-injective x v e) in let r = total_none xs (λ j u d. h (suc j) u (λ k. omega arith) d) in omega arith
  total_alone (x ∷ xs) (suc i) v e h = let a = h 0 x (λ k. omega arith) refl in let r = total_alone xs i v e (λ j u n d. h (suc j) u (λ k. n (omega arith)) d) in omega arith

module _ {A : Type 0} (P : ℕ → A → Type 0) where
  -- what holds of the one that is put there, and of each other, holds of each
  pub each_set : (l : List A) (i : ℕ) (w : A) → P i w → ((j : ℕ) (v : A) → j ≢ i → get_elem? l j ≡ some v → P j v) → (j : ℕ) (v : A) → get_elem? (set l i w) j ≡ some v → P j v
  each_set l i w mine others j v e = ⊎_elim (λ (t : (j ≡ i) × (w ≡ v)). subst (λ (z : ℕ × A). P z.0 z.1) (λ k. (sym t.0 k, t.1 k)) mine)
      (λ (t : (j ≢ i) × (get_elem? l j ≡ some v)). others j v t.0 t.1) (at_set l i j w v e)
