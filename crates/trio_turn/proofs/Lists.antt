-- Beginnings of one list, entries of a library, and sums over the views.
use Rattle.trio_turn.proofs.Words.{◌++◌, ◌+◌, ◌==◌, ◌∙◌, ◌∷◌, ◌≡◌, ◌≢◌, ◌≤◌, Entry, List, [], ap, append_assoc, arith, filter-append, length, made_by, maker, refl, set, subst, suc, sym, total, zero, ℕ, ⊎_elim}
use Rattle.std.proofs.Common.{length-append}
use mathlib.Core.List.{IsPrefix}
use mathlib.Core.Option.{some, some-injective, some-ne-none}
use lib.ListN.{get_elem?}
use Rattle.atomic_table.proofs.Lists.{at_set}

-- each list begins with itself
pub prefix_self : {A : Type 0} (xs : List A) → IsPrefix xs xs
prefix_self [] = ([], refl)
prefix_self (x ∷ xs) = (let r = prefix_self xs in r.0, ap (λ ys. x ∷ ys) (prefix_self xs).1)

pub prefix_trans : {A : Type 0} (xs ys zs : List A) → IsPrefix xs ys → IsPrefix ys zs → IsPrefix xs zs
prefix_trans xs ys zs p q = (p.0 ++ q.0, sym (append_assoc xs p.0 q.0) ∙ (ap (λ w. w ++ q.0) p.1 ∙ q.1))

-- of two beginnings of one list the shorter begins the longer
pub prefix_shorter : {A : Type 0} (xs ys zs : List A) → IsPrefix xs zs → IsPrefix ys zs → length xs ≤ length ys → IsPrefix xs ys
prefix_shorter [] ys zs p q le = (ys, refl)
prefix_shorter (x ∷ xs) [] zs p q le = absurd (omega arith)
prefix_shorter (x ∷ xs) (y ∷ ys) [] p q le = absurd (cc (p.1))
prefix_shorter (x ∷ xs) (y ∷ ys) (z ∷ zs) p q le =
    let heads : x ≡ y = cc (p.1, q.1) in
    let rest = prefix_shorter xs ys zs (p.0, cc (p.1)) (q.0, cc (q.1)) (omega arith) in
    (rest.0, cc (heads, rest.1))

pub prefix_length : {A : Type 0} (xs ys : List A) → IsPrefix xs ys → length xs ≤ length ys
prefix_length xs ys p = omega (arith, sym (ap length p.1) ∙ length-append xs p.0)

-- what is empty after something was added was empty
empty_front : {A : Type 0} (xs ys : List A) → xs ++ ys ≡ xs → ys ≡ []
empty_front [] ys e = e
empty_front (x ∷ xs) ys e = empty_front xs ys (cc e)

-- between two lists with the same entries of a library lies no other
pub made_between : (l : ℕ) (xs ys zs : List Entry) → IsPrefix xs ys → IsPrefix ys zs → made_by l zs ≡ made_by l xs → made_by l ys ≡ made_by l xs
made_between l xs ys zs p q e =
    let a : made_by l (xs ++ p.0) ≡ made_by l xs ++ made_by l p.0 = filter-append (λ (e : Entry). maker e == l) xs p.0 in
    let b : made_by l (ys ++ q.0) ≡ made_by l ys ++ made_by l q.0 = filter-append (λ (e : Entry). maker e == l) ys q.0 in
    let c : made_by l ys ≡ made_by l xs ++ made_by l p.0 = sym (ap (made_by l) p.1) ∙ a in
    let d : made_by l zs ≡ made_by l ys ++ made_by l q.0 = sym (ap (made_by l) q.1) ∙ b in
    let all : (made_by l xs ++ made_by l p.0) ++ made_by l q.0 ≡ made_by l xs = sym (ap (λ w. w ++ made_by l q.0) c) ∙ (sym d ∙ e) in
    let none_left = empty_front (made_by l xs) (made_by l p.0 ++ made_by l q.0) (sym (append_assoc (made_by l xs) (made_by l p.0) (made_by l q.0)) ∙ all) in
    c ∙ (ap (λ w. made_by l xs ++ w) (front_empty (made_by l p.0) (made_by l q.0) none_left) ∙ append_nil (made_by l xs))
  where
    append_nil : (ws : List Entry) → ws ++ [] ≡ ws
    append_nil [] = refl
    append_nil (w ∷ ws) = ap (λ vs. w ∷ vs) (append_nil ws)

    front_empty : (us vs : List Entry) → us ++ vs ≡ [] → us ≡ []
    front_empty [] vs e = refl
    front_empty (u ∷ us) vs e = absurd (cc e)

-- the one that is put there is there
pub set_at : {A : Type 0} (l : List A) (i : ℕ) (v w : A) → get_elem? l i ≡ some v → get_elem? (set l i w) i ≡ some w
set_at [] i v w e = absurd (some-ne-none v (sym e))
set_at (a ∷ l) zero v w e = refl
set_at (a ∷ l) (suc i) v w e = set_at l i v w e

module _ {A : Type 0} (f : A → ℕ) where
  pub total_set : (l : List A) (i : ℕ) (v w : A) → get_elem? l i ≡ some v → total f (set l i w) + f v ≡ total f l + f w
  total_set [] i v w e = absurd (some-ne-none v (sym e))
  total_set (x ∷ xs) zero v w e = let is : f x ≡ f v = ap f (some-injective x v e) in omega arith
  total_set (x ∷ xs) (suc i) v w e = let r = total_set xs i v w e in omega arith

  pub total_append : (l m : List A) → total f (l ++ m) ≡ total f l + total f m
  total_append [] m = omega arith
  total_append (x ∷ xs) m = let r = total_append xs m in omega arith

  pub total_at : (l : List A) (i : ℕ) (v : A) → get_elem? l i ≡ some v → f v ≤ total f l
  total_at [] i v e = absurd (some-ne-none v (sym e))
  total_at (x ∷ xs) zero v e = let is : f x ≡ f v = ap f (some-injective x v e) in omega arith
  total_at (x ∷ xs) (suc i) v e = let r = total_at xs i v e in omega arith

  -- two of the numbers
  pub total_two : (l : List A) (i j : ℕ) (v w : A) → i ≢ j → get_elem? l i ≡ some v → get_elem? l j ≡ some w → f v + f w ≤ total f l
  total_two [] i j v w n a b = absurd (some-ne-none v (sym a))
  total_two (x ∷ xs) zero zero v w n a b = absurd (n refl)
  total_two (x ∷ xs) zero (suc j) v w n a b = let is : f x ≡ f v = ap f (some-injective x v a) in let r = total_at xs j w b in omega arith
  total_two (x ∷ xs) (suc i) zero v w n a b = let is : f x ≡ f w = ap f (some-injective x w b) in let r = total_at xs i v a in omega arith
  total_two (x ∷ xs) (suc i) (suc j) v w n a b = let r = total_two xs i j v w (λ e. n (ap suc e)) a b in omega arith

  pub total_none : (l : List A) → ((i : ℕ) (v : A) → get_elem? l i ≡ some v → f v ≡ 0) → total f l ≡ 0
  total_none [] h = refl
  total_none (x ∷ xs) h = let a = h 0 x refl in let r = total_none xs (λ i v e. h (suc i) v e) in omega arith

module _ {A : Type 0} (P : ℕ → A → Type 0) where
  -- what holds of the one that is put there, and of each other, holds of each
  pub each_set : (l : List A) (i : ℕ) (w : A) → P i w → ((j : ℕ) (v : A) → j ≢ i → get_elem? l j ≡ some v → P j v) → (j : ℕ) (v : A) → get_elem? (set l i w) j ≡ some v → P j v
  each_set l i w mine others j v e = ⊎_elim (λ (t : (j ≡ i) × (w ≡ v)). subst (λ (z : ℕ × A). P z.0 z.1) (λ k. (sym t.0 k, t.1 k)) mine)
      (λ (t : (j ≢ i) × (get_elem? l j ≡ some v)). others j v t.0 t.1) (at_set l i j w v e)
