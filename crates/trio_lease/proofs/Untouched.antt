-- Blocks that aren't marked as touched are as they were lent.
use Rattle.trio_lease.proofs.Words.{◌<◌, ◌∙◌, ◌∷◌, ◌≡◌, ◌≤◌, In, LentPage, List, [], ap, as_touched, inl, inr, length, lent_at, map, slice_index_or, slice_set, subst, suc, sym, take, true, with_touched, zero, ℕ}
use Rattle.std.proofs.Common.{◌⊎◌, ◌+◌}
use Rattle.std.proofs.lemmas.List.{take_more, take_all}
use Rattle.trio_lists.proofs.Members.{In-cases}

-- what stands in a list with one page put in stood in it before, or is that page
in_set : (pages : List LentPage) (i : ℕ) (q p : LentPage) → In p (slice_set pages i q) → (p ≡ q) ⊎ In p pages
in_set [] i q p h = absurd h
in_set (x ∷ xs) zero q p (inl e) = inl e
in_set (x ∷ xs) zero q p (inr h) = inr (inr h)
in_set (x ∷ xs) (suc i) q p (inl e) = inr (inl e)
in_set (x ∷ xs) (suc i) q p (inr h) = elim (in_set xs i q p h) [ inl e ↦ inl e | inr k ↦ inr (inr k) ]

-- a page that is marked and put in changes none that isn't marked
pub touched_kept : (lent pages : List LentPage) (i : ℕ) (bytes : List ℕ)
    → ((p : LentPage) → In p pages → (p.touched ≡ true) ⊎ In p lent)
    → (p : LentPage) → In p (with_touched pages i bytes) → (p.touched ≡ true) ⊎ In p lent
touched_kept lent pages i bytes kept p h =
    elim (in_set pages i (record (lent_at pages i) { page = bytes; touched = true }) p h) [
      | inl e ↦ inl (ap (λ (q : LentPage). q.touched) e)
      | inr k ↦ kept p k
    ]

-- of pages that are all marked none isn't
pub all_marked : (pages : List LentPage) (p : LentPage) → In p (map as_touched pages) → p.touched ≡ true
all_marked [] p h = absurd h
all_marked (q ∷ qs) p (inl e) = ap (λ (x : LentPage). x.touched) e
all_marked (q ∷ qs) p (inr h) = all_marked qs p h

-- ---- what is so of each of a list, told one after another

module _ {X : Type 0} (P : X → Type 0) (xs : List X) (i : ℕ) where
  pub one_more : (x : X) → i < length xs → x ≡ slice_index_or xs i x → P x → ((y : X) → In y (take i xs) → P y) → (y : X) → In y (take (i + 1) xs) → P y
  one_more x lt is here before y h =
      elim (In-cases y (take i xs) (slice_index_or xs i x ∷ []) (subst (In y) (take_more xs i x lt) h)) [
        | inl k ↦ before y k
        | inr k ↦ elim k [ inl e ↦ subst P (is ∙ sym e) here | inr n ↦ absurd n ]
      ]

  pub all_told : length xs ≤ i → ((y : X) → In y (take i xs) → P y) → (y : X) → In y xs → P y
  all_told le told y h = told y (subst (In y) (sym (take_all i xs le)) h)
