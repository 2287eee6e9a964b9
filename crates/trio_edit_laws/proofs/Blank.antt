-- A directory that has blank pages behind its others: they list nothing.
use Rattle.trio_edit_laws.proofs.Words.{◌++◌, ◌<◌, ◌∙◌, ◌∷◌, ◌≡◌, Core, Directory, Empty, In, List, Ok, Result, Some, [], ap, arith, body_in_slot, both, empty_value, entries_within, gathered, gathered_below, inl, inr, listed_at, page_of, refl, slot_bytes, slot_entries, slot_of, suc, zero, zeros, ℕ}
use Rattle.trio_page.proofs.Zeros.{number32_zeros, slice-zeros}
use Rattle.trio_layout.specs.Entries.{entries_on}

-- each slot of a page of zeros is empty
pub slot_of-zeros : (inodes t : ℕ) → t < 16 → slot_of inodes (slot_bytes t (zeros 4096)) ≡ Empty
slot_of-zeros inodes t lt = search (arith, slice-zeros, empty_value, number32_zeros)

below-none : {Y E : Type 0} (f : ℕ → Result (List Y) E) (n : ℕ) → ((k : ℕ) → k < n → f k ≡ Ok []) → gathered_below f n ≡ Ok []
below-none f zero h = refl
below-none f (suc n) h = ap (λ r. both r (f n)) (below-none f n (λ k lt. h k (omega arith))) ∙ ap (both (Ok [])) (h n (omega arith))

pub entries_on-zeros : (inodes page : ℕ) → entries_on inodes page (zeros 4096) ≡ Ok []
unfolding entries_on
entries_on-zeros inodes page =
    below-none (slot_entries inodes page (zeros 4096)) 16 (λ t lt. ap (listed_at page t (body_in_slot t (zeros 4096))) (slot_of-zeros inodes t lt))

gathered-none : {X Y E : Type 0} (f : X → Result (List Y) E) (xs : List X) → ((x : X) → In x xs → f x ≡ Ok []) → gathered f xs ≡ Ok []
gathered-none f [] h = refl
gathered-none f (x ∷ xs) h = ap (λ r. both r (gathered f xs)) (h x (inl refl)) ∙ ap (both (Ok [])) (gathered-none f xs (λ y i. h y (inr i)))

gathered-more : {X Y E : Type 0} (f f' : X → Result (List Y) E) (xs more : List X) → ((x : X) → In x xs → f' x ≡ f x) → ((x : X) → In x more → f' x ≡ Ok []) → gathered f' (xs ++ more) ≡ gathered f xs
gathered-more f f' [] more same blank = gathered-none f' more blank
gathered-more f f' (x ∷ xs) more same blank =
    ap (λ r. both r (gathered f' (xs ++ more))) (same x (inl refl)) ∙ ap (both (f x)) (gathered-more f f' xs more (λ y i. same y (inr i)) blank)

-- the entries of a directory whose pages are as they were stay, where blank ones come behind them
pub entries_within-blank : (core core' : Core) (blocks more : List ℕ) → core'.inodes ≡ core.inodes → ((n : ℕ) → In n blocks → page_of core' n ≡ page_of core n) → ((n : ℕ) → In n more → page_of core' n ≡ Some (zeros 4096))
    → entries_within core' Directory (blocks ++ more) ≡ entries_within core Directory blocks
entries_within-blank core core' blocks more inodes same blank = search (arith, gathered-more, entries_on-zeros)
