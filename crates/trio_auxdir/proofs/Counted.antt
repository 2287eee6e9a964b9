-- How many slots have a name: as many as their numbers in order.
use Rattle.trio_auxdir.proofs.Words.{◌<◌, ◌∙◌, ◌∷◌, ◌≡◌, ◌≢◌, ◌≤◌, IsLess, IsOrder, IsSome, List, None, Option, Some, [], ap, arith, cases_eq, cases_lt, false≢true, filter, get_or-set_other, get_or-set_same, get_or_past, inl, inr, length, name_of, nth, nth_name, refl, set, slot_at, subst, suc, sym, zero, ℕ}
use Rattle.std.specs.Option.{is_some}
use Rattle.trio_auxdir.proofs.Sought.{less_itself}

abbrev Slot : Type 0
Slot = Option (List ℕ)

abbrev named : List Slot → ℕ
named slots = length (filter is_some slots)

-- these are the numbers of the slots with names, each once
record AreNamed (slots : List Slot) (order : List ℕ) : Type 0 where
  pub some : (k : ℕ) → k < length order → IsSome (slot_at slots (nth order k))
  pub apart : (j k : ℕ) → j < k → k < length order → nth order j ≢ nth order k
  pub all : (n : ℕ) → IsSome (slot_at slots n) → (k : ℕ) × (k < length order) × (nth order k ≡ n)

-- no slot has a name
named-none : (slots : List Slot) → ((n : ℕ) → IsSome (slot_at slots n) → ⊥) → named slots ≡ 0
named-none [] none = refl
named-none (None ∷ slots) none = named-none slots (λ n is. none (suc n) is)
named-none (Some name ∷ slots) none = absurd (none zero refl)

-- one is emptied
named-emptied : (slots : List Slot) (n : ℕ) → IsSome (slot_at slots n) → named slots ≡ suc (named (set slots n None))
named-emptied [] n is = absurd (false≢true is)
named-emptied (None ∷ slots) zero is = absurd (false≢true is)
named-emptied (Some name ∷ slots) zero is = refl
named-emptied (None ∷ slots) (suc n) is = named-emptied slots n is
named-emptied (Some name ∷ slots) (suc n) is = ap suc (named-emptied slots n is)

-- a slot with a name is one of them
within : (slots : List Slot) (n : ℕ) → IsSome (slot_at slots n) → n < length slots
within slots n is = elim (cases_lt n (length slots)) [
  | inl lt ↦ lt
  | inr past ↦ absurd (false≢true (ap is_some (sym (get_or_past slots n None past)) ∙ is))
]

-- the others are the numbers of the other slots
named_rest : (slots : List Slot) (n : ℕ) (order : List ℕ) → AreNamed slots (n ∷ order) → AreNamed (set slots n None) order
named_rest slots n order are =
    let same : (m : ℕ) → m ≢ n → slot_at (set slots n None) m ≡ slot_at slots m = λ m ne. get_or-set_other slots n m None None ne in
    let gone : slot_at (set slots n None) n ≡ None = get_or-set_same slots n None None (within slots n (are.some zero (omega arith))) in
    record {
      some = λ k lt.
          let other : nth order k ≢ n = λ e. are.apart zero (suc k) (omega arith) (omega (arith, lt)) (sym e) in
          subst IsSome (sym (same (nth order k) other)) (are.some (suc k) (omega (arith, lt)));
      apart = λ j k before lt. are.apart (suc j) (suc k) (omega (arith, before)) (omega (arith, lt));
      all = λ m is. elim (cases_eq m n) [
        | inl e ↦ absurd (false≢true (ap is_some (sym (ap (slot_at (set slots n None)) e ∙ gone)) ∙ is))
        | inr other ↦ later m other (are.all m (subst IsSome (same m other) is))
      ];
    }
  where
    later : (m : ℕ) → m ≢ n → (k : ℕ) × (k < length (n ∷ order)) × (nth (n ∷ order) k ≡ m) → (k : ℕ) × (k < length order) × (nth order k ≡ m)
    later m other (zero, lt, e) = absurd (other (sym e))
    later m other (suc k, lt, e) = (k, omega (arith, lt), e)

length-named : (order : List ℕ) (slots : List Slot) → AreNamed slots order → length order ≡ named slots
length-named [] slots are = sym (named-none slots (λ n is. let at = are.all n is in absurd (omega (arith, at.1))))
length-named (n ∷ order) slots are =
    ap suc (length-named order (set slots n None) (named_rest slots n order are)) ∙ sym (named-emptied slots n (are.some zero (omega arith)))

pub length-order : (slots : List Slot) (order : List ℕ) → IsOrder (slot_at slots) order → length order ≡ length (filter is_some slots)
length-order slots order is = length-named order slots (record {
  some = is.named;
  apart = λ j k before lt e. less_itself (nth_name (slot_at slots) order k)
      (subst (λ x. IsLess x (nth_name (slot_at slots) order k)) (ap (λ n. name_of (slot_at slots n)) e) (is.rising j k before lt));
  all = is.all;
})

-- no more than there are slots
pub length-filter_some : (slots : List (Option (List ℕ))) → length (filter is_some slots) ≤ length slots
length-filter_some [] = omega arith
length-filter_some (None ∷ slots) = let rest = length-filter_some slots in omega (arith, rest)
length-filter_some (Some name ∷ slots) = let rest = length-filter_some slots in omega (arith, rest)
