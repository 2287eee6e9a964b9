-- The order and the slots after one step.
use Rattle.trio_auxdir.proofs.Words.{◌++◌, ◌+◌, ◌<◌, ◌∙◌, ◌∷◌, ◌≡◌, Err, IfSome, IsAt, IsGap, IsIndex, IsLess, IsSome, List, NamesDiffer, None, Ok, Option, Result, Some, [], ap, append-nil, append_assoc, arith, cases_lt, false≢true, get_or-set_other, get_or-set_same, get_or_past, inl, inr, insert, is_some, length, name_of, none-some, nth, nth_name, refl, remove, replicate, set, slice_get, slice_get_within, slot_at, slot_on, slot_with, subst, suc, sym, tabulated, zero, ℕ}
use Rattle.std.specs.Prelude.{IfOk, IfErr, IsOk, IsErr}
use Rattle.std.proofs.lemmas.Option.{slice_get-get_or, get_or_from_slice_get}
use Rattle.trio_auxdir.specs.Slots.{slots_on}
use Rattle.trio_auxdir.proofs.Sought.{less_itself, order_same, order_put, order_emptied}
use Rattle.trio_auxdir.proofs.SlotLists.{slot_there, slot_found, differ-put, differ-emptied, differ-push, new_before}

abbrev Slot : Type 0
Slot = Option (List ℕ)

-- ---- what was sought

slot_is : (slots : List Slot) (n : ℕ) (name : List ℕ) → slot_at slots n ≡ Some name → slice_get slots n ≡ Some (Some name)
slot_is slots n name e =
    elim (cases_lt n (length slots)) [
      | inl lt ↦ slice_get-get_or slots n None lt ∙ ap (λ (x : Slot). Some x) e
      | inr past ↦ absurd (none-some name (sym (get_or_past slots n None past) ∙ e))
    ]

pub found_at : (slots : List Slot) (order : List ℕ) (name : List ℕ) (at : ℕ) → IsIndex slots order → IsAt (slot_at slots) order name at
    → slot_with name slots ≡ Some (nth order at)
found_at slots order name at is there = slot_found name slots (nth order at) (slot_is slots (nth order at) name there.same) is.differ

absent_by : (slots : List Slot) (order : List ℕ) (name : List ℕ) (at : ℕ) → IsIndex slots order → IsGap (slot_at slots) order name at
    → (o : Option ℕ) → slot_with name slots ≡ o → o ≡ None
absent_by slots order name at is gap None e = refl
absent_by slots order name at is gap (Some n) e =
    let has : slot_at slots n ≡ Some name = get_or_from_slice_get slots n (Some name) None (slot_there name slots n e) in
    let there = is.sorted.all n (subst IsSome (sym has) refl) in
    let same : nth_name (slot_at slots) order there.0 ≡ name = ap (λ (m : ℕ). name_of (slot_at slots m)) there.2 ∙ ap name_of has in
    elim (cases_lt there.0 at) [
      | inl before ↦ absurd (less_itself name (subst (λ (x : List ℕ). IsLess x name) same (gap.below there.0 before)))
      | inr from ↦ absurd (less_itself name (subst (λ (x : List ℕ). IsLess name x) same (gap.above there.0 from there.1)))
    ]

pub absent_at : (slots : List Slot) (order : List ℕ) (name : List ℕ) (at : ℕ) → IsIndex slots order → IsGap (slot_at slots) order name at
    → slot_with name slots ≡ None
absent_at slots order name at is gap = absent_by slots order name at is gap (slot_with name slots) refl

-- a name that is nowhere isn't found, and any other is
pub misses : (slots : List Slot) (order : List ℕ) (name : List ℕ) (r : Result ℕ ℕ) → IsIndex slots order → slot_with name slots ≡ None
    → IfOk r (λ at. IsAt (slot_at slots) order name at) → IsErr r
misses slots order name (Ok at) is none there = absurd (none-some (nth order at) (sym none ∙ found_at slots order name at is there))
misses slots order name (Err at) is none there = refl

pub meets : (slots : List Slot) (order : List ℕ) (name : List ℕ) (r : Result ℕ ℕ) → IsIndex slots order → IsSome (slot_with name slots)
    → IfErr r (λ at. IsGap (slot_at slots) order name at) → IsOk r
meets slots order name (Ok at) is some gap = refl
meets slots order name (Err at) is some gap = absurd (false≢true (sym (ap is_some (absent_at slots order name at is gap)) ∙ some))

-- ---- one slot changed

pub index_put : (slots : List Slot) (order : List ℕ) (n at : ℕ) (name : List ℕ) → IsIndex slots order → slice_get slots n ≡ Some None
    → slot_with name slots ≡ None
    → IsGap (slot_at slots) order name at → IsIndex (set slots n (Some name)) (insert order at n)
index_put slots order n at name is empty none gap = record {
  sorted =
      order_put (slot_at slots) (slot_at (set slots n (Some name))) order at n name is.sorted (get_or_from_slice_get slots n None None empty)
      (get_or-set_same slots n (Some name) None (slice_get_within slots n None empty)) (λ k ne. get_or-set_other slots n k (Some name) None ne) gap;
  differ = differ-put name slots n empty none is.differ;
}

pub number_within : (slots : List Slot) (order : List ℕ) (name : List ℕ) (at : ℕ) → IsAt (slot_at slots) order name at → nth order at < length slots
number_within slots order name at there = slice_get_within slots (nth order at) (Some name) (slot_is slots (nth order at) name there.same)

pub index_emptied : (slots : List Slot) (order : List ℕ) (n at : ℕ) (name : List ℕ) → IsIndex slots order → IsAt (slot_at slots) order name at
    → nth order at ≡ n
    → IsIndex (set slots n None) (remove order at)
index_emptied slots order n at name is there number = record {
  sorted =
      order_emptied (slot_at slots) (slot_at (set slots n None)) order at n is.sorted there.within number
      (get_or-set_same slots n None None (subst (λ (m : ℕ). m < length slots) number (number_within slots order name at there)))
      (λ k ne. get_or-set_other slots n k None None ne);
  differ = differ-emptied slots n is.differ;
}

-- ---- empty slots behind the others

slot_at-push : (slots : List Slot) (k : ℕ) → slot_at (slots ++ None ∷ []) k ≡ slot_at slots k
slot_at-push [] zero = refl
slot_at-push [] (suc k) = refl
slot_at-push (slot ∷ slots) zero = refl
slot_at-push (slot ∷ slots) (suc k) = slot_at-push slots k

pub index_push : (slots : List Slot) (order : List ℕ) → IsIndex slots order → IsIndex (slots ++ None ∷ []) order
index_push slots order is = record {
  sorted = order_same (slot_at slots) (slot_at (slots ++ None ∷ [])) order is.sorted (slot_at-push slots);
  differ = differ-push slots is.differ;
}

-- the slot that was added last
pub slice_get-push : (slots : List Slot) (slot : Slot) (n : ℕ) → n ≡ length slots → slice_get (slots ++ slot ∷ []) n ≡ Some slot
slice_get-push slots slot n e = ap (slice_get (slots ++ slot ∷ [])) e ∙ last slots where
  last : (slots : List Slot) → slice_get (slots ++ slot ∷ []) (length slots) ≡ Some slot
  last [] = refl
  last (x ∷ slots) = last slots

pub index_empties : (n : ℕ) (slots : List Slot) (order : List ℕ) → IsIndex slots order → IsIndex (slots ++ replicate n None) order
index_empties zero slots order is = subst (λ (x : List Slot). IsIndex x order) (sym (append-nil slots)) is
index_empties (suc n) slots order is =
    let more : (slots ++ None ∷ []) ++ replicate n None ≡ slots ++ None ∷ replicate n None = append_assoc slots (None ∷ []) (replicate n None) in
    subst (λ (x : List Slot). IsIndex x order) more (index_empties n (slots ++ None ∷ []) order (index_push slots order is))

-- ---- the slots of a page, one by one

tabulated_split : {X : Type 0} (f : ℕ → X) (k n : ℕ) → k < n → (rest : List X) × (tabulated f n ≡ tabulated f k ++ f k ∷ rest)
tabulated_split f k zero lt = absurd (omega (arith, lt))
tabulated_split {X} f k (suc n) lt =
    elim (cases_lt k n) [
      | inl before ↦ let r = tabulated_split f k n before in
          (r.0 ++ f n ∷ [], ap (λ (x : List X). x ++ f n ∷ []) r.1 ∙ append_assoc (tabulated f k) (f k ∷ r.0) (f n ∷ []))
      | inr from ↦ let e : k ≡ n = omega (arith, lt, from) in ([], ap (λ (j : ℕ). tabulated f j ++ f j ∷ []) (sym e))
    ]

new_by : (slot : Slot) (slots more : List Slot) → NamesDiffer (slots ++ slot ∷ more) → IfSome slot (λ name. slot_with name slots ≡ None)
new_by None slots more differ = tt
new_by (Some name) slots more differ = new_before name slots more differ

-- the name in the next slot of a page isn't there yet
pub new_on : (inodes k : ℕ) (page : List ℕ) (slots : List Slot) → k < 16 → NamesDiffer (slots ++ slots_on inodes page)
    → IfSome (slot_on inodes page k) (λ name. slot_with name (slots ++ tabulated (slot_on inodes page) k) ≡ None)
unfolding slots_on
new_on inodes k page slots lt differ =
    let f : ℕ → Slot = slot_on inodes page in
    let r = tabulated_split f k 16 lt in
    let all : slots ++ tabulated f 16 ≡ (slots ++ tabulated f k) ++ f k ∷ r.0 = ap (λ (x : List Slot). slots ++ x) r.1
    ∙ sym (append_assoc slots (tabulated f k) (f k ∷ r.0)) in
    new_by (f k) (slots ++ tabulated f k) r.0 (subst NamesDiffer all differ)

-- one slot more
pub more_on : (f : ℕ → Slot) (slots : List Slot) (k : ℕ) → (slots ++ tabulated f k) ++ f k ∷ [] ≡ slots ++ tabulated f (k + 1)
more_on f slots k = append_assoc slots (tabulated f k) (f k ∷ []) ∙ ap (λ (j : ℕ). slots ++ tabulated f j) next where
  next : suc k ≡ k + 1
  next = omega arith
