-- The first empty slot, after a slot changed and after slots were added.
use Rattle.trio_auxdir.proofs.Words.{◌++◌, ◌+◌, ◌<◌, ◌∙◌, ◌∷◌, ◌≡◌, ◌≢◌, ◌≤◌, List, None, Option, Some, [], ap, arith, cases_lt, cond, false, false≢true, gap, get_or, inl, inr, is_some, length, min, none-some, option_map, place_at, refl, replicate, same_Some, set, slice_get, suc, sym, true, zero, ℕ}
use Rattle.std.specs.Prelude.{is_none, nat_lt}
use Rattle.std.proofs.lemmas.Bool.{lt-ltb, le-ltb}
use Rattle.std.proofs.lemmas.Option.{slice_get_read}
use Rattle.trio_auxdir.specs.Slots.{first_slot}
use Rattle.trio_auxdir.specs.Places.{first_empty}

abbrev Slot : Type 0
Slot = Option (List ℕ)

pub gap-≤ : (slots : List Slot) → gap slots ≤ length slots
gap-≤ [] = omega arith
gap-≤ (None ∷ slots) = omega arith
gap-≤ (Some name ∷ slots) = omega (arith, gap-≤ slots)

-- the slots before the gap have names, and the one at it none
pub gap_passes : (slots : List Slot) (at : ℕ) (name : List ℕ) → at ≤ gap slots → slice_get slots at ≡ Some (Some name) → at + 1 ≤ gap slots
gap_passes [] at name le is = absurd (none-some (Some name) is)
gap_passes (None ∷ slots) zero name le is = absurd (none-some name (same_Some None (Some name) is))
gap_passes (None ∷ slots) (suc at) name le is = absurd (omega (arith, le))
gap_passes (Some m ∷ slots) zero name le is = omega arith
gap_passes (Some m ∷ slots) (suc at) name le is = omega (arith, gap_passes slots at name (omega (arith, le)) is)

pub gap_here : (slots : List Slot) (at : ℕ) → at ≤ gap slots → slice_get slots at ≡ Some None → at ≡ gap slots
gap_here [] at le is = absurd (none-some None is)
gap_here (None ∷ slots) zero le is = refl
gap_here (None ∷ slots) (suc at) le is = absurd (omega (arith, le))
gap_here (Some m ∷ slots) zero le is = absurd (none-some m (sym (same_Some (Some m) None is)))
gap_here (Some m ∷ slots) (suc at) le is = ap suc (gap_here slots at (omega (arith, le)) is)

-- an empty slot that isn't the first one gets a name
pub gap-put : (name : List ℕ) (slots : List Slot) (i : ℕ) → slice_get slots i ≡ Some None → i ≢ gap slots → gap (set slots i (Some name)) ≡ gap slots
gap-put name [] i is ne = refl
gap-put name (None ∷ slots) zero is ne = absurd (ne refl)
gap-put name (None ∷ slots) (suc i) is ne = refl
gap-put name (Some m ∷ slots) zero is ne = absurd (none-some m (sym (same_Some (Some m) None is)))
gap-put name (Some m ∷ slots) (suc i) is ne = ap suc (gap-put name slots i is (λ e. ne (ap suc e)))

-- the first one does: the next is behind it
pub gap_after : (name : List ℕ) (slots : List Slot) (i : ℕ) → slice_get slots i ≡ Some None → i ≡ gap slots → i + 1 ≤ gap (set slots i (Some name))
gap_after name [] i is e = absurd (none-some None is)
gap_after name (None ∷ slots) zero is e = omega arith
gap_after name (None ∷ slots) (suc i) is e = absurd (omega (arith, e))
gap_after name (Some m ∷ slots) zero is e = absurd (omega (arith, e))
gap_after name (Some m ∷ slots) (suc i) is e = omega (arith, gap_after name slots i is (omega (arith, e)))

-- one name for another
pub gap-renamed : (name new : List ℕ) (slots : List Slot) (i : ℕ) → slice_get slots i ≡ Some (Some name) → gap (set slots i (Some new)) ≡ gap slots
gap-renamed name new [] i is = refl
gap-renamed name new (None ∷ slots) zero is = absurd (none-some name (same_Some None (Some name) is))
gap-renamed name new (None ∷ slots) (suc i) is = refl
gap-renamed name new (Some m ∷ slots) zero is = refl
gap-renamed name new (Some m ∷ slots) (suc i) is = ap suc (gap-renamed name new slots i is)

pub gap-emptied : (slots : List Slot) (i : ℕ) → i < length slots → gap (set slots i None) ≡ min (gap slots) i
gap-emptied [] i lt = absurd (omega (arith, lt))
gap-emptied (None ∷ slots) zero lt = omega arith
gap-emptied (None ∷ slots) (suc i) lt = omega arith
gap-emptied (Some m ∷ slots) zero lt = omega arith
gap-emptied (Some m ∷ slots) (suc i) lt = omega (arith, gap-emptied slots i (omega (arith, lt)))

-- more slots behind
pub gap-append : (slots more : List Slot) → gap slots ≤ gap (slots ++ more)
gap-append [] more = omega arith
gap-append (None ∷ slots) more = omega arith
gap-append (Some m ∷ slots) more = omega (arith, gap-append slots more)

pub gap-empties : (slots : List Slot) (n : ℕ) → gap (slots ++ replicate n None) ≡ gap slots
gap-empties [] zero = refl
gap-empties [] (suc n) = refl
gap-empties (None ∷ slots) n = refl
gap-empties (Some m ∷ slots) n = ap suc (gap-empties slots n)

-- the gap is the first empty slot, where there is one
pub first_slot-gap : (slots : List Slot) → first_slot is_none slots ≡ cond (nat_lt (gap slots) (length slots)) (Some (gap slots)) None
first_slot-gap [] = refl
first_slot-gap (None ∷ slots) = rw (lt-ltb 0 (suc (length slots)) (omega arith)) refl
first_slot-gap (Some m ∷ slots) =
    elim (cases_lt (gap slots) (length slots)) [
      | inl lt ↦ rw (first_slot-gap slots, lt-ltb (gap slots) (length slots) lt, lt-ltb (suc (gap slots)) (suc (length slots)) (omega arith)) refl
      | inr ge ↦ rw (first_slot-gap slots, le-ltb (gap slots) (length slots) ge, le-ltb (suc (gap slots)) (suc (length slots)) (omega arith)) refl
    ]

-- one slot that was read, on the way to the gap
pub gap_read : (slots : List Slot) (at : ℕ) (slot : Slot) → at ≤ gap slots → at < length slots → slot ≡ get_or slots at slot → is_some slot ≡ true
    → at + 1 ≤ gap slots
gap_read slots at None le lt is some = absurd (false≢true some)
gap_read slots at (Some name) le lt is some = gap_passes slots at name le (slice_get_read slots (length slots) at (Some name) refl lt is)

pub gap_read_here : (slots : List Slot) (at : ℕ) (slot : Slot) → at ≤ gap slots → at < length slots → slot ≡ get_or slots at slot
    → is_some slot ≡ false → at ≡ gap slots
gap_read_here slots at None le lt is none = gap_here slots at le (slice_get_read slots (length slots) at None refl lt is)
gap_read_here slots at (Some name) le lt is none = absurd (false≢true (sym none))

-- the place of the gap
pub first_empty-at : (slots : List Slot) (first : ℕ) → first ≡ gap slots → first < length slots → Some (place_at first) ≡ first_empty slots
first_empty-at slots first is lt =
    let e : cond (nat_lt (gap slots) (length slots)) (Some (gap slots)) None ≡ Some (gap slots) = rw (lt-ltb (gap slots) (length slots) (omega arith)) refl in
    ap (λ (n : ℕ). Some (place_at n)) is ∙ sym (ap (option_map place_at) (first_slot-gap slots ∙ e))

pub first_empty-none : (slots : List Slot) (first : ℕ) → first ≡ gap slots → length slots ≤ first → None ≡ first_empty slots
first_empty-none slots first is le =
    let e : cond (nat_lt (gap slots) (length slots)) (Some (gap slots)) None ≡ None = rw (le-ltb (gap slots) (length slots) (omega arith)) refl in
    sym (ap (option_map place_at) (first_slot-gap slots ∙ e))

pub first_empty-slot : (slots : List Slot) (first : ℕ) → first ≡ gap slots → first < length slots → slice_get slots first ≡ Some None
first_empty-slot [] first is lt = absurd (omega (arith, lt))
first_empty-slot (None ∷ slots) zero is lt = refl
first_empty-slot (None ∷ slots) (suc first) is lt = absurd (omega (arith, is))
first_empty-slot (Some m ∷ slots) zero is lt = absurd (omega (arith, is))
first_empty-slot (Some m ∷ slots) (suc first) is lt = first_empty-slot slots first (omega (arith, is)) (omega (arith, lt))
