-- What ties the fields of a hashed directory together, after one call.
use Rattle.trio_auxdir.proofs.Words.{◌*◌, ◌++◌, ◌+◌, ◌/◌, ◌<◌, ◌^◌, ◌∙◌, ◌∷◌, ◌≡◌, ◌≢◌, Bool, IsIndex, List, NamesDiffer, None, Option, Some, [], ap, arith, bytes_eq, cond, false, gap, length, length-append, min, none-some, option_map, place_at, refl, replicate, set, slice_get, slice_get_within, slot_number, slot_with, subst, suc, sym, true, zero, ℕ}
use Rattle.std.proofs.Common.{◌%◌}
use Rattle.std.proofs.lemmas.List.{length-set, length-replicate, set-set}
use Rattle.trio_auxdir.specs.declared.place.Place.{Place}
use Rattle.trio_auxdir.specs.Places.{place_of, with_slot}
use Rattle.trio_auxdir.specs.inner.Index.{IsKept}
use Rattle.trio_auxdir.proofs.SlotLists.{slot_there, nowhere_emptied, slot_with-put, slot_with-emptied}
use Rattle.trio_auxdir.proofs.Indexes.{index_empties}
use Rattle.trio_auxdir.proofs.Gaps.{gap-put, gap-emptied, gap-renamed, gap-empties}

abbrev Slot : Type 0
Slot = Option (List ℕ)

-- ---- places

pub slot_number-place_at : (n : ℕ) → slot_number (place_at n) ≡ n
slot_number-place_at n = omega arith

pub no_place : (name : List ℕ) (slots : List Slot) → place_of name slots ≡ None → slot_with name slots ≡ None
no_place name slots e = none (slot_with name slots) e where
  none : (o : Option ℕ) → option_map place_at o ≡ None → o ≡ None
  none None e = refl
  none (Some n) e = absurd (none-some (place_at n) (sym e))

-- the slot of a name, by its place
pub set-with_slot : (name : List ℕ) (slot : Slot) (slots : List Slot) (n : ℕ) → slot_with name slots ≡ Some n
    → set slots n slot ≡ with_slot (place_of name slots) slot slots
set-with_slot name slot slots n e =
    ap (λ (k : ℕ). set slots k slot) (sym (slot_number-place_at n)) ∙ sym (ap (λ (o : Option ℕ). with_slot (option_map place_at o) slot slots) e)

-- ---- a slot that was set

pub slice_get-set : (slots : List Slot) (i : ℕ) (slot : Slot) → i < length slots → slice_get (set slots i slot) i ≡ Some slot
slice_get-set [] i slot lt = absurd (omega (arith, lt))
slice_get-set (x ∷ slots) zero slot lt = refl
slice_get-set (x ∷ slots) (suc i) slot lt = slice_get-set slots i slot (omega (arith, lt))

pub number_within : (name : List ℕ) (slots : List Slot) (n : ℕ) → slot_with name slots ≡ Some n → n < length slots
number_within name slots n e = slice_get_within slots n (Some name) (slot_there name slots n e)

-- ---- what is kept

pub index_same : (slots new : List Slot) (order order' : List ℕ) → IsIndex slots order → new ≡ slots → order' ≡ order → IsIndex new order'
index_same slots new order order' is e same = subst (λ (x : List Slot). IsIndex x order') (sym e) (subst (λ (x : List ℕ). IsIndex slots x) (sym same) is)

pub kept_same : (slots new : List Slot) (order order' : List ℕ) (first : ℕ) → IsKept slots order first → new ≡ slots → order' ≡ order → IsKept new order' first
kept_same slots new order order' first is e same = record {
  index = index_same slots new order order' is.index e same;
  at_gap = is.at_gap ∙ ap gap (sym e);
  few = omega (arith, is.few, ap length e);
}

pub kept_empties : (slots new : List Slot) (order : List ℕ) (first : ℕ) → IsKept slots order first → new ≡ slots ++ replicate 16 None
    → length slots + 16 < 2 ^ 32 → IsKept new order first
kept_empties slots new order first is e few = record {
  index = subst (λ (x : List Slot). IsIndex x order) (sym e) (index_empties 16 slots order is.index);
  at_gap = is.at_gap ∙ sym (gap-empties slots 16) ∙ ap gap (sym e);
  few = omega (arith, few, ap length e, length-append slots (replicate 16 None), length-replicate {A = Slot} 16 None);
}

pub kept_put : (slots new : List Slot) (order order' : List ℕ) (first n : ℕ) (name : List ℕ) → IsKept slots order first
    → slice_get slots n ≡ Some None → n ≢ first
    → new ≡ set slots n (Some name) → IsIndex new order' → IsKept new order' first
kept_put slots new order order' first n name is at ne e index = record {
  index = index;
  at_gap = is.at_gap ∙ sym (gap-put name slots n at (λ same. ne (same ∙ sym is.at_gap))) ∙ ap gap (sym e);
  few = omega (arith, is.few, ap length e, length-set slots n (Some name));
}

pub kept_emptied : (slots new : List Slot) (order order' : List ℕ) (first n : ℕ) (name : List ℕ) → IsKept slots order first → slot_with name slots ≡ Some n
    → new ≡ set slots n None → IsIndex new order' → IsKept new order' (min first n)
kept_emptied slots new order order' first n name is at e index = record {
  index = index;
  at_gap = ap (λ (k : ℕ). min k n) is.at_gap ∙ sym (gap-emptied slots n (number_within name slots n at)) ∙ ap gap (sym e);
  few = omega (arith, is.few, ap length e, length-set {A = Slot} slots n None);
}

pub set_again : (slots new last : List Slot) (n : ℕ) (to : Slot) → new ≡ set slots n None → last ≡ set new n to → last ≡ set slots n to
set_again slots new last n to e f = f ∙ ap (λ (x : List Slot). set x n to) e ∙ set-set slots n None to

pub kept_renamed : (slots last : List Slot) (order order' : List ℕ) (first n : ℕ) (name to : List ℕ) → IsKept slots order first → slot_with name slots ≡ Some n
    → last ≡ set slots n (Some to) → IsIndex last order' → IsKept last order' first
kept_renamed slots last order order' first n name to is at e index = record {
  index = index;
  at_gap = is.at_gap ∙ sym (gap-renamed name to slots n (slot_there name slots n at)) ∙ ap gap (sym e);
  few = omega (arith, is.few, ap length e, length-set slots n (Some to));
}

-- ---- where each name stands afterwards

pub place_at-slot_number : (place : Place) → place.slot < 16 → place_at (slot_number place) ≡ place
place_at-slot_number place lt =
    same_place ((16 * place.block + place.slot) / 16) ((16 * place.block + place.slot) % 16) place (omega (arith, lt)) (omega (arith, lt)) where
      same_place : (b s : ℕ) (p : Place) → b ≡ p.block → s ≡ p.slot → record { block = b; slot = s } ≡ p
      same_place b s p e f = rw (e, f) refl

option_map-cond : {X Y : Type 0} (f : X → Y) (b : Bool) (o p : Option X) → option_map f (cond b o p) ≡ cond b (option_map f o) (option_map f p)
option_map-cond f true o p = refl
option_map-cond f false o p = refl

pub place_of-empties : (slots new : List Slot) (n : ℕ) (name : List ℕ) → new ≡ slots ++ replicate n None → place_of name new ≡ place_of name slots
place_of-empties slots new n name e = ap (place_of name) e ∙ ap (option_map place_at) (slot_with-empties n slots) where
  slot_with-empties : (n : ℕ) (slots : List Slot) → slot_with name (slots ++ replicate n None) ≡ slot_with name slots
  slot_with-empties n [] = nowhere n where
    nowhere : (n : ℕ) → slot_with name (replicate n None) ≡ None
    nowhere zero = refl
    nowhere (suc n) = ap (option_map suc) (nowhere n)
  slot_with-empties n (slot ∷ slots) = rw (slot_with-empties n slots) refl

pub place_of-put : (slots new : List Slot) (place : Place) (name other : List ℕ) → place.slot < 16
    → slice_get slots (slot_number place) ≡ Some None → place_of name slots ≡ None
    → new ≡ set slots (slot_number place) (Some name) → place_of other new ≡ cond (bytes_eq name other) (Some place) (place_of other slots)
place_of-put slots new place name other lt at none e =
    let n : ℕ = slot_number place in
    ap (place_of other) e ∙ ap (option_map place_at) (slot_with-put name other slots n at (no_place name slots none))
    ∙ option_map-cond place_at (bytes_eq name other) (Some n) (slot_with other slots)
    ∙ ap (λ (p : Place). cond (bytes_eq name other) (Some p) (place_of other slots)) (place_at-slot_number place lt)

pub place_of-emptied : (slots new : List Slot) (n : ℕ) (name other : List ℕ) → NamesDiffer slots → slot_with name slots ≡ Some n
    → new ≡ set slots n None → place_of other new ≡ cond (bytes_eq name other) None (place_of other slots)
place_of-emptied slots new n name other differ at e =
    ap (place_of other) e ∙ ap (option_map place_at) (slot_with-emptied name other slots n (slot_there name slots n at) differ)
    ∙ option_map-cond place_at (bytes_eq name other) None (slot_with other slots)

pub place_of-renamed : (slots new last : List Slot) (n : ℕ) (name to other : List ℕ) → NamesDiffer slots → slot_with name slots ≡ Some n
    → slot_with to slots ≡ None
    → new ≡ set slots n None → last ≡ set new n (Some to)
    → place_of other last ≡ cond (bytes_eq to other) (place_of name slots) (cond (bytes_eq name other) None (place_of other slots))
place_of-renamed slots new last n name to other differ at none e f =
    let at' : slice_get new n ≡ Some None = ap (λ (x : List Slot). slice_get x n) e ∙ slice_get-set slots n None (number_within name slots n at) in
    let none' : slot_with to new ≡ None = ap (slot_with to) e ∙ nowhere_emptied to slots n none in
    ap (place_of other) f ∙ ap (option_map place_at) (slot_with-put to other new n at' none')
    ∙ option_map-cond place_at (bytes_eq to other) (Some n) (slot_with other new)
    ∙ ap (λ (p : Option Place). cond (bytes_eq to other) p (place_of other new)) (sym (ap (option_map place_at) at))
    ∙ ap (λ (p : Option Place). cond (bytes_eq to other) (place_of name slots) p) (place_of-emptied slots new n name other differ at e)
