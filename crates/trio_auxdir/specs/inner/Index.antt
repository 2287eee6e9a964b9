-- What ties the fields of a `HashedDir` together. Cited by its own invariant and by private functions alone.
use Rattle.std.specs.Prelude.{ℕ, suc, ◌≡◌, ◌-◌, ◌<◌, ◌≤◌, ◌^◌, List, [], ◌∷◌, Option, None, Some, IsSome, length, slice_index_or}
use Rattle.std.specs.Global.{Vec}
use Rattle.std.specs.Vec.{vec_len, vec_capacity}
use Rattle.std.specs.Ordering.{nat_cmp}
use Rattle.std.specs.declared.cmp.Ordering.TheVariants.{Less}
use Rattle.std.specs.Cmp.Lexicographic.{slice_cmp}
use Rattle.trio_auxdir.specs.Slots.{NamesDiffer}

-- one name is below another in byte order
abbrev pub IsLess : List ℕ → List ℕ → Type 0
IsLess a b = slice_cmp nat_cmp a b ≡ Less

-- what the slot of this number has; nothing past the end
abbrev pub slot_at : List (Option (List ℕ)) → ℕ → Option (List ℕ)
slot_at slots number = slice_index_or slots number None

-- the name in a slot; what it says of an empty one means nothing
abbrev pub name_of : Option (List ℕ) → List ℕ
name_of None = []
name_of (Some name) = name

-- the number at a place of the order; what it says past the end means nothing
abbrev pub nth : List ℕ → ℕ → ℕ
nth order at = slice_index_or order at 0

-- the name whose slot has the number at a place of the order
abbrev pub nth_name : (ℕ → Option (List ℕ)) → List ℕ → ℕ → List ℕ
nth_name slot order at = name_of (slot (nth order at))

-- the numbers of the slots with names, each once, in the byte order of the names
pub record IsOrder (slot : ℕ → Option (List ℕ)) (order : List ℕ) : Type 0 where
  pub named : (k : ℕ) → k < length order → IsSome (slot (nth order k))
  pub rising : (j k : ℕ) → j < k → k < length order → IsLess (nth_name slot order j) (nth_name slot order k)
  pub all : (number : ℕ) → IsSome (slot number) → (k : ℕ) × (k < length order) × (nth order k ≡ number)

-- the name stands at this place of the order
pub record IsAt (slot : ℕ → Option (List ℕ)) (order : List ℕ) (name : List ℕ) (at : ℕ) : Type 0 where
  pub within : at < length order
  pub same : slot (nth order at) ≡ Some name

-- the name doesn't stand in the order, and belongs at this place of it
pub record IsGap (slot : ℕ → Option (List ℕ)) (order : List ℕ) (name : List ℕ) (at : ℕ) : Type 0 where
  pub within : at ≤ length order
  pub below : (k : ℕ) → k < at → IsLess (nth_name slot order k) name
  pub above : (k : ℕ) → at ≤ k → k < length order → IsLess name (nth_name slot order k)

-- the order is that of these slots, of which no two have the same name
pub record IsIndex (slots : List (Option (List ℕ))) (order : List ℕ) : Type 0 where
  pub sorted : IsOrder (slot_at slots) order
  pub differ : NamesDiffer slots

-- how many more numbers have a place
abbrev pub spare : Vec ℕ → ℕ
spare order = vec_capacity order - vec_len order

-- the number of the first empty slot, or how many slots there are
abbrev pub gap : List (Option (List ℕ)) → ℕ
gap [] = 0
gap (None ∷ slots) = 0
gap (Some name ∷ slots) = suc (gap slots)

-- the index, where the first empty slot is, and that slots are numbered by 32 bits
pub record IsKept (slots : List (Option (List ℕ))) (order : List ℕ) (first : ℕ) : Type 0 where
  pub index : IsIndex slots order
  pub at_gap : first ≡ gap slots
  pub few : length slots < 2 ^ 32
