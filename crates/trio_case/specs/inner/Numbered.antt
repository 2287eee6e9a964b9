-- Numbers that differ, by their places. Cited by private functions and by the invariant of a case alone.
use Rattle.std.specs.Prelude.{ℕ, ◌≡◌, ◌≤◌, true, List, [], map, Some, slice_get, vec_capacity}
use Rattle.trio_lists.specs.Lists.{In, are_new}
use Rattle.trio_case.specs.Order.{in_order}
use Rattle.trio_case.specs.declared.numbered.NumberPlace.{NumberPlace}
use Rattle.trio_case.specs.declared.numbered.NumbersRoom.{NumbersRoom}

-- the numbers
abbrev pub counted_numbers : List NumberPlace → List ℕ
counted_numbers places = map (λ p. p.no) places

-- each is a number of the list at its place
abbrev pub AreCounted : List ℕ → List NumberPlace → Type 0
AreCounted numbers places = (p : NumberPlace) → In p places → slice_get numbers p.at ≡ Some p.no

-- there is memory for so many numbers and their places
pub record HasNumberPlaces (count : ℕ) (room : NumbersRoom) : Type 0 where
  pub numbers : count ≤ vec_capacity room.numbers
  pub places : count ≤ vec_capacity room.places

-- no number was added yet
abbrev pub is_blank : NumbersRoom → Type 0
is_blank room = room.numbers.items ≡ []

-- the numbers differ, and stand in rising order with their places
pub record ArePlaced (numbers : List ℕ) (places : List NumberPlace) : Type 0 where
  pub differ : are_new [] numbers ≡ true
  pub rising : counted_numbers places ≡ in_order numbers
  pub counted : AreCounted numbers places
