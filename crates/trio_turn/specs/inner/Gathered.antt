-- The libraries of seats that were joined.
use Rattle.std.specs.Prelude.{◌≡◌, ℕ, List, Some, slice_get}
use mathlib.Core.Option.{some}
use lib.ListN.{get_elem?}
use Rattle.trio_turn.specs.declared.view.Library.{Library}
use Rattle.trio_turn.specs.declared.seat.LibSeat.{LibSeat}
use Rattle.trio_turn.specs.Seats.{library, first, begun, seen}

-- the library of a seat, with all that the seat has seen
abbrev pub library_of : {T : Type 0} → LibSeat T → Library
library_of s = record { number = library s; first = first s; begun = begun s; seen = seen s }

-- the library of each seat is among these, with all that the seat has seen
abbrev pub HasEach : {T : Type 0} → List Library → List (LibSeat T) → Type 0
HasEach {T} libraries seats = (k : ℕ) (s : LibSeat T) → slice_get seats k ≡ Some s → (i : ℕ) × (get_elem? libraries i ≡ some (library_of s))
