-- Libraries at their seats.
use Rattle.std.specs.Prelude.{◌≡◌, ◌+◌, ℕ, List, Some, length, slice_get}
use Rattle.trio_desk.specs.Out.{LibOut, OutAlike, nothing_out}
use Rattle.trio_turn.specs.Seats.{first, library, seen}
use Rattle.trio_turn.specs.declared.seat.LibSeat.{LibSeat}
use Rattle.trio_raw.specs.Has.{Has, OnList}
use Rattle.trio_shared.specs.declared.cell.Shared.{Shared}
use Rattle.trio_shared.specs.declared.held.Held.{Held}
use Rattle.trio_state.specs.State.{State}
use Rattle.trio_shared.specs.Left.{Leaves}
use Rattle.trio_shared.specs.Seats.{IsIdle, IsSeatOf, library_count, out}

-- an idle seat of the controller
pub record Sits (shared : Shared) (seat : LibSeat Held) : Type 0 where
  pub is_seat : IsSeatOf shared seat
  pub is_idle : IsIdle seat

-- the same seat, which is idle still
pub record SitsOn (shared : Shared) (old new : LibSeat Held) : Type 0 where
  pub sits : Sits shared new
  pub library : library new ≡ library old

-- and one whose library has nothing out
pub record Arrives (shared : Shared) (seat : LibSeat Held) : Type 0 where
  pub sits : Sits shared seat
  pub nothing : OutAlike (out seat) nothing_out

-- what a seat has seen leaves a state
pub record IsLeft (seat : LibSeat Held) : Type 0 where
  pub state : State
  pub left : Leaves (first seat) (seen seat) state

-- such a seat, and what its library has is out to it
pub record Plays (shared : Shared) (seat : LibSeat Held) (has : Has) : Type 0 where
  pub sits : Sits shared seat
  pub on_list : OnList (out seat) has

-- the library has played on, and has this
pub record PlaysOn (shared : Shared) (old new : LibSeat Held) (has : Has) : Type 0 where
  pub plays : Plays shared new has
  pub library : library new ≡ library old

-- what it has is written into, and stays on each list
pub record WritesOn (old new : Has) : Type 0 where
  pub stays : (out : LibOut) → OnList out old → OnList out new

-- the seat of this library
pub record IsBack (shared : Shared) (number : ℕ) (seat : LibSeat Held) : Type 0 where
  pub is_seat : IsSeatOf shared seat
  pub numbered : library seat ≡ number

-- and one that is idle, and whose library has nothing out
pub record IsNew (shared : Shared) (number : ℕ) (seat : LibSeat Held) : Type 0 where
  pub arrives : Arrives shared seat
  pub numbered : library seat ≡ number

-- the seats of all libraries of a controller, in their order, each of which is so
pub record AreAll (Is : Shared → ℕ → LibSeat Held → Type 0) (shared : Shared) (seats : List (LibSeat Held)) : Type 0 where
  pub count : length seats ≡ library_count shared
  pub each : (k : ℕ) (seat : LibSeat Held) → slice_get seats k ≡ Some seat → Is shared (k + 1) seat
