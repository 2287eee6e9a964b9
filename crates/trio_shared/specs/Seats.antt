-- What contracts see of a seat, and of the controller that it is at.
use Rattle.std.specs.Prelude.{◌≡◌, ◌≤◌, ℕ, ◌+◌, List, [], length, None, Some, slice_get}
use Rattle.atomic_table.specs.Seated.{TableId}
use Rattle.trio_rights.specs.declared.rights.LibNo.{LibNo}
use Rattle.trio_desk.specs.Call.{DeskSeen}
use Rattle.trio_desk.specs.Out.{LibOut}
use Rattle.trio_turn.specs.declared.seat.LibSeat.{LibSeat}
use Rattle.trio_turn.specs.Origins.{Origin}
use Rattle.trio_turn.specs.Seats as turn
use Rattle.trio_shared.specs.declared.held.Held.{Held}
use Rattle.trio_shared.specs.declared.cell.Shared.{Shared}
use Rattle.trio_shared.specs.Left.{desk_left, origin_of, out_left}
use Rattle.trio_shared.specs.Turns.{Seated}

-- which controller it is
abbrev pub cell : Shared → TableId
cell shared = turn.cell shared.turn

-- how many libraries have a seat at it
abbrev pub library_count : Shared → ℕ
library_count shared = turn.library_count shared.turn

-- the seat's library
abbrev pub library_of : LibSeat Held → LibNo
library_of seat = record { 0 = turn.library seat }

-- all of a seat
abbrev pub seated : LibSeat Held → Seated
seated seat = record {
  lib = library_of seat;
  first = turn.first seat;
  seen = turn.seen seat;
  begun = turn.begun seat;
}

-- what the seat's library has out, by the entries that the seat has seen
abbrev pub out : LibSeat Held → LibOut
out seat = out_left (turn.first seat) (turn.seen seat) (library_of seat)

-- what is seen of the library's desk
abbrev pub desk : LibSeat Held → DeskSeen
desk seat = desk_left (turn.first seat) (turn.seen seat) (library_of seat)

-- what the controller began from
abbrev pub origin : Shared → Origin
origin shared = origin_of (turn.first_value shared.turn)

-- a seat that came from the start of this controller, and has no turn
pub record IsSeatOf (shared : Shared) (seat : LibSeat Held) : Type 0 where
  pub cell : turn.cell_of seat ≡ cell shared
  pub first : turn.first seat ≡ origin shared
  pub library : (1 ≤ turn.library seat) × (turn.library seat ≤ length (origin shared).creds)
  pub free : turn.has seat ≡ None

-- no release of its library has begun and not ended
abbrev pub IsIdle : LibSeat Held → Type 0
IsIdle seat = turn.begun seat ≡ None

-- a seat as it is at the start
pub record Starts (shared : Shared) (origin' : Origin) (library' : ℕ) (seat : LibSeat Held) : Type 0 where
  pub is : IsSeatOf shared seat
  pub library : turn.library seat ≡ library'
  pub first : turn.first seat ≡ origin'
  pub seen : turn.seen seat ≡ []
  pub idle : IsIdle seat

-- seats as they are at the start, of library 1, library 2, and so on
abbrev pub AllStart : Shared → Origin → List (LibSeat Held) → Type 0
AllStart shared origin' seats = (k : ℕ) (seat : LibSeat Held) → slice_get seats k ≡ Some seat → Starts shared origin' (k + 1) seat
