-- What seats have seen of the log of their controller.
use Rattle.std.specs.Prelude.{◌≡◌, ◌<◌, ◌+◌, ℕ, List, length, Some, slice_get}
use mathlib.Core.List.{IsPrefix}
use Rattle.trio_nodes.specs.declared.entry.Entry.{Entry}
use Rattle.trio_turn.specs.Logs.{maker}
use Rattle.trio_turn.specs.Seats.{seen}
use Rattle.trio_turn.specs.declared.seat.LibSeat.{LibSeat}
use Rattle.trio_shared.specs.declared.held.Held.{Held}

-- A history begins the log, and has each entry of this library.
pub record HasSeen (history : List Entry) (lib : ℕ) (log : List Entry) : Type 0 where
  pub begins : IsPrefix history log
  pub own : (k : ℕ) (e : Entry) → slice_get log k ≡ Some e → maker e ≡ lib → k < length history

-- So does what each seat has seen, the seat of library 1 first.
pub record HaveSeen (seats : List (LibSeat Held)) (log : List Entry) : Type 0 where
  pub each : (k : ℕ) (seat : LibSeat Held) → slice_get seats k ≡ Some seat → HasSeen (seen seat) (k + 1) log
