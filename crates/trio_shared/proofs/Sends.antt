-- A seat may cross to another thread, and threads may share the controller.
use denote.Param.Send.{IsSend, IsSync, sendable}
use Rattle.std.proofs.Crossing.{crosses}
use Rattle.trio_ctl.proofs.Sends.{ctl_sends}
use Rattle.trio_turn.proofs.seat.LibSeat.TheSendSync as seats
use Rattle.trio_turn.proofs.cell.Turn.TheSendSync as turns
use Rattle.trio_turn.specs.contracts.seat.LibSeat as seat
use Rattle.trio_turn.specs.contracts.cell.Turn as turn
use Rattle.trio_shared.specs.contracts.held.Held as held
use Rattle.trio_shared.specs.contracts.held.HeldLogged.TheImpl.{ghosts}
use Rattle.trio_shared.specs.contracts.cell.Shared as shared

held_sends : IsSend held.the_row
held_sends = search (sendable, crosses, ctl_sends) depth 60 fits 100000

-- a seat
pub seat_sends : IsSend (seat.the_row held.the_row)
seat_sends = seats.the_send held.the_row held_sends

turn_syncs : IsSync (turn.the_row held.the_row ghosts)
turn_syncs = turns.the_sync held.the_row ghosts held_sends

turn_field_syncs : IsSync (turn.the_field held.the_row ghosts).row
turn_field_syncs = turns.the_field_sync held.the_row ghosts held_sends

-- the controller
pub shared_syncs : IsSync shared.the_row
shared_syncs = search (sendable, crosses, turn_field_syncs, turn_syncs) depth 60 fits 100000
