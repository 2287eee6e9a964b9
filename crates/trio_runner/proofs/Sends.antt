-- What crosses to the thread of a library and back, and what threads share of a script.
use Rattle.trio_runner.proofs.Words.{crosses, seat_sends}
use denote.Param.Send.{AllSync, IsSend, IsSync, recorded_sync, sendable, struct_sync}
use denote.Struct.Declared.{Declared, fields, row, shape}
use denote.Struct.Struct.{Struct}
use Rattle.trio_ctl.proofs.Sends.{ctl_sends}
use Rattle.trio_turn.proofs.seat.LibSeat.TheSendSync as seats
use Rattle.trio_turn.specs.contracts.seat.LibSeat as seat
use Rattle.trio_shared.specs.contracts.held.Held as held
use Rattle.trio_report.specs.contracts.answer.LineAnswer as answer
use Rattle.trio_report.specs.contracts.report.EndAnswer as end
use Rattle.trio_script.specs.contracts.honest.HonestLine as honest
use Rattle.trio_script.specs.contracts.ScriptLib as script
use Rattle.trio_runner.specs.contracts.told.LibTold as told
use Rattle.trio_runner.specs.contracts.threads.LibRun as ran

answer_sends : IsSend answer.the_row
answer_sends = search (sendable, crosses) depth 60 fits 100000

end_sends : IsSend end.the_row
end_sends = search (sendable, crosses) depth 60 fits 100000

-- what a library was told
pub told_sends : IsSend told.the_row
told_sends = search (sendable, crosses, answer_sends, end_sends) depth 60 fits 100000

held_sends : IsSend held.the_row
held_sends = search (sendable, crosses, ctl_sends) depth 60 fits 100000

-- a seat, as a field
pub seat_field_sends : IsSend (seat.the_field held.the_row).row
seat_field_sends = seats.the_field_send held.the_row held_sends

-- a library that has come to its end
pub run_sends : IsSend ran.the_row
run_sends = search (sendable, crosses, seat_field_sends, seat_sends, told_sends) depth 60 fits 100000

-- an honest line, with its call
line_syncs : IsSync honest.the_row
line_syncs = search (sendable, crosses) depth 60 fits 100000

-- a script's library
pub script_syncs : IsSync script.the_row
script_syncs = search (sendable, crosses, line_syncs) depth 60 fits 100000

-- a closure, where each of its captures is
pub captures_sync : (T : Declared) → AllSync (fields T) → IsSync (row T)
captures_sync T all = recorded_sync (Struct (shape T)) T.D T.to T.to_one (struct_sync (shape T) all)
