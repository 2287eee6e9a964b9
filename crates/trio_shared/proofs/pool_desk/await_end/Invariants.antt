use Rattle.trio_shared.proofs.Words.{MarksStand, Waits, seated}
use Rattle.trio_pool.specs.Mails.{IsForMails}
use Rattle.trio_turn.specs.Seats.{IsSameSeat}
use Rattle.trio_shared.specs.Seats.{IsSeatOf}
use Rattle.trio_shared.proofs.pool_desk.await_end.Given as goal

abbrev pub invariant-loop : goal.invariant-loop
invariant-loop g l =
    IsSeatOf l.shared l.seat × IsSameSeat l.fn.seat l.seat × IsForMails l.mails l.mail × Waits (seated l.fn.seat) (seated l.seat) × MarksStand (seated l.seat) l.copy
