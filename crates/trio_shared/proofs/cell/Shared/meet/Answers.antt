use Rattle.trio_shared.proofs.Words.{ap, seated}
use Rattle.trio_shared.proofs.Grown.{desk_stays}
use Rattle.trio_shared.proofs.Seats.{numbered}
use Rattle.trio_shared.proofs.cell.Shared.meet.Goals as goal

pub returns-clause-desk : goal.returns-clause-desk
returns-clause-desk c =
    let m = c.meet.ensures in
    λ s left. desk_stays (seated c.args.a.now) (seated c.meet.new.a) (ap numbered m.same.1) m.same.2 m.saw.0 m.own.0 s left
