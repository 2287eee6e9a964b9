use Rattle.trio_walk.proofs.Words.{Gives, Leaves, refl}
use Rattle.trio_walk.proofs.Retrying.{settled, unsettled}
use Rattle.trio_walk.proofs.attempts.attempt_and_settle.Goals as goal

pub returns-in-Ok-clause-once : goal.returns-in-Ok-clause-once
returns-in-Ok-clause-once g c =
    let t = settled g.D.Desk.called g.D.Desk.seen c.attempt.new.desk c.settle.new.desk c.attempt.new.session c.settle.new.self c.settle.result c.settle.ensures.call c.settle.ensures.on c.in-Ok.field-0 c.in-Ok.is in
    Gives c.in-Busy.holder c.attempt.new.desk c.attempt.new.session refl c.in-Busy.ensures.tried t.0

pub returns-in-Err-clause-once : goal.returns-in-Err-clause-once
returns-in-Err-clause-once g c =
    let t = unsettled g.D.Desk.called g.D.Desk.seen c.attempt.new.desk c.settle.new.desk c.attempt.new.session c.settle.new.self c.settle.result c.settle.ensures.call c.settle.ensures.on c.in-Err.field-0 c.in-Err.is in
    Leaves c.in-Busy.holder c.attempt.new.desk c.attempt.new.session refl c.in-Busy.ensures.tried t.0
