use Rattle.trio_session.proofs.Words.{AfterSettle, Err, NotMade, Ok, OneCall, SeenAfter, Settle}
use Rattle.trio_desk.specs.Calls.{Made}
use Rattle.trio_session.proofs.Desks.{told-settle_end}
use Rattle.trio_session.proofs.session.Session.end.Goals as goal

pub returns-in-Ok-clause-call : goal.returns-in-Ok-clause-call
returns-in-Ok-clause-call g c =
    let s = c.args.self in
    let s' = c.settle.new.self in
    let ask = Settle s.parcel s.reads s.calls in
    let call : OneCall g.D.Desk.called c.args.desk.now ask c.settle.new.desk (λ told. SeenAfter (g.D.Desk.seen c.args.desk.now) ask told (g.D.Desk.seen c.settle.new.desk) × AfterSettle s (Ok c.in-Ok.count) s' told) ⊥ = c.in-Ok.ensures.call in
    elim call [
      | Made told called after ↦ Made told called (after.0, told-settle_end s s' (Ok c.in-Ok.count) told after.1)
      | NotMade same none ↦ absurd none
    ]

pub returns-in-Err-clause-call : goal.returns-in-Err-clause-call
returns-in-Err-clause-call g c =
    let s = c.args.self in
    let s' = c.settle.new.self in
    let ask = Settle s.parcel s.reads s.calls in
    let call : OneCall g.D.Desk.called c.args.desk.now ask c.settle.new.desk (λ told. SeenAfter (g.D.Desk.seen c.args.desk.now) ask told (g.D.Desk.seen c.settle.new.desk) × AfterSettle s (Err c.in-Err.fault) s' told) ⊥ = c.in-Err.ensures.call in
    elim call [
      | Made told called after ↦ Made told called (after.0, told-settle_end s s' (Err c.in-Err.fault) told after.1)
      | NotMade same none ↦ absurd none
    ]
