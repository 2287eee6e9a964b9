use Rattle.trio_shared.proofs.Words.{◌∙◌, refl, seated}
use Rattle.trio_shared.proofs.Releases.{ends_waited, waits_none, waits_on}
use Rattle.trio_shared.proofs.pool_desk.await_end.Goals as goal

pub loop-init : goal.loop-init
loop-init g c = (c.requires.seat, (refl, refl, refl), c.requires.mail, waits_none (seated c.args.seat.now), c.requires.marks)

pub returns-in-Ok-clause-ends : goal.returns-in-Ok-clause-ends
returns-in-Ok-clause-ends g c =
    let e = c.in-Ok.ensures.ends in
    (e.0, e.1, ends_waited (seated c.args.seat.now) (seated c.loop.seat) c.loop.invariant.3 e.0 c.in-Ok.answer (seated c.end_with.new.seat) e.2)

pub loop-preserved-in-Err : goal.loop-preserved-in-Err
loop-preserved-in-Err g c =
    let i = c.loop.invariant in
    let s = c.end_with.ensures.seat in (
      s.0,
      (s.1.0 ∙ i.1.0, s.1.1 ∙ i.1.1, s.1.2 ∙ i.1.2),
      c.fetch.ensures.mail,
      waits_on (seated c.args.seat.now) (seated c.loop.seat) (seated c.end_with.new.seat) i.3 c.in-Err.ensures.waits,
      c.in-Err.ensures.marks,
    )
