use Rattle.trio_shared.proofs.Words.{CaseShown, Ends, IsNotAwaited, Looks, seated, subst, sym}
use Rattle.trio_shared.specs.Moves.{MayEnd}
use Rattle.trio_shared.proofs.Releases.{awaited}
use Rattle.trio_shared.proofs.cell.Shared.end_here.Goals as goal

pub finish-requires-clause-marked : goal.finish-requires-clause-marked
finish-requires-clause-marked g c mine = subst (MayEnd (seated c.args.seat.now)) (sym c.weigh-judged.ensures.case) c.requires.marked

pub unreachable-requires : goal.unreachable-requires
unreachable-requires g c =
    let seat = seated c.args.seat.now in
    awaited seat c.args.pending c.requires.begun (seated c.finish.new.seat)
    (subst (λ (k : CaseShown). Looks seat (IsNotAwaited seat k) (seated c.finish.new.seat)) c.weigh-judged.ensures.case c.in-Err.ensures.looked)

pub returns-clause-ends : goal.returns-clause-ends
returns-clause-ends g c =
    subst (λ (k : CaseShown). Ends (seated c.args.seat.now) k c.in-Ok.answer (seated c.finish.new.seat)) c.weigh-judged.ensures.case c.in-Ok.ensures.ends
