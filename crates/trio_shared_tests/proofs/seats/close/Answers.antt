use Rattle.trio_shared_tests.proofs.Words.{Controller, HaveSeen, IfSome, Option, subst, sym}
use Rattle.trio_shared_tests.proofs.Desks.{each_is, every_is}
use Rattle.trio_shared_tests.proofs.Saw.{seen_at_close}
use Rattle.trio_shared_tests.proofs.seats.close.Goals as goal

pub close-requires-clause-seats : goal.close-requires-clause-seats
close-requires-clause-seats c = each_is _ _ c.requires

pub close-requires-clause-every : goal.close-requires-clause-every
close-requires-clause-every c = every_is _ _ c.requires

pub returns : goal.returns
returns c =
    subst (λ (o : Option Controller). IfSome o (λ ctl. HaveSeen c.args.seats.items ctl.log)) (sym c.ok.ensures.value)
    (seen_at_close c.close.result c.args.shared _ c.requires c.close.ensures.seen c.close.ensures.mine)
