use Rattle.trio_session_tests.proofs.Words.{NothingIsOut, subst, sym}
use Rattle.std.proofs.Common.{IfSome}
use Rattle.trio_session_tests.proofs.Begins.{none_started}
use Rattle.trio_session_tests.proofs.desks.started.Goals as goal

pub returns-clause-none : goal.returns-clause-none
returns-clause-none c =
    subst (λ o. IfSome o NothingIsOut) (sym c.ok-2.ensures.value)
    (none_started c.start.result _ _ c.start.ensures.started c.start.ensures.idle)
