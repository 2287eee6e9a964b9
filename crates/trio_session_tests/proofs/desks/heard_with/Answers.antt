use Rattle.trio_session_tests.proofs.Words.{rules}
use Rattle.trio_session_tests.proofs.Begins.{may_begin}
use Rattle.trio_session_tests.proofs.desks.heard_with.Goals as goal

pub hears-requires : goal.hears-requires
hears-requires c = may_begin _ _ c.in_ok-ctl.ensures.two c.in_ok-ctl.ensures.none (search rules) (search rules)
