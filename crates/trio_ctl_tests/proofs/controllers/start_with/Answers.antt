use Rattle.std.proofs.Common.{subst, sym}
use Rattle.std.specs.Prelude.{IfSome}
use Rattle.trio_desk.specs.Out.{OutAlike, nothing_out}
use Rattle.trio_ctl.specs.Desk.{out_of}
use Rattle.trio_runner.proofs.EndFree.{nothing_started}
use Rattle.trio_ctl_tests.proofs.controllers.start_with.Goals as goal

pub returns-clause-nothing : goal.returns-clause-nothing
returns-clause-nothing c =
    subst (λ o. IfSome o (λ ctl. OutAlike (out_of ctl.state (record { 0 = 1 })) nothing_out)) (sym c.ok.ensures.value)
    (nothing_started c.start.result _ _ (record { 0 = 1 }) c.start.ensures.started)
