use Rattle.trio_ctl.proofs.Words.{HasGrant, IsIdle, Read, Step, refl, subst, sym}
use Rattle.trio_state.specs.Step as step
use Rattle.trio_ctl.proofs.DeskGiven.{read_by}
use Rattle.trio_ctl.proofs.DeskLogs.{back_logs}
use Rattle.trio_ctl.proofs.DeskSteps.{back_seen}
use Rattle.trio_ctl.proofs.desks.PlainDeskDesk.give_back.Goals as goal

pub give_back-requires : goal.give_back-requires
give_back-requires c =
    let d = c.args.self.now in
    let by = read_by d.ctl.now.state d.lib c.args.lease c.requires in
    record { idle = subst (λ n. IsIdle d.ctl.now n) (sym by.1) d.is_idle; given = subst (λ n. HasGrant d.ctl.now.state n c.args.lease.ino Read) (sym by.1) by.0 }

pub returns-clause-called : goal.returns-clause-called
returns-clause-called c =
    let d = c.args.self.now in
    let by = read_by d.ctl.now.state d.lib c.args.lease c.requires in (
      record {
        given = by.0;
        is_step = subst (λ n. Step d.ctl.now.state (step.Back n c.args.lease.ino) step.Done c.give_back.new.self.state) by.1 c.give_back.ensures.step;
        lease = tt;
        back = tt;
      },
      refl,
      refl,
      back_logs d.ctl.now d.lib c.args.lease c.give_back.new.self by.1 c.give_back.ensures.logs,
    )

pub returns-clause-seen : goal.returns-clause-seen
returns-clause-seen c =
    let d = c.args.self.now in
    let by = read_by d.ctl.now.state d.lib c.args.lease c.requires in
    back_seen d.ctl.now.state d.lib c.args.lease c.give_back.new.self.state
    (subst (λ n. Step d.ctl.now.state (step.Back n c.args.lease.ino) step.Done c.give_back.new.self.state) by.1 c.give_back.ensures.step)
