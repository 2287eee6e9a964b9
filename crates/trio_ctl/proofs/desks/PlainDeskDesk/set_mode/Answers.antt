use Rattle.trio_ctl.proofs.Words.{SetMode, mode_told}
use Rattle.trio_ctl.proofs.DeskCauses.{moded_cause}
use Rattle.trio_ctl.proofs.DeskSteps.{libraries_stay, mode_holder, mode_seen}
use Rattle.trio_ctl.proofs.Underways.{idle_still}
use Rattle.trio_ctl.proofs.desks.PlainDeskDesk.set_mode.Goals as goal

pub returns-clause-seen : goal.returns-clause-seen
returns-clause-seen c =
    let d = c.args.self.now in
    mode_seen d.ctl.now.state d.lib c.args.ino c.args.mode c.args.back.items c.args.call c.set_mode.new.self.state c.set_mode.result (λ came. came.2) c.set_mode.ensures.happens

pub returns-clause-holder : goal.returns-clause-holder
returns-clause-holder c =
    let d = c.args.self.now in
    mode_holder d.ctl.now.state d.lib c.args.ino c.args.mode c.args.back.items c.args.call c.set_mode.new.self.state c.set_mode.result (λ came. came.2) c.set_mode.ensures.happens

pub returns-clause-cause : goal.returns-clause-cause
returns-clause-cause c =
    let d = c.args.self.now in
    let e = c.set_mode.ensures in
    moded_cause d.ctl.now.state e.was_kept c.is_as_lent.ensures d.lib c.args.ino c.args.mode c.args.back.items c.args.call c.set_mode.result (λ came. came.2) c.set_mode.new.self.state e.happens

pub invariant_of-self : goal.invariant_of-self
invariant_of-self c =
    let d = c.args.self.now in
    record { is_library = libraries_stay d.ctl.now.state d.lib d.lib (SetMode c.args.ino c.args.mode c.args.back.items c.args.call) (mode_told c.set_mode.result (λ came. came.2)) c.set_mode.new.self.state c.set_mode.ensures.happens d.is_library; is_idle = idle_still d.ctl.now c.set_mode.new.self d.lib.0 c.set_mode.ensures.logs.begun d.is_idle }
