use Rattle.trio_ctl.proofs.Words.{Step, bundle_of, parcel_of, refl, subst}
use Rattle.trio_state.specs.Step as step
use Rattle.trio_ctl.proofs.DeskClosed.{closed_told}
use Rattle.trio_ctl.proofs.DeskGiven.{given_to, were_held, were_lent}
use Rattle.trio_ctl.proofs.DeskLogs.{release_logs}
use Rattle.trio_ctl.proofs.DeskSteps.{release_same, release_seen}
use Rattle.trio_ctl.proofs.desks.PlainDeskDesk.release.Goals as goal

pub release-requires-clause-given : goal.release-requires-clause-given
release-requires-clause-given c = given_to c.args.self.now.ctl.now.state c.args.self.now.lib (parcel_of c.args.bundle) c.requires

pub release-requires-clause-held : goal.release-requires-clause-held
release-requires-clause-held c = were_held c.args.self.now.ctl.now.state c.args.self.now.lib (parcel_of c.args.bundle) c.requires

pub release-requires-clause-lent : goal.release-requires-clause-lent
release-requires-clause-lent c = were_lent c.args.self.now.ctl.now.state c.args.self.now.lib (parcel_of c.args.bundle) c.requires

pub returns-clause-called : goal.returns-clause-called
returns-clause-called c =
    let d = c.args.self.now in (
      record {
        given = given_to d.ctl.now.state d.lib (parcel_of c.args.bundle) c.requires;
        is_step = subst (λ a. Step d.ctl.now.state (step.Release d.lib.0 (bundle_of (parcel_of c.args.bundle))) a c.release.new.self.state) (release_same c.release.result (λ back. back.1)) c.release.ensures.step;
        lease = tt;
        back = tt;
      },
      refl,
      refl,
      release_logs d.ctl.now d.lib c.args.bundle c.release.result (λ back. back.1) c.release.new.self c.release.ensures.logs,
    )

pub returns-clause-seen : goal.returns-clause-seen
returns-clause-seen c =
    let d = c.args.self.now in
    release_seen d.ctl.now.state d.lib (parcel_of c.args.bundle) c.release.new.self.state c.release.result (λ back. back.1) c.release.ensures.was_kept c.is_recorded.ensures.whole (given_to d.ctl.now.state d.lib (parcel_of c.args.bundle) c.requires) c.release.ensures.step

pub returns-clause-closed : goal.returns-clause-closed
returns-clause-closed c =
    let d = c.args.self.now in
    closed_told d.ctl.now.state c.is_as_told.ensures d.lib (parcel_of c.args.bundle) c.release.new.self.state c.release.result (λ back. back.1) c.release.ensures.step
