use Rattle.trio_ctl.proofs.Words.{parcel_of, settle_told}
use Rattle.trio_desk.specs.Call.{Settle}
use Rattle.trio_ctl.proofs.DeskSteps.{libraries_stay}
use Rattle.trio_ctl.proofs.Settling.{settle_seen}
use Rattle.trio_ctl.proofs.Underways.{idle_still}
use Rattle.trio_ctl.proofs.desks.PlainDeskDesk.settle.Goals as goal

pub returns-clause-seen : goal.returns-clause-seen
returns-clause-seen c =
    let d = c.args.self.now in
    settle_seen d.ctl.now.state c.settle.new.self.state d.lib (parcel_of c.args.bundle) c.args.back.items c.args.calls.items c.settle.result c.settle.ensures.was_kept c.is_recorded.ensures.whole c.requires c.settle.ensures.happens

pub invariant_of-self : goal.invariant_of-self
invariant_of-self c =
    let d = c.args.self.now in
    record { is_library = libraries_stay d.ctl.now.state d.lib d.lib (Settle (parcel_of c.args.bundle) c.args.back.items c.args.calls.items) (settle_told c.settle.result) c.settle.new.self.state c.settle.ensures.happens d.is_library; is_idle = idle_still d.ctl.now c.settle.new.self d.lib.0 c.settle.ensures.logs.begun d.is_idle }
