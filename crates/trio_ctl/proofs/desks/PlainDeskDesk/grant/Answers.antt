use Rattle.trio_ctl.proofs.DeskCauses.{grant_cause}
use Rattle.trio_ctl.proofs.DeskSteps.{grant_fresh, grant_holder, grant_kind, grant_seen}
use Rattle.trio_ctl.proofs.desks.PlainDeskDesk.grant.Goals as goal

pub returns-clause-seen : goal.returns-clause-seen
returns-clause-seen c =
    let d = c.args.self.now in
    let e = c.grant.ensures in
    grant_seen d.ctl.now.state d.lib c.args.ino c.args.kind c.grant.new.self.state c.grant.result e.step e.lease

pub returns-clause-lease : goal.returns-clause-lease
returns-clause-lease c =
    let d = c.args.self.now in
    let e = c.grant.ensures in
    grant_fresh d.ctl.now.state d.lib c.args.ino c.args.kind c.grant.new.self.state c.grant.result e.was_kept e.step e.lease

pub returns-clause-holder : goal.returns-clause-holder
returns-clause-holder c =
    let d = c.args.self.now in
    grant_holder d.ctl.now.state d.lib c.args.ino c.args.kind c.grant.new.self.state c.grant.result c.grant.ensures.step

pub returns-clause-cause : goal.returns-clause-cause
returns-clause-cause c =
    let d = c.args.self.now in
    let e = c.grant.ensures in
    grant_cause d.ctl.now.state e.was_kept d.lib c.args.ino c.args.kind c.is_as_lent.ensures c.grant.result c.grant.new.self.state e.step e.lease

pub returns-clause-kind : goal.returns-clause-kind
returns-clause-kind c =
    let d = c.args.self.now in
    grant_kind d.ctl.now.state d.lib c.args.ino c.args.kind c.grant.new.self.state c.grant.result c.grant.ensures.lease
