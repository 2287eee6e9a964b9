use Rattle.trio_ctl.proofs.DeskSteps.{allot_fresh, allot_lack, allot_seen, allot_wanted}
use Rattle.trio_ctl.proofs.desks.PlainDeskDesk.allot.Goals as goal

pub returns-clause-seen : goal.returns-clause-seen
returns-clause-seen c =
    let d = c.args.self.now in
    let e = c.allot.ensures in
    allot_seen d.ctl.now.state d.lib c.args.pages c.args.inodes c.allot.new.self.state c.allot.result e.was_kept e.step

pub returns-clause-fresh : goal.returns-clause-fresh
returns-clause-fresh c =
    let d = c.args.self.now in
    let e = c.allot.ensures in
    allot_fresh d.ctl.now.state d.lib c.args.pages c.args.inodes c.allot.new.self.state c.allot.result e.was_kept e.step e.pages e.inodes

pub returns-clause-wanted : goal.returns-clause-wanted
returns-clause-wanted c =
    let d = c.args.self.now in
    let e = c.allot.ensures in
    allot_wanted d.ctl.now.state d.lib c.args.pages c.args.inodes c.allot.new.self.state c.allot.result e.step

pub returns-clause-lack : goal.returns-clause-lack
returns-clause-lack c =
    let d = c.args.self.now in
    allot_lack d.ctl.now.state d.lib c.args.pages c.args.inodes c.allot.new.self.state c.allot.result c.allot.ensures.step
