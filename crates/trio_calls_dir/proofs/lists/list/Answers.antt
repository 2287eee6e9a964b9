use Rattle.trio_calls_dir.proofs.Words.{Call, Goes, dir_needs, number_made, shows_root, subst, sym, try_ends}
use Rattle.trio_calls_dir.proofs.Others.{stop_others}
use Rattle.trio_calls_dir.proofs.ListsWalked.{comes_here, list_goes, list_others, list_stops}
use Rattle.trio_calls_dir.proofs.Walkable.{way_may}
use Rattle.trio_calls_dir.proofs.lists.list.Goals as goal
use Rattle.trio_calls_dir.proofs.Walkable.{may_walk}

pub reach-requires : goal.reach-requires
reach-requires g c = may_walk (g.D.Desk.seen c.args.desk.now) c.args.session.now c.requires.may

pub list_met-requires-clause-may : goal.list_met-requires-clause-may
list_met-requires-clause-may g c =
    let w = c.in-Ok.ensures.walked in
    way_may g.D.Desk.called g.D.Desk.seen c.args.desk.now c.args.session.now w.more w.last c.reach.new.desk c.reach.new.session c.requires.may w.way c.reach.ensures.may

pub list_met-requires-clause-met : goal.list_met-requires-clause-met
list_met-requires-clause-met g c = (shows_root c.args.session.now, c.in-Ok.ensures.met)

pub returns-in-Ok-clause-goes : goal.returns-in-Ok-clause-goes
returns-in-Ok-clause-goes g c =
    let w = c.in-Ok.ensures.walked in
    let goes = c.list_met.ensures.goes c.args.path.now
    (comes_here g.D.Desk.called g.D.Desk.seen c.args.desk.now c.args.session.now c.args.path.now c.args.from c.requires.may c.reach.new.desk c.reach.new.session c.reach.ensures.may c.in-Ok.met w c.in-Ok.ensures.met) in
    subst (λ (k : Call). Goes g.D.Desk.called g.D.Desk.seen c.args.desk.now c.args.session.now k (λ now. dir_needs now (g.D.Desk.seen c.list_met.new.desk).creds (shows_root c.args.session.now) k) (try_ends c.list_met.result) (number_made c.list_met.result) c.list_met.new.desk c.list_met.new.session)
    (sym c.requires.call)
    (list_goes g.D.Desk.called g.D.Desk.seen c.args.desk.now c.args.session.now c.args.path.now c.args.from c.requires.may c.reach.new.desk c.reach.new.session c.reach.ensures.may c.in-Ok.met w c.in-Ok.ensures.met
    (try_ends c.list_met.result) (number_made c.list_met.result) c.list_met.new.desk c.list_met.new.session goes)

pub returns-in-Ok-clause-others : goal.returns-in-Ok-clause-others
returns-in-Ok-clause-others g c none =
    list_others g.D.Desk.called g.D.Desk.seen c.args.desk.now c.args.session.now c.args.path.now c.args.from c.requires.may c.reach.new.desk c.reach.new.session c.reach.ensures.may c.in-Ok.met c.in-Ok.ensures.walked c.in-Ok.ensures.met
    (try_ends c.list_met.result) c.list_met.ensures.busy none

pub returns-in-Err-clause-goes : goal.returns-in-Err-clause-goes
returns-in-Err-clause-goes g c =
    subst (λ (k : Call). Goes g.D.Desk.called g.D.Desk.seen c.args.desk.now c.args.session.now k (λ now. dir_needs now (g.D.Desk.seen c.reach.new.desk).creds (shows_root c.args.session.now) k) (try_ends c.stopped.result) (number_made c.stopped.result) c.reach.new.desk c.stopped.new.session)
    (sym c.requires.call)
    (list_stops g.D.Desk.called g.D.Desk.seen c.args.desk.now c.args.session.now c.args.path.now c.args.from c.requires.may c.reach.new.desk c.reach.new.session c.reach.ensures.may c.in-Err.end c.in-Err.ensures.walked
    c.stopped.new.session c.stopped.ensures.kept c.in-Err.ensures.stopped c.stopped.result c.stopped.ensures.stops)

pub returns-in-Err-clause-others : goal.returns-in-Err-clause-others
returns-in-Err-clause-others g c none =
    stop_others g.D.Desk.called g.D.Desk.seen c.args.desk.now c.args.session.now _ c.in-Err.end c.reach.new.desk c.reach.new.session c.in-Err.ensures.walked c.in-Err.ensures.stopped c.stopped.result c.stopped.new.session c.stopped.ensures.stops none
