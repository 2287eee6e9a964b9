use Rattle.trio_calls_dir.proofs.Words.{◌≡◌, InAllShown, None, find_named, number_made, raised, subst, try_ends}
use Rattle.trio_calls_dir.proofs.MovesFound.{absent_goes, found_one, looked_across, looked_busy, looked_goes}
use Rattle.trio_calls_dir.proofs.moves.rename_across.Goals as goal
use Rattle.trio_calls_dir.proofs.Walkable.{may_walk}

pub rename_found-requires-clause-across : goal.rename_found-requires-clause-across
rename_found-requires-clause-across g c = looked_across (g.D.Desk.seen c.args.desk.now) c.args.session.now c.look_up.new.session (raised c.args.session.now.finds) c.look_up.ensures.kept c.args.call.now c.args.from.now c.args.to.now c.args.dir c.args.new_dir c.requires.across

pub rename_found-requires-clause-found : goal.rename_found-requires-clause-found
rename_found-requires-clause-found g c =
    found_one (g.D.Desk.seen c.args.desk.now) c.args.session.now c.look_up.new.session (raised c.args.session.now.finds) c.look_up.ensures.kept c.args.from.now c.args.dir c.name_of.result.now c.in-Some.file c.name_of.ensures.last c.in-Some.ensures.finds (c.in-Some.ensures.looked (g.D.Desk.seen c.args.desk.now) (may_walk (g.D.Desk.seen c.args.desk.now) c.args.session.now c.requires.across.may) c.requires.across.look)

pub returns-in-None-clause-goes : goal.returns-in-None-clause-goes
returns-in-None-clause-goes g c =
    looked_goes g.D.Desk.called g.D.Desk.seen c.args.desk.now c.args.session.now c.look_up.new.session (raised c.args.session.now.finds) c.look_up.ensures.kept c.args.call.now _ (try_ends c.noted_reply.result) (number_made c.noted_reply.result) c.args.desk.now c.noted_reply.new.session
    (absent_goes g.D.Desk.called g.D.Desk.seen c.args.desk.now c.look_up.new.session c.args.call.now c.args.from.now c.args.to.now c.args.dir c.args.new_dir (looked_across (g.D.Desk.seen c.args.desk.now) c.args.session.now c.look_up.new.session (raised c.args.session.now.finds) c.look_up.ensures.kept c.args.call.now c.args.from.now c.args.to.now c.args.dir c.args.new_dir c.requires.across) c.noted_reply.new.session c.noted_reply.ensures.kept c.noted_reply.result
    (subst (λ n. InAllShown (g.D.Desk.seen c.args.desk.now) c.look_up.new.session (λ now. find_named now c.args.dir n ≡ None)) c.name_of.ensures.last (c.in-None.ensures.looked (g.D.Desk.seen c.args.desk.now) (may_walk (g.D.Desk.seen c.args.desk.now) c.args.session.now c.requires.across.may) c.requires.across.look))
    c.noted_reply.ensures.ends)

pub returns-in-Some-clause-goes : goal.returns-in-Some-clause-goes
returns-in-Some-clause-goes g c =
    looked_goes g.D.Desk.called g.D.Desk.seen c.args.desk.now c.args.session.now c.look_up.new.session (raised c.args.session.now.finds) c.look_up.ensures.kept c.args.call.now _ (try_ends c.rename_found.result) (number_made c.rename_found.result) c.rename_found.new.desk c.rename_found.new.session c.rename_found.ensures.goes

pub returns-in-Some-clause-busy : goal.returns-in-Some-clause-busy
returns-in-Some-clause-busy g c = looked_busy (g.D.Desk.seen c.args.desk.now) c.args.session.now c.look_up.new.session (raised c.args.session.now.finds) c.look_up.ensures.kept _ (try_ends c.rename_found.result) c.rename_found.ensures.busy
