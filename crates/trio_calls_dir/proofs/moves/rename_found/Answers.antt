use Rattle.trio_calls_dir.proofs.Words.{◌≡◌, InAllShown, Some, find_named, number_made, raised, subst, try_ends}
use Rattle.trio_calls_dir.proofs.MovesFound.{exists_goes, found_none, looked_across, looked_busy, looked_found, looked_goes}
use Rattle.trio_calls_dir.proofs.MovesRetitle.{same_goes}
use Rattle.trio_calls_dir.proofs.moves.rename_found.Goals as goal
use Rattle.trio_calls_dir.proofs.Walkable.{may_walk}

pub move_across-requires-clause-across : goal.move_across-requires-clause-across
move_across-requires-clause-across g c = looked_across (g.D.Desk.seen c.args.desk.now) c.args.session.now c.look_up.new.session (raised c.args.session.now.finds) c.look_up.ensures.kept c.args.call.now c.args.from.now c.args.to.now c.args.dir c.args.new_dir c.requires.across

pub move_across-requires-clause-found : goal.move_across-requires-clause-found
move_across-requires-clause-found g c = looked_found (g.D.Desk.seen c.args.desk.now) c.args.session.now c.look_up.new.session (raised c.args.session.now.finds) c.look_up.ensures.kept c.args.from.now c.args.dir c.args.file c.requires.found

pub move_across-requires-clause-free : goal.move_across-requires-clause-free
move_across-requires-clause-free g c =
    found_none (g.D.Desk.seen c.args.desk.now) c.args.session.now c.look_up.new.session (raised c.args.session.now.finds) c.look_up.ensures.kept c.args.to.now c.args.new_dir c.name_of.result.now c.name_of.ensures.last c.name_of.ensures.name c.in-None.ensures.finds (c.in-None.ensures.looked (g.D.Desk.seen c.args.desk.now) (may_walk (g.D.Desk.seen c.args.desk.now) c.args.session.now c.requires.across.may) c.requires.across.look_new)

pub returns-in-Some-clause-goes : goal.returns-in-Some-clause-goes
returns-in-Some-clause-goes g c =
    looked_goes g.D.Desk.called g.D.Desk.seen c.args.desk.now c.args.session.now c.look_up.new.session (raised c.args.session.now.finds) c.look_up.ensures.kept c.args.call.now _ (try_ends c.noted_reply.result) (number_made c.noted_reply.result) c.args.desk.now c.noted_reply.new.session
    (exists_goes g.D.Desk.called g.D.Desk.seen c.args.desk.now c.look_up.new.session c.args.call.now c.args.from.now c.args.to.now c.args.dir c.args.new_dir (looked_across (g.D.Desk.seen c.args.desk.now) c.args.session.now c.look_up.new.session (raised c.args.session.now.finds) c.look_up.ensures.kept c.args.call.now c.args.from.now c.args.to.now c.args.dir c.args.new_dir c.requires.across) c.noted_reply.new.session c.noted_reply.ensures.kept c.noted_reply.result c.args.file.ino c.in-Some.field-0.ino
    (looked_found (g.D.Desk.seen c.args.desk.now) c.args.session.now c.look_up.new.session (raised c.args.session.now.finds) c.look_up.ensures.kept c.args.from.now c.args.dir c.args.file c.requires.found).named
    (subst (λ n. InAllShown (g.D.Desk.seen c.args.desk.now) c.look_up.new.session (λ now. find_named now c.args.new_dir n ≡ Some c.in-Some.field-0.ino)) c.name_of.ensures.last (c.in-Some.ensures.looked (g.D.Desk.seen c.args.desk.now) (may_walk (g.D.Desk.seen c.args.desk.now) c.args.session.now c.requires.across.may) c.requires.across.look_new).1)
    c.noted_reply.ensures.ends)

pub returns-in-None-clause-goes : goal.returns-in-None-clause-goes
returns-in-None-clause-goes g c =
    looked_goes g.D.Desk.called g.D.Desk.seen c.args.desk.now c.args.session.now c.look_up.new.session (raised c.args.session.now.finds) c.look_up.ensures.kept c.args.call.now _ (try_ends c.retitle.result) (number_made c.retitle.result) c.args.desk.now c.retitle.new.session
    (same_goes g.D.Desk.called g.D.Desk.seen c.args.desk.now c.look_up.new.session c.args.call.now c.args.from.now c.args.to.now c.args.dir c.args.new_dir c.args.file c.if-dir-new_dir.true c.requires.rename (looked_across (g.D.Desk.seen c.args.desk.now) c.args.session.now c.look_up.new.session (raised c.args.session.now.finds) c.look_up.ensures.kept c.args.call.now c.args.from.now c.args.to.now c.args.dir c.args.new_dir c.requires.across)
    (looked_found (g.D.Desk.seen c.args.desk.now) c.args.session.now c.look_up.new.session (raised c.args.session.now.finds) c.look_up.ensures.kept c.args.from.now c.args.dir c.args.file c.requires.found)
    (found_none (g.D.Desk.seen c.args.desk.now) c.args.session.now c.look_up.new.session (raised c.args.session.now.finds) c.look_up.ensures.kept c.args.to.now c.args.new_dir c.name_of.result.now c.name_of.ensures.last c.name_of.ensures.name c.in-None.ensures.finds (c.in-None.ensures.looked (g.D.Desk.seen c.args.desk.now) (may_walk (g.D.Desk.seen c.args.desk.now) c.args.session.now c.requires.across.may) c.requires.across.look_new))
    c.retitle.new.session c.retitle.result c.retitle.ensures.ends)

pub returns-in-None-2-clause-goes : goal.returns-in-None-2-clause-goes
returns-in-None-2-clause-goes g c =
    looked_goes g.D.Desk.called g.D.Desk.seen c.args.desk.now c.args.session.now c.look_up.new.session (raised c.args.session.now.finds) c.look_up.ensures.kept c.args.call.now _ (try_ends c.move_across.result) (number_made c.move_across.result) c.move_across.new.desk c.move_across.new.session c.move_across.ensures.goes

pub returns-in-None-2-clause-busy : goal.returns-in-None-2-clause-busy
returns-in-None-2-clause-busy g c = looked_busy (g.D.Desk.seen c.args.desk.now) c.args.session.now c.look_up.new.session (raised c.args.session.now.finds) c.look_up.ensures.kept _ (try_ends c.move_across.result) c.move_across.ensures.busy
