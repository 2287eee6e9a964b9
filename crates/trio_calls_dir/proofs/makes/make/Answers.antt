use Rattle.trio_calls_dir.proofs.Words.{◌≡◌, At, InAllShown, None, Some, alike_finds, find_named, number_made, raised, refl, subst, try_ends}
use Rattle.trio_calls_dir.proofs.Ends.{lacks}
use Rattle.trio_calls_dir.proofs.Others.{stop_others}
use Rattle.trio_calls_dir.proofs.Entered.{had_as, open_alike, walked_as}
use Rattle.trio_calls_dir.proofs.MakesWalk.{make_comes, make_goes, make_may, make_stops, make_there}
use Rattle.trio_calls_dir.proofs.makes.make.Goals as goal
use Rattle.trio_calls_dir.proofs.Walkable.{may_walk}

pub returns-in_default-clause-goes : goal.returns-in_default-clause-goes
returns-in_default-clause-goes g c = lacks g.D.Desk.called g.D.Desk.seen c.args.desk.now c.args.session.now c.args.session.now c.args.call.now _ c.requires.may refl

pub reach_into-requires : goal.reach_into-requires
reach_into-requires g c = may_walk (g.D.Desk.seen c.args.desk.now) c.args.session.now c.requires.may

pub make_in-requires-clause-may : goal.make_in-requires-clause-may
make_in-requires-clause-may g c =
    let dir_is = c.in-Ok.ensures in
    let w = walked_as g.D.Desk.called g.D.Desk.seen c.args.desk.now c.args.session.now c.reach_into.new.desk c.reach_into.new.session _ _ _ dir_is dir_is (At c.in-Ok-reach_into.met.ino) c.in-Ok-reach_into.ensures.walked in
    make_may g.D.Desk.called g.D.Desk.seen c.args.desk.now c.args.session.now c.args.call.now c.requires.makes.what c.args.path.now c.requires.makes.is c.requires.root c.requires.may c.reach_into.new.desk c.reach_into.new.session c.in-Ok-reach_into.met.ino w c.reach_into.ensures.may c.look_up.new.session (alike_finds c.reach_into.new.session c.look_up.new.session (raised c.reach_into.new.session.finds) c.look_up.ensures.kept)

pub make_in-requires-clause-open : goal.make_in-requires-clause-open
make_in-requires-clause-open g c =
    let dir_is = c.in-Ok.ensures in
    open_alike c.reach_into.new.session c.look_up.new.session c.in-Ok-reach_into.met.ino (raised c.reach_into.new.session.finds) c.look_up.ensures.kept
    (had_as c.reach_into.new.session _ _ _ dir_is dir_is c.in-Ok-reach_into.met.ino c.in-Ok-reach_into.ensures.had)

pub make_in-requires-clause-comes : goal.make_in-requires-clause-comes
make_in-requires-clause-comes g c =
    let dir_is = c.in-Ok.ensures in
    let w = walked_as g.D.Desk.called g.D.Desk.seen c.args.desk.now c.args.session.now c.reach_into.new.desk c.reach_into.new.session _ _ _ dir_is dir_is (At c.in-Ok-reach_into.met.ino) c.in-Ok-reach_into.ensures.walked in
    make_comes g.D.Desk.called g.D.Desk.seen c.args.desk.now c.args.session.now c.args.call.now c.requires.makes.what c.args.path.now c.requires.makes.is c.requires.root c.requires.may c.reach_into.new.desk c.reach_into.new.session c.in-Ok-reach_into.met.ino w c.reach_into.ensures.may c.look_up.new.session (alike_finds c.reach_into.new.session c.look_up.new.session (raised c.reach_into.new.session.finds) c.look_up.ensures.kept)

pub make_in-requires-clause-free : goal.make_in-requires-clause-free
make_in-requires-clause-free g c =
    subst (λ n. InAllShown (g.D.Desk.seen c.reach_into.new.desk) c.look_up.new.session (λ now. find_named now c.in-Ok-reach_into.met.ino n ≡ None)) c.name_of.ensures.last (c.in-None.ensures.looked (g.D.Desk.seen c.reach_into.new.desk) c.reach_into.ensures.may c.in-Ok-reach_into.ensures.list)

pub returns-in-None-clause-goes : goal.returns-in-None-clause-goes
returns-in-None-clause-goes g c =
    let dir_is = c.in-Ok.ensures in
    let w = walked_as g.D.Desk.called g.D.Desk.seen c.args.desk.now c.args.session.now c.reach_into.new.desk c.reach_into.new.session _ _ _ dir_is dir_is (At c.in-Ok-reach_into.met.ino) c.in-Ok-reach_into.ensures.walked in
    make_goes g.D.Desk.called g.D.Desk.seen c.args.desk.now c.args.session.now c.args.call.now c.requires.makes.what c.args.path.now c.requires.makes.is c.requires.root c.requires.may c.reach_into.new.desk c.reach_into.new.session c.in-Ok-reach_into.met.ino w c.reach_into.ensures.may c.look_up.new.session (alike_finds c.reach_into.new.session c.look_up.new.session (raised c.reach_into.new.session.finds) c.look_up.ensures.kept)
    (try_ends c.make_in.result) (number_made c.make_in.result) c.make_in.new.desk c.make_in.new.session c.make_in.ensures.goes

pub returns-in-Ok-reach_into-clause-goes : goal.returns-in-Ok-reach_into-clause-goes
returns-in-Ok-reach_into-clause-goes g c =
    let dir_is = c.in-Ok.ensures in
    let w = walked_as g.D.Desk.called g.D.Desk.seen c.args.desk.now c.args.session.now c.reach_into.new.desk c.reach_into.new.session _ _ _ dir_is dir_is (At c.in-Ok-reach_into.met.ino) c.in-Ok-reach_into.ensures.walked in
    make_there g.D.Desk.called g.D.Desk.seen c.args.desk.now c.args.session.now c.args.call.now c.requires.makes.what c.args.path.now c.requires.makes.is c.requires.root c.requires.may c.reach_into.new.desk c.reach_into.new.session c.in-Ok-reach_into.met.ino w c.reach_into.ensures.may c.look_up.new.session (alike_finds c.reach_into.new.session c.look_up.new.session (raised c.reach_into.new.session.finds) c.look_up.ensures.kept)
    c.noted_reply.new.session c.noted_reply.ensures.kept c.noted_reply.result c.in-Some.field-0.ino
    (subst (λ n. InAllShown (g.D.Desk.seen c.reach_into.new.desk) c.look_up.new.session (λ now. find_named now c.in-Ok-reach_into.met.ino n ≡ Some c.in-Some.field-0.ino)) c.name_of.ensures.last (c.in-Some.ensures.looked (g.D.Desk.seen c.reach_into.new.desk) c.reach_into.ensures.may c.in-Ok-reach_into.ensures.list).1)
    c.noted_reply.ensures.ends

pub returns-clause-goes : goal.returns-clause-goes
returns-clause-goes g c =
    let dir_is = c.in-Ok.ensures in
    let w = walked_as g.D.Desk.called g.D.Desk.seen c.args.desk.now c.args.session.now c.reach_into.new.desk c.reach_into.new.session _ _ _ dir_is dir_is c.in-Err.end c.in-Err.ensures.walked in
    make_stops g.D.Desk.called g.D.Desk.seen c.args.desk.now c.args.session.now c.args.call.now c.requires.makes.what c.args.path.now c.requires.makes.is c.requires.root c.requires.may c.reach_into.new.desk c.reach_into.new.session c.in-Err.end w c.reach_into.ensures.may c.stopped.new.session c.stopped.ensures.kept c.in-Err.ensures.stopped c.stopped.result c.stopped.ensures.stops

pub returns-clause-others : goal.returns-clause-others
returns-clause-others g c none =
    stop_others g.D.Desk.called g.D.Desk.seen c.args.desk.now c.args.session.now _ c.in-Err.end c.reach_into.new.desk c.reach_into.new.session c.in-Err.ensures.walked c.in-Err.ensures.stopped c.stopped.result c.stopped.new.session c.stopped.ensures.stops none
