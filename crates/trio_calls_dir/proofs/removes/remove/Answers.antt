use Rattle.trio_calls_dir.proofs.Words.{◌<◌, ◌∙◌, ◌≡◌, At, Bool, Goes, InAllShown, LacksMemory, MatchResult, None, SessionSeen, Some, alike_finds, ap, false, false≢true, find_named, is_directory, length, lib_same, name_of, named_needs, number_made, raised, refl, removing_needs, rules, subst, sym, true, try_ends}
use Rattle.trio_calls_dir.proofs.Ends.{lacks}
use Rattle.trio_calls_dir.proofs.Others.{stop_others}
use Rattle.trio_calls_dir.proofs.Entered.{had_as, open_alike, walked_as}
use Rattle.trio_calls_dir.proofs.RemovesBusy.{hold_others}
use Rattle.trio_calls_dir.proofs.RemovesWalk.{finds_alike, remove_absent, remove_comes, remove_goes, remove_may, remove_other, remove_stops}
use Rattle.std.proofs.Math.Bool.{beq}
use Rattle.trio_calls_dir.proofs.removes.remove.Goals as goal
use Rattle.trio_calls_dir.proofs.Walkable.{may_walk}

beq-same : (b : Bool) → beq b b ≡ true
beq-same true = refl
beq-same false = refl

pub returns-in_default-clause-goes : goal.returns-in_default-clause-goes
returns-in_default-clause-goes g c = lacks g.D.Desk.called g.D.Desk.seen c.args.desk.now c.args.session.now c.args.session.now c.args.call.now _ c.requires.may refl

pub reach_into-requires : goal.reach_into-requires
reach_into-requires g c = may_walk (g.D.Desk.seen c.args.desk.now) c.args.session.now c.requires.may

pub returns-in-None-clause-goes : goal.returns-in-None-clause-goes
returns-in-None-clause-goes g c =
    let dir_is = c.in-Ok.ensures in
    let w = walked_as g.D.Desk.called g.D.Desk.seen c.args.desk.now c.args.session.now c.reach_into.new.desk c.reach_into.new.session _ _ _ dir_is dir_is (At c.in-Ok-reach_into.met.ino) c.in-Ok-reach_into.ensures.walked in
    remove_absent g.D.Desk.called g.D.Desk.seen c.args.desk.now c.args.session.now c.args.call.now c.args.of_dirs c.args.path.now c.requires.call c.requires.root c.requires.may c.reach_into.new.desk c.reach_into.new.session c.in-Ok-reach_into.met.ino w c.reach_into.ensures.may c.look_up.new.session (alike_finds c.reach_into.new.session c.look_up.new.session (raised c.reach_into.new.session.finds) c.look_up.ensures.kept) c.noted_reply.new.session c.noted_reply.ensures.kept c.noted_reply.result
    (subst (λ n. InAllShown (g.D.Desk.seen c.reach_into.new.desk) c.look_up.new.session (λ now. find_named now c.in-Ok-reach_into.met.ino n ≡ None)) c.name_of.ensures.last (c.in-None.ensures.looked (g.D.Desk.seen c.reach_into.new.desk) c.reach_into.ensures.may c.in-Ok-reach_into.ensures.list))
    c.noted_reply.ensures.ends

pub remove_in-requires-clause-may : goal.remove_in-requires-clause-may
remove_in-requires-clause-may g c =
    let dir_is = c.in-Ok.ensures in
    let w = walked_as g.D.Desk.called g.D.Desk.seen c.args.desk.now c.args.session.now c.reach_into.new.desk c.reach_into.new.session _ _ _ dir_is dir_is (At c.in-Ok-reach_into.met.ino) c.in-Ok-reach_into.ensures.walked in
    remove_may g.D.Desk.called g.D.Desk.seen c.args.desk.now c.args.session.now c.args.call.now c.args.of_dirs c.args.path.now c.requires.call c.requires.root c.requires.may c.reach_into.new.desk c.reach_into.new.session c.in-Ok-reach_into.met.ino w c.reach_into.ensures.may c.look_up.new.session (alike_finds c.reach_into.new.session c.look_up.new.session (raised c.reach_into.new.session.finds) c.look_up.ensures.kept)

pub remove_in-requires-clause-open : goal.remove_in-requires-clause-open
remove_in-requires-clause-open g c =
    let dir_is = c.in-Ok.ensures in
    open_alike c.reach_into.new.session c.look_up.new.session c.in-Ok-reach_into.met.ino (raised c.reach_into.new.session.finds) c.look_up.ensures.kept
    (had_as c.reach_into.new.session _ _ _ dir_is dir_is c.in-Ok-reach_into.met.ino c.in-Ok-reach_into.ensures.had)

pub remove_in-requires-clause-comes : goal.remove_in-requires-clause-comes
remove_in-requires-clause-comes g c =
    let dir_is = c.in-Ok.ensures in
    let w = walked_as g.D.Desk.called g.D.Desk.seen c.args.desk.now c.args.session.now c.reach_into.new.desk c.reach_into.new.session _ _ _ dir_is dir_is (At c.in-Ok-reach_into.met.ino) c.in-Ok-reach_into.ensures.walked in
    remove_comes g.D.Desk.called g.D.Desk.seen c.args.desk.now c.args.session.now c.args.call.now c.args.of_dirs c.args.path.now c.requires.call c.requires.root c.requires.may c.reach_into.new.desk c.reach_into.new.session c.in-Ok-reach_into.met.ino w c.reach_into.ensures.may c.look_up.new.session (alike_finds c.reach_into.new.session c.look_up.new.session (raised c.reach_into.new.session.finds) c.look_up.ensures.kept)

pub remove_in-requires-clause-entry : goal.remove_in-requires-clause-entry
remove_in-requires-clause-entry g c =
    finds_alike c.reach_into.new.session c.look_up.new.session c.in-Ok-reach_into.met.ino (raised c.reach_into.new.session.finds) _ _ c.in-Some.file c.look_up.ensures.kept c.name_of.ensures.last c.in-Some.ensures.finds

pub remove_in-requires-clause-met : goal.remove_in-requires-clause-met
remove_in-requires-clause-met g c = (true, (c.in-Some.ensures.looked (g.D.Desk.seen c.reach_into.new.desk) c.reach_into.ensures.may c.in-Ok-reach_into.ensures.list).0 true)

pub remove_in-requires-clause-named : goal.remove_in-requires-clause-named
remove_in-requires-clause-named g c = (subst (λ n. InAllShown (g.D.Desk.seen c.reach_into.new.desk) c.look_up.new.session (λ now. find_named now c.in-Ok-reach_into.met.ino n ≡ Some c.in-Some.file.ino)) c.name_of.ensures.last (c.in-Some.ensures.looked (g.D.Desk.seen c.reach_into.new.desk) c.reach_into.ensures.may c.in-Ok-reach_into.ensures.list).1)

pub returns-in-Some-clause-goes : goal.returns-in-Some-clause-goes
returns-in-Some-clause-goes g c =
    let dir_is = c.in-Ok.ensures in
    let w = walked_as g.D.Desk.called g.D.Desk.seen c.args.desk.now c.args.session.now c.reach_into.new.desk c.reach_into.new.session _ _ _ dir_is dir_is (At c.in-Ok-reach_into.met.ino) c.in-Ok-reach_into.ensures.walked in
    remove_goes g.D.Desk.called g.D.Desk.seen c.args.desk.now c.args.session.now c.args.call.now c.args.of_dirs c.args.path.now c.requires.call c.requires.root c.requires.may c.reach_into.new.desk c.reach_into.new.session c.in-Ok-reach_into.met.ino w c.reach_into.ensures.may c.look_up.new.session (alike_finds c.reach_into.new.session c.look_up.new.session (raised c.reach_into.new.session.finds) c.look_up.ensures.kept) (try_ends c.remove_in.result) (number_made c.remove_in.result) c.remove_in.new.desk c.remove_in.new.session
    (subst (λ k. Goes g.D.Desk.called g.D.Desk.seen c.reach_into.new.desk c.look_up.new.session c.args.call.now (λ now. named_needs now c.in-Ok-reach_into.met.ino (name_of c.args.path.now) (removing_needs k)) (try_ends c.remove_in.result) (number_made c.remove_in.result) c.remove_in.new.desk c.remove_in.new.session) (let e : is_directory c.in-Some.file.kind ≡ c.args.of_dirs = search rules in e) c.remove_in.ensures.goes)

pub returns-in-Some-clause-others : goal.returns-in-Some-clause-others
returns-in-Some-clause-others g c none =
    let dir_is = c.in-Ok.ensures in
    let w = walked_as g.D.Desk.called g.D.Desk.seen c.args.desk.now c.args.session.now c.reach_into.new.desk c.reach_into.new.session _ _ _ dir_is dir_is (At c.in-Ok-reach_into.met.ino) c.in-Ok-reach_into.ensures.walked in
    hold_others g.D.Desk.called g.D.Desk.seen c.args.desk.now c.args.session.now c.args.path.now c.reach_into.new.desk c.reach_into.new.session c.in-Ok-reach_into.met.ino w c.reach_into.ensures.may c.look_up.new.session (alike_finds c.reach_into.new.session c.look_up.new.session (raised c.reach_into.new.session.finds) c.look_up.ensures.kept) c.in-Some.file.ino (subst (λ n. InAllShown (g.D.Desk.seen c.reach_into.new.desk) c.look_up.new.session (λ now. find_named now c.in-Ok-reach_into.met.ino n ≡ Some c.in-Some.file.ino)) c.name_of.ensures.last (c.in-Some.ensures.looked (g.D.Desk.seen c.reach_into.new.desk) c.reach_into.ensures.may c.in-Ok-reach_into.ensures.list).1) none
    (ap (λ (q : SessionSeen). q.lib) c.look_up.ensures.kept ∙ lib_same (g.D.Desk.seen c.args.desk.now) (g.D.Desk.seen c.reach_into.new.desk) c.args.session.now c.reach_into.new.session w.more w.way.took) (try_ends c.remove_in.result) c.remove_in.ensures.others

pub returns-in-Ok-reach_into-clause-goes : goal.returns-in-Ok-reach_into-clause-goes
returns-in-Ok-reach_into-clause-goes g c =
    let dir_is = c.in-Ok.ensures in
    let w = walked_as g.D.Desk.called g.D.Desk.seen c.args.desk.now c.args.session.now c.reach_into.new.desk c.reach_into.new.session _ _ _ dir_is dir_is (At c.in-Ok-reach_into.met.ino) c.in-Ok-reach_into.ensures.walked in
    remove_other g.D.Desk.called g.D.Desk.seen c.args.desk.now c.args.session.now c.args.call.now c.args.of_dirs c.args.path.now c.requires.call c.requires.root c.requires.may c.reach_into.new.desk c.reach_into.new.session c.in-Ok-reach_into.met.ino w c.reach_into.ensures.may c.look_up.new.session (alike_finds c.reach_into.new.session c.look_up.new.session (raised c.reach_into.new.session.finds) c.look_up.ensures.kept) c.noted_reply-in-Some-2.new.session c.noted_reply-in-Some-2.ensures.kept c.noted_reply-in-Some-2.result c.in-Some.file ((c.in-Some.ensures.looked (g.D.Desk.seen c.reach_into.new.desk) c.reach_into.ensures.may c.in-Ok-reach_into.ensures.list).0) (subst (λ n. InAllShown (g.D.Desk.seen c.reach_into.new.desk) c.look_up.new.session (λ now. find_named now c.in-Ok-reach_into.met.ino n ≡ Some c.in-Some.file.ino)) c.name_of.ensures.last (c.in-Some.ensures.looked (g.D.Desk.seen c.reach_into.new.desk) c.reach_into.ensures.may c.in-Ok-reach_into.ensures.list).1)
    (λ same. let t : c.is_directory.result ≡ c.args.of_dirs = c.is_directory.ensures ∙ same in false≢true (sym c.if-is_directory-of_dirs.false ∙ ap (λ b. beq b c.args.of_dirs) t ∙ beq-same c.args.of_dirs))
    (subst (λ x. MatchResult c.noted_reply-in-Some-2.result (λ r. (r ≡ record { reply = x; made = 0 }) × (length c.noted_reply-in-Some-2.new.session.calls < c.noted_reply-in-Some-2.new.session.room.calls)) (λ stop. stop ≡ LacksMemory)) c.other_kind.ensures c.noted_reply-in-Some-2.ensures.ends)

pub returns-clause-goes : goal.returns-clause-goes
returns-clause-goes g c =
    let dir_is = c.in-Ok.ensures in
    let w = walked_as g.D.Desk.called g.D.Desk.seen c.args.desk.now c.args.session.now c.reach_into.new.desk c.reach_into.new.session _ _ _ dir_is dir_is c.in-Err.end c.in-Err.ensures.walked in
    remove_stops g.D.Desk.called g.D.Desk.seen c.args.desk.now c.args.session.now c.args.call.now c.args.of_dirs c.args.path.now c.requires.call c.requires.root c.requires.may c.reach_into.new.desk c.reach_into.new.session c.in-Err.end w c.reach_into.ensures.may c.stopped.new.session c.stopped.ensures.kept c.in-Err.ensures.stopped c.stopped.result c.stopped.ensures.stops

pub returns-clause-others : goal.returns-clause-others
returns-clause-others g c none =
    stop_others g.D.Desk.called g.D.Desk.seen c.args.desk.now c.args.session.now _ c.in-Err.end c.reach_into.new.desk c.reach_into.new.session c.in-Err.ensures.walked c.in-Err.ensures.stopped c.stopped.result c.stopped.new.session c.stopped.ensures.stops none
