use Rattle.trio_calls_dir.proofs.Words.{◌∙◌, At, Creds, Denied, NotFound, SessionSeen, alike_finds, ap, dir_of, name_of, owner_met, raised, refl, sym}
use Rattle.trio_walk.specs.declared.walks.WalkEnd.TheVariants.{Reply}
use Rattle.trio_calls_dir.proofs.ChmodsFinds.{found_absent, found_as, found_owned, found_root, found_short, found_stopped, found_stranger, looked_none, looked_some, search_may, walk_as}
use Rattle.trio_calls_dir.proofs.ChmodsReads.{found_alone, none_alone, reads_alone}
use Rattle.trio_calls_dir.proofs.chmods.owned_file.Goals as goal
use Rattle.trio_calls_dir.proofs.Walkable.{may_walk}

pub returns-then-is_root-clause-found : goal.returns-then-is_root-clause-found
returns-then-is_root-clause-found g c = λ mode. found_root g.D.Desk.called g.D.Desk.seen c.args.desk.now c.args.session.now c.args.path.now mode (sym c.if-is_root.ensures)

pub returns-in_default-clause-found : goal.returns-in_default-clause-found
returns-in_default-clause-found g c = λ mode. found_short g.D.Desk.called g.D.Desk.seen c.args.desk.now c.args.session.now c.args.path.now mode

pub reach_into-requires : goal.reach_into-requires
reach_into-requires g c = may_walk (g.D.Desk.seen c.args.desk.now) c.args.session.now c.requires.may

pub returns-in-Err-clause-may : goal.returns-in-Err-clause-may
returns-in-Err-clause-may g c =
    search_may g.D.Desk.called g.D.Desk.seen c.args.desk.now c.args.session.now _ c.in-Err.end c.reach_into.new.desk c.reach_into.new.session c.reach_into.new.session c.requires.may c.in-Err.ensures.walked c.reach_into.ensures.may refl

pub returns-in-Err-clause-found : goal.returns-in-Err-clause-found
returns-in-Err-clause-found g c = λ mode.
    found_stopped g.D.Desk.called g.D.Desk.seen c.args.desk.now c.args.session.now c.args.path.now mode (sym c.if-is_root.ensures) c.reach_into.new.desk c.reach_into.new.session c.in-Err.end
    (walk_as g.D.Desk.called g.D.Desk.seen c.args.desk.now c.args.session.now c.reach_into.new.desk c.reach_into.new.session c.in-Ok.dir (dir_of c.args.path.now) c.in-Ok.ensures c.in-Err.end c.in-Err.ensures.walked) c.in-Err.ensures.stopped

pub returns-in-None-clause-may : goal.returns-in-None-clause-may
returns-in-None-clause-may g c =
    search_may g.D.Desk.called g.D.Desk.seen c.args.desk.now c.args.session.now _ (At c.in-Ok-reach_into.met.ino) c.reach_into.new.desk c.reach_into.new.session c.look_up.new.session c.requires.may c.in-Ok-reach_into.ensures.walked c.reach_into.ensures.may
    (alike_finds c.reach_into.new.session c.look_up.new.session (raised c.reach_into.new.session.finds) c.look_up.ensures.kept)

pub returns-in-None-clause-found : goal.returns-in-None-clause-found
returns-in-None-clause-found g c = λ mode.
    found_as g.D.Desk.called g.D.Desk.seen c.args.desk.now c.args.session.now c.args.path.now mode c.reach_into.new.desk c.reach_into.new.session c.look_up.new.session (raised c.reach_into.new.session.finds) (Reply NotFound) c.look_up.ensures.kept
    (found_absent g.D.Desk.called g.D.Desk.seen c.args.desk.now c.args.session.now c.args.path.now mode (sym c.if-is_root.ensures) c.reach_into.new.desk c.reach_into.new.session c.in-Ok-reach_into.met.ino
    (walk_as g.D.Desk.called g.D.Desk.seen c.args.desk.now c.args.session.now c.reach_into.new.desk c.reach_into.new.session c.in-Ok.dir (dir_of c.args.path.now) c.in-Ok.ensures (At c.in-Ok-reach_into.met.ino) c.in-Ok-reach_into.ensures.walked)
    (raised c.reach_into.new.session.finds)
    (looked_none (g.D.Desk.seen c.reach_into.new.desk) c.reach_into.new.session c.look_up.new.session (raised c.reach_into.new.session.finds) c.in-Ok-reach_into.met.ino c.name_of.result.now (name_of c.args.path.now) c.look_up.ensures.kept c.name_of.ensures.last
    (c.in-None.ensures.looked (g.D.Desk.seen c.reach_into.new.desk) c.reach_into.ensures.may c.in-Ok-reach_into.ensures.list)))

pub returns-in-Some-clause-may : goal.returns-in-Some-clause-may
returns-in-Some-clause-may g c =
    search_may g.D.Desk.called g.D.Desk.seen c.args.desk.now c.args.session.now _ (At c.in-Ok-reach_into.met.ino) c.reach_into.new.desk c.reach_into.new.session c.look_up.new.session c.requires.may c.in-Ok-reach_into.ensures.walked c.reach_into.ensures.may
    (alike_finds c.reach_into.new.session c.look_up.new.session (raised c.reach_into.new.session.finds) c.look_up.ensures.kept)

pub returns-in-Some-clause-found : goal.returns-in-Some-clause-found
returns-in-Some-clause-found g c = λ mode.
    let looked = looked_some (g.D.Desk.seen c.reach_into.new.desk) c.reach_into.new.session c.look_up.new.session (raised c.reach_into.new.session.finds) c.in-Ok-reach_into.met.ino c.name_of.result.now (name_of c.args.path.now) c.in-Some.file c.look_up.ensures.kept c.name_of.ensures.last
    (c.in-Some.ensures.looked (g.D.Desk.seen c.reach_into.new.desk) c.reach_into.ensures.may c.in-Ok-reach_into.ensures.list) in
    found_as g.D.Desk.called g.D.Desk.seen c.args.desk.now c.args.session.now c.args.path.now mode c.reach_into.new.desk c.reach_into.new.session c.look_up.new.session (raised c.reach_into.new.session.finds) (At c.in-Some.file.ino) c.look_up.ensures.kept
    (found_owned g.D.Desk.called g.D.Desk.seen c.args.desk.now c.args.session.now c.args.path.now mode (sym c.if-is_root.ensures) c.reach_into.new.desk c.reach_into.new.session c.in-Ok-reach_into.met.ino
    (walk_as g.D.Desk.called g.D.Desk.seen c.args.desk.now c.args.session.now c.reach_into.new.desk c.reach_into.new.session c.in-Ok.dir (dir_of c.args.path.now) c.in-Ok.ensures (At c.in-Ok-reach_into.met.ino) c.in-Ok-reach_into.ensures.walked)
    (raised c.reach_into.new.session.finds) c.in-Some.file looked.0 looked.1
    (ap (λ (k : Creds). owner_met k c.in-Some.file) (sym c.creds.ensures.creds) ∙ sym c.owns.ensures ∙ c.if-owns.true))

pub returns-clause-may : goal.returns-clause-may
returns-clause-may g c =
    search_may g.D.Desk.called g.D.Desk.seen c.args.desk.now c.args.session.now _ (At c.in-Ok-reach_into.met.ino) c.reach_into.new.desk c.reach_into.new.session c.look_up.new.session c.requires.may c.in-Ok-reach_into.ensures.walked c.reach_into.ensures.may
    (alike_finds c.reach_into.new.session c.look_up.new.session (raised c.reach_into.new.session.finds) c.look_up.ensures.kept)

pub returns-clause-found : goal.returns-clause-found
returns-clause-found g c = λ mode.
    let looked = looked_some (g.D.Desk.seen c.reach_into.new.desk) c.reach_into.new.session c.look_up.new.session (raised c.reach_into.new.session.finds) c.in-Ok-reach_into.met.ino c.name_of.result.now (name_of c.args.path.now) c.in-Some.file c.look_up.ensures.kept c.name_of.ensures.last
    (c.in-Some.ensures.looked (g.D.Desk.seen c.reach_into.new.desk) c.reach_into.ensures.may c.in-Ok-reach_into.ensures.list) in
    found_as g.D.Desk.called g.D.Desk.seen c.args.desk.now c.args.session.now c.args.path.now mode c.reach_into.new.desk c.reach_into.new.session c.look_up.new.session (raised c.reach_into.new.session.finds) (Reply Denied) c.look_up.ensures.kept
    (found_stranger g.D.Desk.called g.D.Desk.seen c.args.desk.now c.args.session.now c.args.path.now mode (sym c.if-is_root.ensures) c.reach_into.new.desk c.reach_into.new.session c.in-Ok-reach_into.met.ino
    (walk_as g.D.Desk.called g.D.Desk.seen c.args.desk.now c.args.session.now c.reach_into.new.desk c.reach_into.new.session c.in-Ok.dir (dir_of c.args.path.now) c.in-Ok.ensures (At c.in-Ok-reach_into.met.ino) c.in-Ok-reach_into.ensures.walked)
    (raised c.reach_into.new.session.finds) c.in-Some.file looked.0 looked.1
    (ap (λ (k : Creds). owner_met k c.in-Some.file) (sym c.creds.ensures.creds) ∙ sym c.owns.ensures ∙ c.if-owns.false))

pub returns-then-is_root-clause-alone : goal.returns-then-is_root-clause-alone
returns-then-is_root-clause-alone g c = none_alone c.args.session.now

pub returns-in_default-clause-alone : goal.returns-in_default-clause-alone
returns-in_default-clause-alone g c = none_alone c.args.session.now

pub returns-in-Err-clause-alone : goal.returns-in-Err-clause-alone
returns-in-Err-clause-alone g c = λ none. reads_alone g.D.Desk.called g.D.Desk.seen c.args.desk.now c.args.session.now _ c.in-Err.end c.reach_into.new.desk c.reach_into.new.session c.in-Err.ensures.walked (c.reach_into.ensures.reading refl) none

pub returns-in-None-clause-alone : goal.returns-in-None-clause-alone
returns-in-None-clause-alone g c = λ none. found_alone g.D.Desk.called g.D.Desk.seen c.args.desk.now c.args.session.now _ (At c.in-Ok-reach_into.met.ino) c.reach_into.new.desk c.reach_into.new.session c.in-Ok-reach_into.ensures.walked (c.reach_into.ensures.reading refl) none c.look_up.new.session (ap (λ (x : SessionSeen). x.parcel) c.look_up.ensures.kept) (ap (λ (x : SessionSeen). x.calls) c.look_up.ensures.kept)

pub returns-in-Some-clause-alone : goal.returns-in-Some-clause-alone
returns-in-Some-clause-alone g c = λ none. found_alone g.D.Desk.called g.D.Desk.seen c.args.desk.now c.args.session.now _ (At c.in-Ok-reach_into.met.ino) c.reach_into.new.desk c.reach_into.new.session c.in-Ok-reach_into.ensures.walked (c.reach_into.ensures.reading refl) none c.look_up.new.session (ap (λ (x : SessionSeen). x.parcel) c.look_up.ensures.kept) (ap (λ (x : SessionSeen). x.calls) c.look_up.ensures.kept)

pub returns-clause-alone : goal.returns-clause-alone
returns-clause-alone g c = λ none. found_alone g.D.Desk.called g.D.Desk.seen c.args.desk.now c.args.session.now _ (At c.in-Ok-reach_into.met.ino) c.reach_into.new.desk c.reach_into.new.session c.in-Ok-reach_into.ensures.walked (c.reach_into.ensures.reading refl) none c.look_up.new.session (ap (λ (x : SessionSeen). x.parcel) c.look_up.ensures.kept) (ap (λ (x : SessionSeen). x.calls) c.look_up.ensures.kept)
