use Rattle.trio_calls_file.proofs.Words.{◌∙◌, Goes, IsNotBusy, Regular, Truncate, alike_room, ap, body_had-open, bytes_in, refl, resized, size_in, sized, subst, sym, try_ends, wants_pages_for, is_directory, option_map}
use Rattle.trio_nodes.specs.declared.call.Answer.TheVariants.{Done}
use Rattle.trio_calls_file.proofs.Ends.{blocks_room, calls_room, edits_room, goes_done, goes_fault, idle_fault, old_room, open_room, pages_room, writes_size}
use Rattle.trio_calls_file.proofs.Writes.{edits_alike}
use Rattle.trio_calls_file.proofs.files.truncate.Goals as goal

pub resize-requires-clause-open : goal.resize-requires-clause-open
resize-requires-clause-open g c =
    let o = c.requires.open in
    let old = c.size_of-old.ensures.size ∙ ap size_in (body_had-open c.args.session.now c.args.ino Regular o) in
    ap (option_map is_directory) (open_room g.D.Desk.called g.D.Desk.seen c.args.desk.now c.args.session.now c.args.ino c.size_of-old.result c.args.size c.make_room.result c.make_room.new.desk c.make_room.new.session o old c.make_room.ensures.room)

pub resize-requires-clause-old : goal.resize-requires-clause-old
resize-requires-clause-old g c =
    let o = c.requires.open in
    let old = c.size_of-old.ensures.size ∙ ap size_in (body_had-open c.args.session.now c.args.ino Regular o) in
    old_room g.D.Desk.called g.D.Desk.seen c.args.desk.now c.args.session.now c.args.ino c.size_of-old.result c.args.size c.make_room.result c.make_room.new.desk c.make_room.new.session o old c.make_room.ensures.room

pub resize-requires-clause-pages : goal.resize-requires-clause-pages
resize-requires-clause-pages g c =
    let o = c.requires.open in
    let old = c.size_of-old.ensures.size ∙ ap size_in (body_had-open c.args.session.now c.args.ino Regular o) in
    pages_room g.D.Desk.called g.D.Desk.seen c.args.desk.now c.args.session.now c.args.ino c.size_of-old.result c.args.size c.make_room.result c.make_room.new.desk c.make_room.new.session o old c.make_room.ensures.room c.in-Ok.is

pub resize-requires-clause-room : goal.resize-requires-clause-room
resize-requires-clause-room g c =
    let o = c.requires.open in
    let old = c.size_of-old.ensures.size ∙ ap size_in (body_had-open c.args.session.now c.args.ino Regular o) in
    blocks_room g.D.Desk.called g.D.Desk.seen c.args.desk.now c.args.session.now c.args.ino c.size_of-old.result c.args.size c.make_room.result c.make_room.new.desk c.make_room.new.session o old c.make_room.ensures.room c.in-Ok.is

pub returns-in-Ok-clause-goes : goal.returns-in-Ok-clause-goes
returns-in-Ok-clause-goes g c path unrefused =
    let o = c.requires.open in
    let old = c.size_of-old.ensures.size ∙ ap size_in (body_had-open c.args.session.now c.args.ino Regular o) in
    let s1 = c.make_room.new.session in
    let t = c.resize.new.session in
    let alike = alike_room (sized c.args.ino c.args.size s1) t c.resize.ensures.kept in
    let e = edits_alike (g.D.Desk.seen c.make_room.new.desk) s1 (sized c.args.ino c.args.size s1) t c.args.ino (resized c.args.size (bytes_in s1 c.args.ino)) alike
    (edits_room g.D.Desk.called g.D.Desk.seen c.args.desk.now c.args.session.now c.args.ino c.size_of-old.result c.args.size c.make_room.result c.make_room.new.desk c.make_room.new.session o old c.make_room.ensures.room c.in-Ok.is c.requires.limits c.requires.within) in
    goes_done g.D.Desk.called g.D.Desk.seen c.args.desk.now c.args.session.now (Truncate path c.args.size) (resized c.args.size) Done c.args.ino c.size_of-old.result c.args.size c.make_room.result c.make_room.new.desk c.make_room.new.session o (writes_size path c.args.size) old refl c.make_room.ensures.room unrefused c.in-Ok.is t e alike
    (calls_room g.D.Desk.called g.D.Desk.seen c.args.desk.now c.args.session.now c.args.ino c.size_of-old.result c.args.size c.make_room.result c.make_room.new.desk c.make_room.new.session o old c.make_room.ensures.room c.in-Ok.is t e.calls c.resize.ensures.calls)

pub returns-in-Err-clause-goes : goal.returns-in-Err-clause-goes
returns-in-Err-clause-goes g c path unrefused =
    let o = c.requires.open in
    let old = c.size_of-old.ensures.size ∙ ap size_in (body_had-open c.args.session.now c.args.ino Regular o) in
    subst (λ r. Goes g.D.Desk.called g.D.Desk.seen c.args.desk.now c.args.session.now (Truncate path c.args.size) c.args.ino (wants_pages_for (g.D.Desk.seen c.args.desk.now).creds (Truncate path c.args.size)) (try_ends r) c.make_room.new.desk c.make_room.new.session) (sym c.allot_reply.ensures)
    (goes_fault g.D.Desk.called g.D.Desk.seen c.args.desk.now c.args.session.now (Truncate path c.args.size) (resized c.args.size) Done c.args.ino c.size_of-old.result c.args.size c.make_room.result c.make_room.new.desk c.make_room.new.session o (writes_size path c.args.size) old refl c.make_room.ensures.room unrefused c.in-Err.fault c.in-Err.is)

pub returns-in-Err-clause-idle : goal.returns-in-Err-clause-idle
returns-in-Err-clause-idle g c = subst (λ r. IsNotBusy (try_ends r)) (sym c.allot_reply.ensures) (idle_fault c.in-Err.fault)
