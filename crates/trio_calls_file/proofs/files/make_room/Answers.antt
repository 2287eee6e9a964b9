use Rattle.trio_calls_file.proofs.Words.{◌≤◌, Allots, alike_room, on_alike, room_in, subst}
use Rattle.trio_calls_file.proofs.Rooms.{room_made, room_short}
use Rattle.trio_calls_file.proofs.files.make_room.Goals as goal

pub allot-requires : goal.allot-requires
allot-requires g c =
    on_alike (g.D.Desk.seen c.args.desk.now) c.args.session.now c.places.new.session (alike_room c.args.session.now c.places.new.session c.places.ensures.kept) c.requires.may.edits.on

pub returns-in-Ok : goal.returns-in-Ok
returns-in-Ok g c = record {
  room =
      room_made g.D.Desk.called g.D.Desk.seen c.args.desk.now c.args.session.now c.args.ino c.args.old c.args.size c.places.new.session c.requires.may c.places.ensures.kept
      (record { calls = c.in-Ok.ensures.calls; blocks = subst (λ n. n ≤ room_in c.places.new.session c.args.ino) c.block_count.ensures.count c.in-Ok.ensures.blocks })
      c.allot.result c.allot.new.desk c.allot.new.session c.allot.ensures.room c.allot.ensures.on
      (subst (λ n. Allots g.D.Desk.called g.D.Desk.seen c.args.desk.now c.places.new.session n 0 c.allot.result c.allot.new.desk c.allot.new.session) c.growth.ensures c.allot.ensures.allots);
}

pub returns-in-Err : goal.returns-in-Err
returns-in-Err g c = record {
  room = room_short g.D.Desk.called g.D.Desk.seen c.args.desk.now c.args.session.now c.args.ino c.args.old c.args.size c.places.new.session c.requires.may c.places.ensures.kept;
}
