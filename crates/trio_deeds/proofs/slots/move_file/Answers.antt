use Rattle.std.proofs.Common.{◌∙◌, sym}
use Rattle.trio_deeds.proofs.Moving.{brings, moved_alike}
use Rattle.trio_deeds.proofs.slots.move_file.Goals as goal

pub fill-requires-clause-made : goal.fill-requires-clause-made
fill-requires-clause-made c =
    brings c.args.session.now c.clear.new.self c.args.dir c.args.new_dir c.args.ino _ _ c.requires c.clear.ensures.kept c.in-Some.moving.0 c.in-Some.moving.1 (sym c.moving.ensures ∙ c.in-Some.is) (c.clear.ensures.place c.requires.place)

pub fill-requires-clause-room : goal.fill-requires-clause-room
fill-requires-clause-room c = c.clear.ensures.room.names c.args.new_dir c.requires.apart c.requires.names

pub returns : goal.returns
returns c = record {
  kind = c.in-Some.moving.0;
  body = c.in-Some.moving.1;
  takes = sym c.moving.ensures ∙ c.in-Some.is;
  put = moved_alike c.args.session.now c.clear.new.self c.args.dir c.args.new_dir c.args.ino _ _ c.requires c.clear.ensures.kept c.fill.new.self c.in-Some.moving.0 c.in-Some.moving.1 c.fill.ensures.kept;
  calls = c.fill.ensures.room.calls ∙ c.clear.ensures.room.calls;
}
