use Rattle.trio_calls_dir.proofs.Words.{refl}
use Rattle.trio_calls_dir.proofs.MovesRetitle.{retitled_alike}
use Rattle.trio_calls_dir.proofs.RemovesClear.{room_after}
use Rattle.trio_calls_dir.proofs.moves.retitle.Goals as goal

pub returns-in-Ok : goal.returns-in-Ok
returns-in-Ok c = record {
  ends = (
    refl,
    retitled_alike c.args.session.now c.places.new.session c.retitle.new.self c.args.dir c.args.from.now c.args.to.now _ _ c.places.ensures.kept c.name_of.ensures.last c.name_of-in-Ok.ensures.last c.retitle.ensures.kept,
    room_after c.args.session.now c.places.new.session c.retitle.new.self _ c.places.ensures.kept c.in-Ok.ensures.calls c.retitle.ensures.room.calls,
  );
}
