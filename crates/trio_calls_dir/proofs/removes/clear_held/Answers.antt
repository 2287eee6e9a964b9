use Rattle.trio_calls_dir.proofs.Words.{refl}
use Rattle.trio_calls_dir.proofs.RemovesClear.{cleared_alike, room_after}
use Rattle.trio_calls_dir.proofs.removes.clear_held.Goals as goal

pub returns-in-Ok : goal.returns-in-Ok
returns-in-Ok c = record {
  ends = (
    refl,
    cleared_alike c.args.session.now c.reserve_call.new.self c.clear.new.self _ c.args.dir c.args.path.now _ c.reserve_call.ensures.kept c.name_of.ensures.last c.clear.ensures.kept,
    room_after c.args.session.now c.reserve_call.new.self c.clear.new.self _ c.reserve_call.ensures.kept c.in-Ok.ensures.room c.clear.ensures.room.calls,
  );
}
