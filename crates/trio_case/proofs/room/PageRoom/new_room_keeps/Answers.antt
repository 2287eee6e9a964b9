use Rattle.trio_case.proofs.Opening.{few_looks, room_keeps}
use Rattle.trio_case.proofs.room.PageRoom.new_room_keeps.Goals as goal

pub returns-clause-keeps : goal.returns-clause-keeps
returns-clause-keeps c = room_keeps c.args.case.now c.bundle-bundle.ensures.fits c.args.self.now c.requires

pub returns-clause-looks : goal.returns-clause-looks
returns-clause-looks c = few_looks c.args.case.now c.bundle-bundle.ensures.fits c.args.self.now c.requires
