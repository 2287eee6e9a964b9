use Rattle.trio_auxdir.proofs.Kept.{kept_same}
use Rattle.trio_auxdir.proofs.directory.HashedDir.reserve.Goals as goal

pub invariant_of-self-2 : goal.invariant_of-self-2
invariant_of-self-2 c =
    kept_same c.self.inside.slots.items c.reserve.new.self.items c.self.inside.order.items c.reserve-2.new.self.items c.self.inside.first c.self.invariant
    c.reserve.ensures.items c.reserve-2.ensures.items
