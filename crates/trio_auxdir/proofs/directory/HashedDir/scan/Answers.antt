use Rattle.trio_auxdir.proofs.Words.{arith}
use Rattle.trio_auxdir.specs.Slots.{slots_on}
use Rattle.trio_auxdir.proofs.Gaps.{gap-append}
use Rattle.trio_auxdir.proofs.Kept.{index_same}
use Rattle.trio_auxdir.proofs.directory.HashedDir.scan.Goals as goal

pub add_slots-requires-clause-index : goal.add_slots-requires-clause-index
add_slots-requires-clause-index c =
    index_same c.self.inside.slots.items c.reserve.new.self.items c.self.inside.order.items c.reserve-2.new.self.items c.self.invariant.index
    c.reserve.ensures.items c.reserve-2.ensures.items

pub first_from-self-inside-requires : goal.first_from-self-inside-requires
first_from-self-inside-requires c =
    rw (c.deref.ensures.value, c.add_slots.ensures.slots, c.reserve.ensures.items)
    (omega (arith, c.self.invariant.at_gap, gap-append c.self.inside.slots.items (slots_on c.self.inside.inodes c.args.block.now)))
