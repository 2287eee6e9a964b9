use Rattle.trio_auxdir.proofs.Words.{◌++◌, ◌∙◌, ◌≡◌, ap, arith, slot_on, tabulated, ℕ}
use Rattle.trio_auxdir.specs.Slots.{slots_on}
use Rattle.trio_auxdir.proofs.Indexes.{new_on, more_on}
use Rattle.trio_auxdir.proofs.index.add_slots.Goals as goal

pub add_slot-requires-clause-new : goal.add_slot-requires-clause-new
add_slot-requires-clause-new c =
    rw (c.name_on-name.ensures, c.loop-slot.invariant.slots)
    (new_on c.args.inodes c.loop-slot.slot c.args.page.now c.args.slots.now.items c.loop-slot-test.true c.requires.differ)

pub loop-slot-preserved : goal.loop-slot-preserved
loop-slot-preserved c = record {
  slots = rw (c.add_slot.ensures.slots, c.loop-slot.invariant.slots, c.name_on-name.ensures)
      (more_on (slot_on c.args.inodes c.args.page.now) c.args.slots.now.items c.loop-slot.slot);
  len = omega (arith, c.add_slot.ensures.len, c.loop-slot.invariant.len);
  capacity = c.add_slot.ensures.capacity ∙ c.loop-slot.invariant.capacity;
  index = c.add_slot.ensures.index;
  room = omega (arith, c.loop-slot.invariant.room, c.add_slot.ensures.room);
}

pub returns-clause-slots : goal.returns-clause-slots
unfolding slots_on
returns-clause-slots c =
    let all : c.loop-slot.slot ≡ 16 = omega arith in
    c.loop-slot.invariant.slots ∙ ap (λ (k : ℕ). c.args.slots.now.items ++ tabulated (slot_on c.args.inodes c.args.page.now) k) all
