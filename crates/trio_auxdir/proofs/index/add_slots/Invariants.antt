use Rattle.trio_auxdir.proofs.Words.{◌++◌, ◌+◌, ◌≡◌, ◌≤◌, IsIndex, slot_on, tabulated, vec_capacity, vec_len}
use Rattle.trio_auxdir.specs.inner.Index.{spare}
use Rattle.trio_auxdir.proofs.index.add_slots.Given as goal

abbrev pub invariant-loop-slot : goal.invariant-loop-slot
invariant-loop-slot l = record {
  slots : l.slots.items ≡ l.fn.slots.items ++ tabulated (slot_on l.inodes l.page) l.slot;
  len : vec_len l.slots ≡ vec_len l.fn.slots + l.slot;
  capacity : vec_capacity l.slots ≡ vec_capacity l.fn.slots;
  index : IsIndex l.slots.items l.order.items;
  room : 16 ≤ spare l.order + l.slot;
}
