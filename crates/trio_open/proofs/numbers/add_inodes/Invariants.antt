use Rattle.trio_open.proofs.Words.{◌≡◌, ◌≤◌, length, take, vec_capacity}
use Rattle.trio_allot.specs.Out.{inode_numbers}
use Rattle.trio_open.proofs.numbers.add_inodes.Given as goal

abbrev pub invariant-loop-inode : goal.invariant-loop-inode
invariant-loop-inode l = record {
  numbers : l.numbers.items ≡ inode_numbers (take l.inode-index l.inodes);
  many : length l.numbers.items ≡ l.inode-index;
  room : length l.inodes ≤ vec_capacity l.numbers;
}
