use Rattle.trio_case.proofs.Words.{◌*◌, ◌+◌, ◌≡◌, ◌≤◌, HasPlaces, In, IsDone, KeepsPages, length, take, true, unread_blocks, unread_index, ℕ}
use Rattle.trio_case.proofs.entries.read_entries.Given as goal

abbrev pub invariant-loop-block : goal.invariant-loop-block
invariant-loop-block l = record {
  done : (page : ℕ) → In page (take l.block-index l.blocks) → IsDone l.case l.kept page;
  keeps : KeepsPages l.case l.kept;
  places : HasPlaces true l.kept;
  most : length l.kept.names.names + 16 * unread_blocks l.kept ≤ length l.fn.kept.names.names + 16 * unread_blocks l.fn.kept;
  same : unread_index l.kept ≡ unread_index l.fn.kept;
  looks : l.reads + unread_blocks l.kept ≤ l.fn.reads + unread_blocks l.fn.kept;
}
