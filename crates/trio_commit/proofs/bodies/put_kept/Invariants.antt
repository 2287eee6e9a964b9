use Rattle.trio_commit.proofs.Words.{◌+◌, ◌≡◌, ◌≤◌, None, drop, entry_seen, kept_children, map, page_changes, take, taken_number, with_bodies, with_taken}
use Rattle.trio_commit.specs.inner.Putting.{IsAway}
use Rattle.trio_commit.proofs.bodies.put_kept.Given as goal

abbrev pub invariant-loop-entry : goal.invariant-loop-entry
invariant-loop-entry l = record {
  away : IsAway l.taken l.home.pages;
  pages : with_taken l.taken l.home.pages ≡ with_bodies (kept_children l.checkpoints (map entry_seen (take l.entry-index l.entries))) l.fn.home.pages;
  floor : l.fn.home.looked ≤ l.home.looked;
  looked : l.home.looked + page_changes (taken_number l.taken) (kept_children l.checkpoints (map entry_seen (drop l.entry-index l.entries))) ≤ l.fn.home.looked + page_changes None (kept_children l.checkpoints (map entry_seen l.entries));
  reads : l.reads + page_changes (taken_number l.taken) (kept_children l.checkpoints (map entry_seen (drop l.entry-index l.entries))) ≤ l.fn.reads + page_changes None (kept_children l.checkpoints (map entry_seen l.entries));
}
