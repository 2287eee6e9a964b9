use Rattle.trio_case.proofs.Words.{◌++◌, ◌+◌, ◌≡◌, ◌≤◌, AreUnread, Bundled, CountsItself, Some, map, numbers_of, slice_get, take, vec_capacity}
use Rattle.std.specs.Prelude.{vec_len}
use Rattle.trio_case.proofs.kept.add_blocks.Given as goal

abbrev pub invariant-loop-at : goal.invariant-loop-at
invariant-loop-at l = record {
  numbers : numbers_of l.pages.items ≡ numbers_of l.fn.pages.items ++ map (λ p. p.no.0) (take l.at l.lease.stands.blocks);
  unread : (b : Bundled) → slice_get b.writes l.file ≡ Some l.lease → AreUnread b l.fn.pages.items → AreUnread b l.pages.items;
  counted : CountsItself l.fn.pages.items → CountsItself l.pages.items;
  len : vec_len l.pages ≡ vec_len l.fn.pages + l.at;
  capacity : vec_capacity l.fn.pages ≤ vec_capacity l.pages;
}
