use Rattle.trio_case.proofs.Words.{◌++◌, ◌≡◌, ◌≤◌, AreUnread, CountsItself, flat_map, map, numbers_of, take, vec_capacity}
use Rattle.trio_case.proofs.kept.set_pages.Given as goal

abbrev pub invariant-loop-file : goal.invariant-loop-file
invariant-loop-file l = record {
  numbers : numbers_of l.pages.items ≡ flat_map (λ f. map (λ p. p.no.0) f.stands.index ++ map (λ p. p.no.0) f.stands.blocks) (take l.file l.writes);
  unread : AreUnread l.bundle l.pages.items;
  counted : CountsItself l.pages.items;
  capacity : vec_capacity l.fn.pages ≤ vec_capacity l.pages;
}
