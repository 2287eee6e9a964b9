use Rattle.trio_checkpoint.proofs.Words.{◌≡◌, IsTrue, all_below, length, sheet_numbers, with_pages}
use Rattle.std.specs.Vec.Iter.{into_iter_items}
use Rattle.trio_checkpoint.proofs.page_copy.put_all_back.Given as goal

abbrev pub invariant-loop-copy : goal.invariant-loop-copy
invariant-loop-copy l =
    (goal.iterator-loop-copy).can_next l.copy-iterator ×
    (goal.iterator-loop-copy).is_finite l.copy-iterator ×
    (with_pages (into_iter_items l.copy-iterator) l.home.pages ≡ with_pages l.fn.copies.items l.fn.home.pages) ×
    IsTrue (all_below (length l.home.pages) (sheet_numbers (into_iter_items l.copy-iterator))) ×
    (length l.home.pages ≡ length l.fn.home.pages) ×
    (l.home.looked ≡ l.fn.home.looked)
