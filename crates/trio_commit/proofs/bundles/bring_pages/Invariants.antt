use Rattle.trio_commit.proofs.Words.{◌≡◌, IsTrue, all_below, length, lent_sheets, sheet_numbers, with_pages}
use Rattle.std.specs.Vec.Iter.{into_iter_items}
use Rattle.trio_commit.proofs.bundles.bring_pages.Given as goal

abbrev pub invariant-loop-lent : goal.invariant-loop-lent
invariant-loop-lent l =
    (goal.iterator-loop-lent).can_next l.lent-iterator ×
    (goal.iterator-loop-lent).is_finite l.lent-iterator ×
    (with_pages (lent_sheets (into_iter_items l.lent-iterator)) l.home.pages ≡ with_pages (lent_sheets l.fn.pages.items) l.fn.home.pages) ×
    IsTrue (all_below (length l.home.pages) (sheet_numbers (lent_sheets (into_iter_items l.lent-iterator)))) ×
    (length l.home.pages ≡ length l.fn.home.pages) ×
    (l.home.looked ≡ l.fn.home.looked)
