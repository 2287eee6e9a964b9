use Rattle.trio_image.proofs.Words.{◌++◌, ◌≡◌, zero_pages}
use Rattle.trio_image.proofs.making.add_zero_pages.Given as goal

abbrev pub invariant-loop-i : goal.invariant-loop-i
invariant-loop-i l = l.pages.items ≡ l.initial.pages.items ++ zero_pages l._i
