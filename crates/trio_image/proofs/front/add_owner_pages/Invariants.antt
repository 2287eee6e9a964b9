use Rattle.trio_image.proofs.Words.{◌++◌, ◌≡◌, owner_bytes, padded_to_pages, table_pages}
use Rattle.trio_image.proofs.front.add_owner_pages.Given as goal

abbrev pub invariant-loop-at : goal.invariant-loop-at
invariant-loop-at l = l.pages.items ≡ l.initial.pages.items ++ table_pages (padded_to_pages (owner_bytes l.owners)) l.at
