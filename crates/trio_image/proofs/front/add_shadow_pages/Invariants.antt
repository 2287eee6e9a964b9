use Rattle.trio_image.proofs.Words.{◌++◌, ◌≡◌, padded_to_pages, shadow_bytes, table_pages}
use Rattle.trio_image.proofs.front.add_shadow_pages.Given as goal

abbrev pub invariant-loop-at : goal.invariant-loop-at
invariant-loop-at l = l.pages.items ≡ l.initial.pages.items ++ table_pages (padded_to_pages (shadow_bytes l.rows)) l.at
