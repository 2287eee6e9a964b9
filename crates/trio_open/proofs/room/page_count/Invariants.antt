use Rattle.trio_open.proofs.Words.{◌+◌, ◌≡◌, bundle_in, bundle_pages, drop, length, pages_shown}
use Rattle.trio_open.proofs.room.page_count.Given as goal

abbrev pub invariant-loop-lease : goal.invariant-loop-lease
invariant-loop-lease l = l.count + pages_shown (drop l.lease-index l.writes) ≡ length (bundle_pages (bundle_in l.fn.bundle))
