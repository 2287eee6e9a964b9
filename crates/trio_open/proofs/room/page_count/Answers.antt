use Rattle.trio_open.proofs.Words.{◌+◌, ◌∙◌, ◌≡◌, FreshParts, LentFile, List, ap, arith, drop, length, pages_shown, sym}
use Rattle.trio_open.proofs.Counts.{page_total, shown_next}
use Rattle.trio_open.proofs.room.page_count.Goals as goal

pub loop-lease-init : goal.loop-lease-init
loop-lease-init c =
    ap (λ (l : List FreshParts). length l + pages_shown c.writes-writes.result.now) c.pages-count.ensures
    ∙ ap (λ (fs : List LentFile). length c.args.bundle.now.pages + pages_shown fs) c.writes-writes.ensures
    ∙ sym (page_total c.args.bundle.now)

pub loop-lease-preserved : goal.loop-lease-preserved
loop-lease-preserved c =
    let next = shown_next c.writes-writes.result.now c.loop-lease.lease-index c.lease-item.result c.lease-item.result c.loop-lease-test.true c.lease-item.is in
    let was : c.loop-lease.count + pages_shown (drop c.loop-lease.lease-index c.writes-writes.result.now) ≡ _ = c.loop-lease.invariant in
    omega (arith, next, was, c.index_len.ensures, c.blocks_len.ensures)
