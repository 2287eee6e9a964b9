use Rattle.trio_open.proofs.Words.{◌≡◌, FreshParts, arith, length}
use Rattle.trio_open.proofs.Fullness.{each_item}
use Rattle.trio_open.proofs.full.are_pages_full.Goals as goal

pub loop-fresh-preserved : goal.loop-fresh-preserved
loop-fresh-preserved c =
    each_item (λ (p : FreshParts). length p.page ≡ 4096) c.args.pages.now c.loop-fresh.fresh-index c.fresh-item.result (omega arith) c.fresh-item.is c.loop-fresh.invariant c.is_page_full.ensures
