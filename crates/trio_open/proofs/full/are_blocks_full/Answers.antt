use Rattle.trio_open.proofs.Words.{◌≡◌, LentPage, length}
use Rattle.trio_open.proofs.Fullness.{each_next, whole_at}
use Rattle.trio_open.proofs.full.are_blocks_full.Goals as goal

pub loop-i-preserved : goal.loop-i-preserved
loop-i-preserved c =
    let pages = c.args.lease.now.stands.blocks in
    each_next (λ (p : LentPage). length p.page ≡ 4096) pages c.loop-i.i c.loop-i.invariant (whole_at pages c.loop-i.i _ c.block.ensures c.is_whole.ensures)
