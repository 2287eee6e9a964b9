use Rattle.trio_open.proofs.Words.{AreWhole, LentFile, arith}
use Rattle.trio_open.proofs.Fullness.{each_all, each_item}
use Rattle.trio_open.proofs.full.are_leases_full.Goals as goal

pub loop-lease-preserved : goal.loop-lease-preserved
loop-lease-preserved c =
    each_item (λ (f : LentFile). AreWhole f.stands.index × AreWhole f.stands.blocks) c.args.leases.now c.loop-lease.lease-index c.lease-item.result (omega arith) c.lease-item.is
    c.loop-lease.invariant (c.is_index_full.ensures, c.are_blocks_full.ensures)

pub returns : goal.returns
returns c =
    each_all (λ (f : LentFile). AreWhole f.stands.index × AreWhole f.stands.blocks) c.args.leases.now c.loop-lease.lease-index (omega arith) c.loop-lease.invariant
