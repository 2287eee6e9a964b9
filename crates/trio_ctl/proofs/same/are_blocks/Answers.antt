use Rattle.trio_ctl.proofs.Words.{◌≡◌, arith, block_in, rules, same_more, true}
use Rattle.trio_ctl.proofs.Sames.{block_at}
use Rattle.trio_ctl.proofs.same.are_blocks.Goals as goal

pub loop-i-preserved : goal.loop-i-preserved
loop-i-preserved c =
    let lent = c.args.lease.now.stands.blocks in
    let pages = c.args.pages.now in
    let i = c.loop-i.i in
    let on : c.is_page.result ≡ true = search rules in
    let here = block_at lent pages i c.index-pages-i.result _ _ _ c.is_page.result (omega arith) c.index-pages-i.is c.block_no.ensures c.block.ensures c.block_touched.ensures c.is_page.ensures in
    record {
      long = c.loop-i.invariant.long;
      so_far = same_more block_in lent pages i (here.0 on) c.loop-i.invariant.so_far;
    }
