use Rattle.trio_ctl.proofs.Words.{◌≡◌, arith, index_in, rules, same_more, true}
use Rattle.trio_ctl.proofs.Sames.{index_at}
use Rattle.trio_ctl.proofs.same.are_index.Goals as goal

pub loop-i-preserved : goal.loop-i-preserved
loop-i-preserved c =
    let lent = c.args.lease.now.stands.index in
    let pages = c.args.pages.now in
    let i = c.loop-i.i in
    let on : c.is_page.result ≡ true = search rules in
    let here = index_at lent pages i c.index-pages-i.result _ _ c.is_page.result (omega arith) c.index-pages-i.is c.index_no.ensures c.index.ensures c.is_page.ensures in
    record {
      long = c.loop-i.invariant.long;
      so_far = same_more index_in lent pages i (here.0 on) c.loop-i.invariant.so_far;
    }
