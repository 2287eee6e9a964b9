use Rattle.trio_proposal.proofs.Words.{◌<◌, Sheet, arith, fresh_sheet, map, subst, sym, take}
use Rattle.trio_proposal.proofs.Puts.{fresh_there, put_long, put_more, there_in}
use Rattle.trio_proposal.proofs.pages.put_fresh.Goals as goal

pub put_copy-requires : goal.put_copy-requires
put_copy-requires c =
    let pages = c.args.pages.now in
    let i = c.loop-page.page-index in
    let x : Sheet = record { page = c.no.result.0; bytes = c.page.result.now } in
    let there = fresh_there pages i c.page-item.result c.no.result c.page.result.now (omega arith) c.page-item.is c.no.ensures c.page.ensures in
    let long = put_long (take i (map fresh_sheet pages)) c.args.home.now.pages c.loop-page.home.pages c.args.marks.now.items c.loop-page.marks.items c.loop-page.invariant in
    subst (λ n. x.page < n) (sym long) (c.requires x (there_in (map fresh_sheet pages) i x there))

pub loop-page-preserved : goal.loop-page-preserved
loop-page-preserved c =
    let pages = c.args.pages.now in
    let i = c.loop-page.page-index in
    let x : Sheet = record { page = c.no.result.0; bytes = c.page.result.now } in
    let there = fresh_there pages i c.page-item.result c.no.result c.page.result.now (omega arith) c.page-item.is c.no.ensures c.page.ensures in
    put_more (map fresh_sheet pages) i x c.args.home.now.pages c.loop-page.home.pages c.put_copy.new.home.pages c.args.marks.now.items c.loop-page.marks.items c.put_copy.new.marks.items there c.loop-page.invariant c.in_ok-put_copy.ensures
