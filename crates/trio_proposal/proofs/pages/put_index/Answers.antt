use Rattle.trio_proposal.proofs.Words.{◌<◌, LentPage, List, Sheet, lent_sheet, map, subst, sym, take}
use Rattle.trio_proposal.proofs.Puts.{lent_there, put_long, put_more, there_in}
use Rattle.trio_proposal.proofs.pages.put_index.Goals as goal

pub put_copy-requires : goal.put_copy-requires
put_copy-requires c =
    let pages : List LentPage = c.args.lease.now.stands.index in
    let i = c.loop-i.i in
    let x : Sheet = record { page = c.in-Some-Some.no.0; bytes = c.in-Some-Some.page.now } in
    let there = lent_there pages i c.in-Some-Some.no c.in-Some-Some.page.now c.in-Some-Some.ensures c.in-Some-Some.ensures' in
    let long = put_long (take i (map lent_sheet pages)) c.args.home.now.pages c.loop-i.home.pages c.args.marks.now.items c.loop-i.marks.items c.loop-i.invariant in
    subst (λ n. x.page < n) (sym long) (c.requires x (there_in (map lent_sheet pages) i x there))

pub loop-i-preserved : goal.loop-i-preserved
loop-i-preserved c =
    let pages : List LentPage = c.args.lease.now.stands.index in
    let i = c.loop-i.i in
    let x : Sheet = record { page = c.in-Some-Some.no.0; bytes = c.in-Some-Some.page.now } in
    let there = lent_there pages i c.in-Some-Some.no c.in-Some-Some.page.now c.in-Some-Some.ensures c.in-Some-Some.ensures' in
    put_more (map lent_sheet pages) i x c.args.home.now.pages c.loop-i.home.pages c.put_copy.new.home.pages c.args.marks.now.items c.loop-i.marks.items c.put_copy.new.marks.items there c.loop-i.invariant c.in_ok-put_copy.ensures
