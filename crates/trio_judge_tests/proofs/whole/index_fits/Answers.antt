use Rattle.trio_judge_tests.proofs.Words.{◌∙◌, LentPage, List, Sheet, lent_sheet, lent_there, map, sheet_fits, sym}
use Rattle.trio_judge_tests.proofs.Fits.{one_passes}
use Rattle.trio_judge_tests.proofs.whole.index_fits.Goals as goal

pub loop-at-preserved : goal.loop-at-preserved
loop-at-preserved c =
    let pages : List LentPage = c.args.file.now.stands.index in
    let x : Sheet = record { page = c.in-Some-Some.no.0; bytes = c.in-Some-Some.page.now } in
    one_passes (sheet_fits c.args.count) (map lent_sheet pages) c.loop-at.at x
    (lent_there pages c.loop-at.at c.in-Some-Some.no c.in-Some-Some.page.now c.in-Some-Some.ensures c.in-Some-Some.ensures')
    (sym c.page_fits.ensures ∙ c.if-not-page_fits.false) c.loop-at.invariant
