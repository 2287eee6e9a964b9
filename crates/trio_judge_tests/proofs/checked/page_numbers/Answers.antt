use Rattle.trio_judge_tests.proofs.Words.{◌++◌, ◌∙◌, FreshParts, ap, arith, flat_map, map, sym, take_all}
use Rattle.trio_case.proofs.Making.{bundle_numbers, file_numbers}
use Rattle.trio_judge_tests.proofs.checked.page_numbers.Goals as goal

pub returns : goal.returns
returns c =
    let b = c.args.bundle.now in
    let pages = c.pages-page-items.result.now in
    c.loop-page.invariant
    ∙ ap (λ ps. flat_map file_numbers b.writes ++ map (λ (p : FreshParts). p.no.0) ps) (take_all c.loop-page.page-index pages (omega arith) ∙ c.pages-page-items.ensures)
    ∙ sym (bundle_numbers b)
