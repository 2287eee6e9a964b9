use Rattle.trio_judge_tests.proofs.Words.{◌∙◌, ◌≡◌, ap, arith, file_fits, fresh_sheet, list_all, sheet_fits, subst, sym, take_all, true}
use Rattle.trio_judge_tests.proofs.Fits.{all_fit}
use Rattle.trio_judge_tests.proofs.whole.bundle_fits.Goals as goal

pub returns : goal.returns
returns c = λ yes x i.
    let n = c.args.count in
    let items = c.writes-file-items.result.now in
    let all : list_all (file_fits n) items ≡ true = ap (list_all (file_fits n)) (sym (take_all c.loop-file.file-index items (omega arith))) ∙ c.loop-file.invariant in
    let writes = subst (λ ws. list_all (file_fits n) ws ≡ true) c.writes-file-items.ensures all in
    let pages = subst (λ ps. list_all (λ p. sheet_fits n (fresh_sheet p)) ps ≡ true) c.pages.ensures (sym c.fresh_fit.ensures ∙ yes) in
    all_fit n c.args.bundle.now writes pages x i
