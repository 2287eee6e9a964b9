use Rattle.trio_judge_tests.proofs.Words.{◌∙◌, ◌≡◌, CanBeJudged, [], ap, arith, bundle_in, eqb-true, image_of, length, map, sheet_fits, subst, sym, true}
use Rattle.std.proofs.lemmas.List.{nil_from_length}
use Rattle.trio_lease.specs.declared.parts.HoldParts.{HoldParts}
use Rattle.trio_judge_tests.proofs.Fits.{can_be_judged}
use Rattle.trio_judge_tests.proofs.whole.can_be_judged.Goals as goal

pub returns : goal.returns
returns c = λ root yes.
    let a = c.args in
    let b = a.bundle.now in
    let none : b.holds ≡ [] = nil_from_length b.holds (ap length (sym c.holds.ensures) ∙ eqb-true (length c.holds.result.now) 0 (sym c.is_empty.ensures ∙ c.if-not-is_empty.false)) in
    let fits = c.bundle_fits.ensures c.if-not-bundle_fits.false in
    subst (λ pages. CanBeJudged (image_of pages root a.range a.rows.now []) (bundle_in b)) (sym c.are_whole.ensures.pages)
    (can_be_judged a.home.now.pages root a.range a.rows.now b (c.are_whole.ensures.whole yes) (omega arith) (omega arith) (omega arith) (omega arith)
    (c.are_placed.ensures c.if-not-are_placed.false)
    (λ x i. subst (λ n. sheet_fits n x ≡ true) c.len-else-not-are_placed.ensures.count (fits x i))
    (ap (map (λ (h : HoldParts). h.ino)) none))
