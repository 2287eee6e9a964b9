use Rattle.trio_case.proofs.Words.{◌∙◌, ◌≡◌, None, ap, kept_page, option_and_then, place_of, refl, result_ok, rules, slice_get, slice_get_past, slice_get_read, sym}
use Rattle.trio_case.proofs.Ordered.{found_place}
use Rattle.trio_case.proofs.kept.KeptPages.find.Goals as goal

pub returns-in_err-at : goal.returns-in_err-at
returns-in_err-at c =
    let kept = c.args.self.now in
    let place : place_of c.args.no kept.order.items ≡ result_ok c.binary_search.result = rw c.deref.ensures.value at (found_place c.deref.result.now c.args.no c.binary_search.result (rw c.deref.ensures.value c.requires) c.binary_search.ensures.position) in
    let none : kept_page kept c.args.no ≡ None = ap (option_and_then (slice_get kept.pages.items)) (place ∙ sym c.in_err-at.ensures.value) in
    rw c.from_residual.ensures none

pub returns-in_err-get : goal.returns-in_err-get
returns-in_err-get c =
    let kept = c.args.self.now in
    let place : place_of c.args.no kept.order.items ≡ result_ok c.binary_search.result = rw c.deref.ensures.value at (found_place c.deref.result.now c.args.no c.binary_search.result (rw c.deref.ensures.value c.requires) c.binary_search.ensures.position) in
    let none : kept_page kept c.args.no ≡ None = ap (option_and_then (slice_get kept.pages.items)) (place ∙ sym c.in_ok-at.ensures.value) ∙ slice_get_past kept.pages.items c.in_ok-at.at (search rules) in
    rw c.from_residual-in_err-get.ensures none

pub returns : goal.returns
returns c =
    let kept = c.args.self.now in
    let place : place_of c.args.no kept.order.items ≡ result_ok c.binary_search.result = rw c.deref.ensures.value at (found_place c.deref.result.now c.args.no c.binary_search.result (rw c.deref.ensures.value c.requires) c.binary_search.ensures.position) in
    record { listed = place ∙ sym c.in_ok-at.ensures.value; page = slice_get_read kept.pages.items _ c.in_ok-at.at c.in_ok-get.field-0.now refl (search rules) (search rules) }
