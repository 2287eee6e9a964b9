use Rattle.trio_case.proofs.Words.{◌∙◌, ◌≡◌, AreRising, None, NumberPlace, Some, answers_always, ap, counted_numbers, option_and_then, option_map, place_of, refl, result_ok, rules, slice_get, slice_get_read, subst, sym}
use Rattle.trio_case.proofs.Counted.{place_found, search_found}
use Rattle.trio_case.proofs.Ordered.{order_rises}
use Rattle.trio_case.proofs.numbered.Places.find.Goals as goal

pub returns-in_err-at : goal.returns-in_err-at
returns-in_err-at c =
    let p = c.self.inside in
    let facts = c.binary_search_by_key.ensures in
    let by_number = facts.position (λ (q : NumberPlace). q.no) (answers_always _ _ _ (λ f a r g h. search rules)) in
    let up : AreRising (counted_numbers p.places.items) = subst AreRising (sym c.self.invariant.rising) (order_rises p.numbers.items c.self.invariant.differ) in
    let place : place_of c.args.no (counted_numbers p.places.items) ≡ result_ok c.binary_search_by_key.result = rw c.deref.ensures.value at (search_found c.deref.result.now c.args.no c.binary_search_by_key.result (rw c.deref.ensures.value up) facts.bound by_number) in
    let none : place_of c.args.no p.numbers.items ≡ None =
    place_found p.numbers.items p.places.items c.args.no c.self.invariant
    ∙ ap (λ o. option_map (λ (q : NumberPlace). q.at) (option_and_then (slice_get p.places.items) o)) (place ∙ sym c.in_err-at.ensures.value) in
    rw (← c.self.view_is) (c.from_residual.ensures ∙ sym none)

pub returns : goal.returns
returns c =
    let p = c.self.inside in
    let facts = c.binary_search_by_key.ensures in
    let by_number = facts.position (λ (q : NumberPlace). q.no) (answers_always _ _ _ (λ f a r g h. search rules)) in
    let up : AreRising (counted_numbers p.places.items) = subst AreRising (sym c.self.invariant.rising) (order_rises p.numbers.items c.self.invariant.differ) in
    let place : place_of c.args.no (counted_numbers p.places.items) ≡ result_ok c.binary_search_by_key.result = rw c.deref.ensures.value at (search_found c.deref.result.now c.args.no c.binary_search_by_key.result (rw c.deref.ensures.value up) facts.bound by_number) in
    let there : slice_get p.places.items c.in_ok-at.at ≡ Some c.in_ok-get.field-0.now = slice_get_read p.places.items _ c.in_ok-at.at c.in_ok-get.field-0.now refl (search rules) (search rules) in
    let found : place_of c.args.no p.numbers.items ≡ Some c.in_ok-get.field-0.now.at =
    place_found p.numbers.items p.places.items c.args.no c.self.invariant
    ∙ ap (λ o. option_map (λ (q : NumberPlace). q.at) (option_and_then (slice_get p.places.items) o)) (place ∙ sym c.in_ok-at.ensures.value)
    ∙ ap (option_map (λ (q : NumberPlace). q.at)) there in
    rw (← c.self.view_is) (sym found)
