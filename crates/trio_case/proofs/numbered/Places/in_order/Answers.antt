use Rattle.trio_case.proofs.Words.{◌∙◌, ◌≡◌, NumberPlace, ap, arith, counted_numbers, length, length-map}
use Rattle.trio_case.proofs.Ordered.{order_length}
use Rattle.trio_case.proofs.numbered.Places.in_order.Goals as goal

pub set_order-requires : goal.set_order-requires
set_order-requires c =
    let p = c.self.inside in
    let many : length c.deref.result.now ≡ length p.places.items = ap length c.deref.ensures.value in
    let count = ap length c.self.invariant.rising ∙ order_length p.numbers.items in
    omega (arith, many, count, length-map p.places.items (λ (q : NumberPlace). q.no), ap length c.self.view_is, c.requires)

pub returns : goal.returns
returns c = rw (← c.self.view_is) (c.set_order.ensures ∙ ap counted_numbers c.deref.ensures.value ∙ c.self.invariant.rising)
