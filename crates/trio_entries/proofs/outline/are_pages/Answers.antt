use Rattle.trio_entries.proofs.Words.{◌<◌, ◌↔◌, ◌∙◌, ◌≡◌, ◌≤◌, FreshParts, LentFile, List, ap, arith, false≢true, get_or, length, map, subst, true}
use Rattle.trio_entries.proofs.Outlined.{all_behind, not_behind}
use Rattle.trio_entries.proofs.outline.are_pages.Goals as goal

pub returns-in-None : goal.returns-in-None
returns-in-None c =
    let b = c.args.bundle.now in
    let i = c.loop-lease.lease-index in
    let f = c.lease-item.result in
    let within : i < length b.writes = omega (arith, c.loop-lease-test.true, ap length c.writes-lease-items.ensures) in
    let here : f ≡ get_or b.writes i f = c.lease-item.is ∙ ap (λ (fs : List LentFile). get_or fs i f) c.writes-lease-items.ensures in (
      λ on. absurd (false≢true on),
      λ same. absurd (not_behind b i f c.args.pages.now c.loop-lease.rest.now within here c.loop-lease.invariant c.in-None.ensures.none same),
    )

pub returns : goal.returns
returns c =
    let b = c.args.bundle.now in
    let far : length b.writes ≤ c.loop-lease.lease-index = omega (arith, c.loop-lease-test.false, ap length c.writes-lease-items.ensures) in
    all_behind b c.loop-lease.lease-index c.args.pages.now c.loop-lease.rest.now c.is_source.result far c.loop-lease.invariant
    (subst (λ (xs : List FreshParts). (c.is_source.result ≡ true) ↔ (c.loop-lease.rest.now ≡ map (λ (p : FreshParts). p.no.0) xs)) c.pages.ensures c.is_source.ensures)
