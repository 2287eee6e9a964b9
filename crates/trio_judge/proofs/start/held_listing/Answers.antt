use Rattle.trio_judge.proofs.Words.{◌∙◌, ◌≡◌, ap, arith, bundle_in, length, length-map, length-take-le}
use Rattle.trio_lease.specs.declared.parts.HoldParts.{HoldParts}
use Rattle.trio_case.proofs.Ordered.{order_length}
use Rattle.trio_judge.proofs.start.held_listing.Goals as goal

pub add_held-requires : goal.add_held-requires
add_held-requires c =
    let holds = c.args.case.now.bundle.holds in
    let items = c.held_numbers-ino-items.result.now in
    let many : length items ≡ length holds = ap length c.held_numbers-ino-items.ensures ∙ order_length (bundle_in c.args.case.now.bundle).holds ∙ length-map holds (λ (h : HoldParts). h.ino) in
    let held = ap (λ l. length l.held) c.loop-ino.invariant.listing in
    let some = length-take-le c.loop-ino.ino-index items (omega arith) in
    omega (arith, many, held, some, ap (λ r. r.held) c.loop-ino.invariant.room, c.requires.places)
