use Rattle.trio_case.proofs.Words.{ap, arith, flat_map, length, take_all}
use Rattle.trio_case.proofs.Making.{bundle_length, file_numbers}
use Rattle.trio_case.proofs.kept.page_count.Goals as goal

pub loop-lease-init : goal.loop-lease-init
loop-lease-init c = omega (arith, ap length c.pages-count.ensures)

pub returns : goal.returns
returns c =
    let b = c.args.bundle.now in
    let writes = ap length c.writes-writes.ensures in
    let all = ap (λ fs. length (flat_map file_numbers fs)) (take_all c.loop-lease.lease-index b.writes (omega (arith, writes))) in
    omega (arith, c.loop-lease.invariant, all, bundle_length b)
