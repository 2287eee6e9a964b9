use Rattle.trio_proposal.proofs.Words.{ArePut, flat_map, lease_sheets, take}
use Rattle.trio_proposal.proofs.pages.put_leases.Given as goal

abbrev pub invariant-loop-lease : goal.invariant-loop-lease
invariant-loop-lease l = ArePut (flat_map lease_sheets (take l.lease-index l.leases)) l.fn.home.pages l.home.pages l.fn.marks.items l.marks.items
