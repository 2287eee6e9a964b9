use Rattle.trio_proposal.proofs.Words.{ArePut, lent_sheet, map, take}
use Rattle.trio_proposal.proofs.pages.put_index.Given as goal

abbrev pub invariant-loop-i : goal.invariant-loop-i
invariant-loop-i l = ArePut (take l.i (map lent_sheet l.lease.stands.index)) l.fn.home.pages l.home.pages l.fn.marks.items l.marks.items
