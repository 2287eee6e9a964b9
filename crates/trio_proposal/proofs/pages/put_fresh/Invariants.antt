use Rattle.trio_proposal.proofs.Words.{ArePut, fresh_sheet, map, take}
use Rattle.trio_proposal.proofs.pages.put_fresh.Given as goal

abbrev pub invariant-loop-page : goal.invariant-loop-page
invariant-loop-page l = ArePut (take l.page-index (map fresh_sheet l.pages)) l.fn.home.pages l.home.pages l.fn.marks.items l.marks.items
