use Rattle.trio_case.proofs.Words.{arith}
use Rattle.trio_case.proofs.Opening.{page_count}
use Rattle.trio_case.proofs.room.PageRoom.page_count.Goals as goal

pub returns : goal.returns
returns c = omega (arith, page_count c.args.case.now c.args.self.now c.requires, c.len.ensures)
