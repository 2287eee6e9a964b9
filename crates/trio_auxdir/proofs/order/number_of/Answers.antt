use Rattle.trio_auxdir.proofs.Words.{sym}
use Rattle.trio_auxdir.proofs.Indexes.{absent_at, found_at}
use Rattle.trio_auxdir.proofs.order.number_of.Goals as goal

pub returns-in-Ok : goal.returns-in-Ok
returns-in-Ok c = sym (found_at c.args.slots.now c.args.order.now c.args.name.now c.in-Ok.at c.requires c.in-Ok.ensures.found)

pub returns-in-Err : goal.returns-in-Err
returns-in-Err c = sym (absent_at c.args.slots.now c.args.order.now c.args.name.now c.in-Err.field-0 c.requires c.in-Err.ensures.absent)
