use Rattle.trio_auxdir.proofs.Words.{sym}
use Rattle.trio_auxdir.proofs.SlotLists.{slot_there}
use Rattle.trio_auxdir.proofs.Kept.{slot_number-place_at}
use Rattle.trio_auxdir.proofs.directory.HashedDir.find.Goals as goal

pub returns-clause-there : goal.returns-clause-there
returns-clause-there c =
    let n = c.in_ok-number.number in
    let is = rw c.deref.ensures.value at c.in_ok-number.ensures in
    rw (c.of.ensures, ← c.self.view_is, slot_number-place_at n) (slot_there c.args.name.now c.self.inside.slots.items n (sym is))
