use Rattle.std.proofs.Common.{sym, ◌∙◌}
use Rattle.trio_auxdir.specs.Slots.{slot_on}
use Rattle.trio_auxdir.proofs.Scans.{nowhere_more, other_slot}
use Rattle.trio_lend_tests.proofs.directories.is_first.Goals as goal

pub loop-before-preserved : goal.loop-before-preserved
loop-before-preserved c =
    let differs = sym c.eq.ensures ∙ c.if-eq.false in
    let here = rw c.slot_name.ensures at differs in
    nowhere_more c.args.name.now (slot_on 16384 c.args.page.now) c.loop-before.before c.loop-before.invariant
    (other_slot (slot_on 16384 c.args.page.now c.loop-before.before) c.args.name.now here)
