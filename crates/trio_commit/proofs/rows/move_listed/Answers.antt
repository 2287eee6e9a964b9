use Rattle.trio_commit.proofs.Words.{◌-◌, ◌∙◌, ap, arith, get_or, length, length-set}
use Rattle.trio_commit.proofs.Cells.{no_entry, entry_number, moved_turn}
use Rattle.trio_commit.proofs.rows.move_listed.Goals as goal

pub move_row-requires-clause-some : goal.move_row-requires-clause-some
move_row-requires-clause-some c =
    let turn = c.loop-left in
    let some = c.loop-left-test.true in
    let within = turn.invariant.within in
    (c.requires (get_or c.args.entries.now (turn.left - 1) no_entry).ino (entry_number c.args.entries.now (turn.left - 1) no_entry (omega (arith, some, within)))).0

pub move_row-requires-clause-within : goal.move_row-requires-clause-within
move_row-requires-clause-within c =
    let turn = c.loop-left in
    let some = c.loop-left-test.true in
    let within = turn.invariant.within in
    let size = turn.invariant.size in
    let below = (c.requires (get_or c.args.entries.now (turn.left - 1) no_entry).ino (entry_number c.args.entries.now (turn.left - 1) no_entry (omega (arith, some, within)))).1 in
    omega (arith, below, size)

pub loop-left-preserved : goal.loop-left-preserved
loop-left-preserved c =
    let turn = c.loop-left in
    let some = c.loop-left-test.true in
    let within = turn.invariant.within in
    let size = turn.invariant.size in
    let below = (c.requires (get_or c.args.entries.now (turn.left - 1) no_entry).ino (entry_number c.args.entries.now (turn.left - 1) no_entry (omega (arith, some, within)))).1 in
    record {
      moved = moved_turn c.args.rows.now turn.rows c.move_row.new.rows c.args.entries.now turn.left no_entry some within (omega (arith, below, size)) c.move_row.ensures turn.invariant.moved;
      size = ap length c.move_row.ensures ∙ length-set turn.rows _ _ ∙ size;
      within = omega (arith, within);
    }
