use Rattle.trio_commit.proofs.Words.{◌-◌, ◌∙◌, ap, arith, get_or, length, length-set}
use Rattle.trio_commit.proofs.Cells.{no_file, file_number, judged_turn}
use Rattle.trio_commit.proofs.rows.put_judged.Goals as goal

pub set-requires-clause-from_one : goal.set-requires-clause-from_one
set-requires-clause-from_one c =
    let turn = c.loop-left in
    let some = c.loop-left-test.true in
    let within = turn.invariant.within in
    (c.requires (get_or c.args.files.now (turn.left - 1) no_file).ino (file_number c.args.files.now (turn.left - 1) no_file (omega (arith, some, within)))).0

pub set-requires-clause-within : goal.set-requires-clause-within
set-requires-clause-within c =
    let turn = c.loop-left in
    let some = c.loop-left-test.true in
    let within = turn.invariant.within in
    let size = turn.invariant.size in
    let below = (c.requires (get_or c.args.files.now (turn.left - 1) no_file).ino (file_number c.args.files.now (turn.left - 1) no_file (omega (arith, some, within)))).1 in
    omega (arith, below, size)

pub loop-left-preserved : goal.loop-left-preserved
loop-left-preserved c =
    let turn = c.loop-left in
    let some = c.loop-left-test.true in
    let within = turn.invariant.within in
    let size = turn.invariant.size in
    let below = (c.requires (get_or c.args.files.now (turn.left - 1) no_file).ino (file_number c.args.files.now (turn.left - 1) no_file (omega (arith, some, within)))).1 in
    record {
      judged = judged_turn c.args.rows.now turn.rows c.set.new.self c.args.files.now turn.left no_file some within (omega (arith, below, size)) c.set.ensures turn.invariant.judged;
      size = ap length c.set.ensures ∙ length-set turn.rows _ _ ∙ size;
      within = omega (arith, within);
    }
