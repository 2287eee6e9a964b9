use Rattle.trio_judge_tests.proofs.Words.{◌<◌, ◌≡◌, ◌≢◌, IsTrue, Row, Some, arith, is_core, row_in}
use Rattle.trio_proposal.proofs.Keeping.{live_below}
use Rattle.trio_judge_tests.proofs.Fits.{one_more_below}
use Rattle.trio_judge_tests.proofs.whole.are_placed.Goals as goal

pub loop-ino-preserved : goal.loop-ino-preserved
loop-ino-preserved c =
    one_more_below
    (λ n. (r : Row) → row_in c.args.rows.now n ≡ Some r → n ≢ 1 → (r.slot < 16) × IsTrue (is_core c.args.range r.page))
    c.loop-ino.ino c.loop-ino.invariant (c.is_placed.ensures c.if-not-is_placed.false)

pub returns : goal.returns
returns c = λ yes n r e one.
    let below = live_below c.args.rows.now n r e in
    c.loop-ino.invariant n (omega (arith, below)) r e one
