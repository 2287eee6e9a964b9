use Rattle.trio_script.proofs.Words.{arith, false, true}
use Rattle.std.proofs.lemmas.Grind.{common_steps}
use Rattle.std.proofs.lemmas.List.Folds.{list_any-append}
use Rattle.trio_script.proofs.Numbers.{known, repeated, not_repeated}
use Rattle.trio_script.proofs.word.are_distinct.Goals as goal

pub returns-then-not-branch : goal.returns-then-not-branch
returns-then-not-branch c =
    let turn = c.loop-number.invariant in
    repeated c.args.numbers.now c.loop-number.number-index (omega arith) turn.rest
    (known c.in_ok-insert.field-0 true _ _ c.in_ok-insert.ensures.added (turn.seen _) c.if-not-branch.true)

pub loop-number-preserved : goal.loop-number-preserved
loop-number-preserved c =
    let turn = c.loop-number.invariant in
    record {
      seen = λ q. grind (arith, common_steps, list_any-append, turn.seen q);
      rest = not_repeated c.args.numbers.now c.loop-number.number-index (omega arith) turn.rest
          (known c.in_ok-insert.field-0 false _ _ c.in_ok-insert.ensures.added (turn.seen _) c.if-not-branch.false);
    }
