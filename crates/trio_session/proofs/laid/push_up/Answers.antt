use Rattle.trio_session.proofs.Words.{◌++◌, ◌+◌, ◌-◌, ◌∙◌, ◌∷◌, ◌≡◌, [], ap, append-nil, append_assoc, arith, count_up, length, sym}
use Rattle.std.proofs.Common.{length-append}
use Rattle.trio_session.proofs.Lists.{count_step, count_end}
use Rattle.trio_session.proofs.laid.push_up.Goals as goal

pub loop-number-init : goal.loop-number-init
loop-number-init c =
    let all : c.args.from + c.args.count - c.args.from ≡ c.args.count = omega arith in
    record { all = ap (λ n. c.args.numbers.now.items ++ count_up c.args.from n) all; room = omega (arith, all, c.requires.room) }

pub loop-number-preserved : goal.loop-number-preserved
loop-number-preserved c =
    let turn = c.loop-number in
    let items = c.push_reserved.ensures.items in
    let step = count_step turn.number (c.args.from + c.args.count) c.loop-number-test.true in
    record {
      all = ap (λ ns. ns ++ count_up (turn.number + 1) (c.args.from + c.args.count - (turn.number + 1))) items
          ∙ append_assoc turn.numbers.items (turn.number ∷ []) (count_up (turn.number + 1) (c.args.from + c.args.count - (turn.number + 1)))
          ∙ ap (λ ns. turn.numbers.items ++ ns) (sym step) ∙ turn.invariant.all;
      room = omega (arith, ap length items, length-append turn.numbers.items (turn.number ∷ []), c.push_reserved.ensures.capacity, turn.invariant.room);
    }

pub returns : goal.returns
returns c =
    let turn = c.loop-number in
    sym (ap (λ ns. turn.numbers.items ++ ns) (count_end turn.number (c.args.from + c.args.count) c.loop-number-test.false) ∙ append-nil turn.numbers.items) ∙ turn.invariant.all
