use Rattle.trio_case.proofs.Words.{arith, slice_get-get_or}
use Rattle.trio_case.proofs.Counted.{counted_more, numbers_more}
use Rattle.trio_case.proofs.numbered.set_places.Goals as goal

pub loop-at-preserved : goal.loop-at-preserved
loop-at-preserved c =
    let ns = c.args.numbers.now in
    let at = c.loop-at.at in
    let turn = c.loop-at.invariant in
    let there = slice_get-get_or ns at 0 (omega arith) in
    record {
      numbers = numbers_more ns c.loop-at.places.items c.push.new.list.items _ at c.push.ensures.items there turn.numbers;
      counted = counted_more ns c.loop-at.places.items c.push.new.list.items _ c.push.ensures.items there turn.counted;
      len = omega (arith, c.push.ensures.len, turn.len);
      capacity = omega (arith, c.push.ensures.capacity, turn.capacity);
    }
