use Rattle.trio_raw.proofs.Words.{◌++◌, ◌+◌, ◌<◌, ◌∙◌, ap, arith, length, sym}
use Rattle.std.proofs.lemmas.List.{length-drop}
use Rattle.trio_raw.proofs.Places.{once_more, moved_more, left_more, passed_more, removed_count, kept_count}
use Rattle.trio_raw.proofs.lent.move_all.Goals as goal

pub loop-number-preserved : goal.loop-number-preserved
loop-number-preserved g c =
    let turn = c.loop-number in
    let within : turn.number-index < length c.args.numbers.now = omega arith in
    let number = g.T.Lent.number_of in
    let taken = c.take_one.ensures in
    let after = c.take_one.new.things.items in
    let found = sym taken.taken ∙ c.in-Some.is in
    let gone = removed_count number turn.things.items after c.args.numbers.now turn.number-index taken.rest c.in-Some.thing found in
    record {
      once = once_more number turn.things.items after c.args.numbers.now turn.number-index within turn.invariant.once taken.rest;
      moved =
          moved_more number turn.things.items after c.args.numbers.now turn.number-index within turn.invariant.once taken.rest turn.taken.items c.push.new.self.items c.in-Some.thing found c.in_default-push.ensures.items
          ∙ turn.invariant.moved;
      left = left_more number turn.things.items after c.args.numbers.now turn.number-index within turn.invariant.once taken.rest ∙ turn.invariant.left;
      count = omega (arith, turn.invariant.count, gone, c.in_default-push.ensures.len);
      room = omega (arith, length-drop turn.number-index c.args.numbers.now, length-drop (turn.number-index + 1) c.args.numbers.now, c.in_default-push.ensures.len);
      capacity = taken.capacity ∙ turn.invariant.capacity;
    }

pub loop-number-preserved-in_default : goal.loop-number-preserved-in_default
loop-number-preserved-in_default g c =
    let turn = c.loop-number in
    let within : turn.number-index < length c.args.numbers.now = omega arith in
    let number = g.T.Lent.number_of in
    let taken = c.take_one.ensures in
    let after = c.take_one.new.things.items in
    let missing = sym taken.taken ∙ c.in_default.is in
    let same = kept_count number turn.things.items after c.args.numbers.now turn.number-index taken.rest missing in
    record {
      once = once_more number turn.things.items after c.args.numbers.now turn.number-index within turn.invariant.once taken.rest;
      moved =
          ap (λ l. turn.taken.items ++ l) (passed_more number turn.things.items after c.args.numbers.now turn.number-index within turn.invariant.once taken.rest missing)
          ∙ turn.invariant.moved;
      left = left_more number turn.things.items after c.args.numbers.now turn.number-index within turn.invariant.once taken.rest ∙ turn.invariant.left;
      count = omega (arith, turn.invariant.count, same);
      room = omega (arith, length-drop turn.number-index c.args.numbers.now, length-drop (turn.number-index + 1) c.args.numbers.now);
      capacity = taken.capacity ∙ turn.invariant.capacity;
    }
