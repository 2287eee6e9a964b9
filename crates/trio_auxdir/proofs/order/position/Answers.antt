use Rattle.trio_auxdir.proofs.Words.{◌+◌, ◌-◌, ◌/◌, ◌<◌, ◌∙◌, arith, length, nth_name, slot_at, sym, ℕ}
use Rattle.trio_auxdir.proofs.Sought.{above_more, below_more, greater_less, same_at}
use Rattle.trio_auxdir.proofs.order.position.Goals as goal

pub loop-low-preserved-in-Less : goal.loop-low-preserved-in-Less
loop-low-preserved-in-Less c =
    let middle : ℕ = c.loop-low.low + (c.loop-low.high - c.loop-low.low) / 2 in
    let test = c.loop-low-test.true in
    let lt : middle < c.loop-low.high = omega arith in
    let within : middle < length c.args.order.now = omega (arith, c.loop-low.invariant.within) in
    record {
      ordered = omega (arith, lt);
      within = c.loop-low.invariant.within;
      below = below_more (slot_at c.args.slots.now) c.args.order.now c.args.name.now middle c.requires within (sym c.compare.ensures ∙ c.in-Less.is);
      above = c.loop-low.invariant.above;
    }

pub returns-in-Equal-clause-found : goal.returns-in-Equal-clause-found
returns-in-Equal-clause-found c =
    let middle : ℕ = c.loop-low.low + (c.loop-low.high - c.loop-low.low) / 2 in
    let test = c.loop-low-test.true in
    let within : middle < length c.args.order.now = omega (arith, c.loop-low.invariant.within) in
    same_at (slot_at c.args.slots.now) c.args.order.now c.args.name.now middle c.requires within (sym c.compare.ensures ∙ c.in-Equal.is)

pub loop-low-preserved : goal.loop-low-preserved
loop-low-preserved c =
    let middle : ℕ = c.loop-low.low + (c.loop-low.high - c.loop-low.low) / 2 in
    let test = c.loop-low-test.true in
    let within : middle < length c.args.order.now = omega (arith, c.loop-low.invariant.within) in
    let less = greater_less (nth_name (slot_at c.args.slots.now) c.args.order.now middle) c.args.name.now (sym c.compare.ensures ∙ c.in-Greater.is) in
    record {
      ordered = omega arith;
      within = omega (arith, within);
      below = c.loop-low.invariant.below;
      above = above_more (slot_at c.args.slots.now) c.args.order.now c.args.name.now middle c.requires less;
    }
