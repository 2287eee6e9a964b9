use Rattle.std.proofs.Common.{rules, arith}
use Rattle.trio_io.proofs.Places.{place_found, place_none, place_of_lt}
use Rattle.trio_io.proofs.counts.place.Goals as goal

pub returns-then-eq-clause-place : goal.returns-then-eq-clause-place
returns-then-eq-clause-place c = place_found _ _ _ c.index-names-i.result (omega arith) c.loop-i.invariant (search rules)

pub returns-clause-place : goal.returns-clause-place
returns-clause-place c = place_none _ _ (λ k e lt. c.loop-i.invariant k e (omega arith))

pub returns-clause-within : goal.returns-clause-within
returns-clause-within c = λ among. let lt = place_of_lt c.args.names.now c.args.name.now among in
    let all = place_none c.args.names.now c.args.name.now (λ k e before. c.loop-i.invariant k e (omega arith)) in
    omega arith
