use Rattle.std.proofs.Common.{arith}
use Rattle.trio_marks.proofs.RoundLemmas.{zero_within, none_of_zero}
use Rattle.trio_marks.proofs.Marks.with.Goals as goal

pub invariant_of-result : goal.invariant_of-result
invariant_of-result c =
    (omega arith, zero_within c.args.n 1 c.in_ok-vec.field-0.items (c.in_ok-vec.ensures.items_if_clones_equal (λ y e. e)))

pub returns : goal.returns
returns c = none_of_zero c.args.n c.in_ok-vec.field-0.items (c.in_ok-vec.ensures.items_if_clones_equal (λ y e. e))
