use Rattle.trio_case.proofs.Words.{◌∙◌}
use Rattle.trio_case.proofs.Asked.{found_among}
use Rattle.trio_case.proofs.number_set.NumberSet.has.Goals as goal

pub returns : goal.returns
returns c =
    rw (← c.self.view_is) (c.is_ok.ensures.value ∙ found_among c.self.inside.numbers.items c.args.no c.binary_search.result c.self.invariant (rw c.deref.ensures.value at c.binary_search.ensures.position))
