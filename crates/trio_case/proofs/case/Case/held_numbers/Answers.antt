use Rattle.trio_case.proofs.Words.{◌∙◌, ap, in_order}
use Rattle.trio_case.proofs.case.Case.held_numbers.Goals as goal

pub returns : goal.returns
returns c = rw (← c.self.view_is) (c.deref.ensures.value ∙ c.self.invariant.0.held_order ∙ ap in_order c.self.invariant.0.holds)
