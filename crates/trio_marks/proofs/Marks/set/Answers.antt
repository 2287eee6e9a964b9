use Rattle.std.proofs.Common.{true, slice_set, ap, ◌∙◌}
use Rattle.trio_marks.proofs.RoundLemmas.{marked_in-set, set_within}
use Rattle.trio_marks.proofs.Marks.set.Goals as goal

pub invariant_of-self : goal.invariant_of-self
invariant_of-self c = (c.self.invariant.0, set_within c.self.inside.round c.self.inside.rounds.items c.args.i c.self.invariant.1)

pub returns-clause-marked : goal.returns-clause-marked
returns-clause-marked c =
    marked_in-set c.self.inside.round c.self.inside.rounds.items c.args.i ∙ ap (λ v. slice_set v c.args.i true) c.self.view_is
