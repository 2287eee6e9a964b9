use Rattle.trio_auxdir.proofs.Kept.{kept_emptied, place_of-emptied}
use Rattle.trio_auxdir.proofs.directory.HashedDir.remove.Goals as goal

pub invariant_of-self : goal.invariant_of-self
invariant_of-self c =
    rw c.min-self-inside.ensures
    (kept_emptied c.self.inside.slots.items c.clear_name-number.new.slots.items c.self.inside.order.items c.clear_name-number.new.order.items
    c.self.inside.first c.clear_name-number.result c.args.name.now
    c.self.invariant c.clear_name-number.ensures.number c.clear_name-number.ensures.slots c.clear_name-number.ensures.index)

pub returns-clause-found : goal.returns-clause-found
returns-clause-found c = λ other. rw (← c.self.view_is)
    (place_of-emptied c.self.inside.slots.items c.clear_name-number.new.slots.items c.clear_name-number.result c.args.name.now other
    c.self.invariant.index.differ c.clear_name-number.ensures.number c.clear_name-number.ensures.slots)
