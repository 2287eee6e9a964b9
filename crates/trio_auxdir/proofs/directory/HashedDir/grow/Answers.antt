use Rattle.trio_auxdir.proofs.Words.{◌+◌, ◌<◌, ◌^◌, arith, length}
use Rattle.trio_auxdir.proofs.Kept.{kept_empties, place_of-empties}
use Rattle.trio_auxdir.proofs.directory.HashedDir.grow.Goals as goal

pub invariant_of-self : goal.invariant_of-self
invariant_of-self c =
    let room = rw (← c.self.view_is) at c.requires.room in
    let few : length c.self.inside.slots.items + 16 < 2 ^ 32 = omega (arith, room) in
    kept_empties c.self.inside.slots.items c.add_empties.new.slots.items c.self.inside.order.items c.self.inside.first c.self.invariant
    c.add_empties.ensures.slots few

pub returns-clause-found : goal.returns-clause-found
returns-clause-found c =
    λ name. rw (← c.self.view_is) (place_of-empties c.self.inside.slots.items c.add_empties.new.slots.items 16 name c.add_empties.ensures.slots)
