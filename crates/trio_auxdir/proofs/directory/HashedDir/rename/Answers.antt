use Rattle.trio_auxdir.proofs.Words.{◌∙◌, None, Some, refl}
use Rattle.trio_auxdir.proofs.SlotLists.{nowhere_emptied}
use Rattle.trio_auxdir.proofs.Kept.{no_place, number_within, slice_get-set, set_again, kept_renamed, set-with_slot, place_of-renamed}
use Rattle.trio_auxdir.proofs.directory.HashedDir.rename.Goals as goal

pub put_name-requires-clause-new : goal.put_name-requires-clause-new
put_name-requires-clause-new c =
    let new = rw (← c.self.view_is) at c.requires.new in
    rw c.clear_name-number.ensures.slots
    (nowhere_emptied c.args.to c.self.inside.slots.items c.clear_name-number.result (no_place c.args.to c.self.inside.slots.items new))

pub put_name-requires-clause-empty : goal.put_name-requires-clause-empty
put_name-requires-clause-empty c =
    rw c.clear_name-number.ensures.slots
    (slice_get-set c.self.inside.slots.items c.clear_name-number.result None (number_within c.args.from.now c.self.inside.slots.items
    c.clear_name-number.result c.clear_name-number.ensures.number))

pub invariant_of-self : goal.invariant_of-self
invariant_of-self c =
    let n = c.clear_name-number.result in
    let last = set_again c.self.inside.slots.items c.clear_name-number.new.slots.items c.put_name.new.slots.items n (Some c.args.to)
    c.clear_name-number.ensures.slots c.put_name.ensures.slots in
    kept_renamed c.self.inside.slots.items c.put_name.new.slots.items c.self.inside.order.items c.put_name.new.order.items c.self.inside.first n
    c.args.from.now c.args.to
    c.self.invariant c.clear_name-number.ensures.number last c.put_name.ensures.index

pub returns-clause-renamed : goal.returns-clause-renamed
returns-clause-renamed c =
    let n = c.clear_name-number.result in
    let last = set_again c.self.inside.slots.items c.clear_name-number.new.slots.items c.put_name.new.slots.items n (Some c.args.to)
    c.clear_name-number.ensures.slots c.put_name.ensures.slots
    ∙ set-with_slot c.args.from.now (Some c.args.to) c.self.inside.slots.items n c.clear_name-number.ensures.number in
    rw (← c.self.view_is, last, c.put_name.ensures.capacity, c.clear_name-number.ensures.capacity) refl

pub returns-clause-found : goal.returns-clause-found
returns-clause-found c = λ other.
    let new = rw (← c.self.view_is) at c.requires.new in
    rw (← c.self.view_is)
    (place_of-renamed c.self.inside.slots.items c.clear_name-number.new.slots.items c.put_name.new.slots.items c.clear_name-number.result
    c.args.from.now c.args.to other c.self.invariant.index.differ
    c.clear_name-number.ensures.number (no_place c.args.to c.self.inside.slots.items new) c.clear_name-number.ensures.slots c.put_name.ensures.slots)
