use Rattle.trio_auxdir.proofs.Words.{◌∙◌, ◌≡◌, None, Some, [], length, rules, set_at}
use Rattle.trio_auxdir.proofs.SlotLists.{slot_with-push}
use Rattle.trio_auxdir.proofs.Indexes.{index_push, slice_get-push}
use Rattle.trio_auxdir.proofs.index.add_slot.Goals as goal

pub put_name-requires-clause-index : goal.put_name-requires-clause-index
put_name-requires-clause-index c = rw c.push_reserved.ensures.items (index_push c.args.slots.now.items c.args.order.now.items c.requires.index)

pub put_name-requires-clause-new : goal.put_name-requires-clause-new
put_name-requires-clause-new c =
    let new = rw c.in-Some.is at c.requires.new in
    rw c.push_reserved.ensures.items (slot_with-push c.in-Some.name c.args.slots.now.items ∙ new)

pub put_name-requires-clause-empty : goal.put_name-requires-clause-empty
put_name-requires-clause-empty c =
    let len : c.len-number.result ≡ length c.args.slots.now.items = search rules in
    rw c.push_reserved.ensures.items (slice_get-push c.args.slots.now.items None c.len-number.result len)

pub returns-in-Some-clause-slots : goal.returns-in-Some-clause-slots
returns-in-Some-clause-slots c =
    let len : length c.args.slots.now.items ≡ c.len-number.result = search rules in
    rw (c.put_name.ensures.slots, c.push_reserved.ensures.items, c.in-Some.is)
    (set_at c.args.slots.now.items None [] (Some c.in-Some.name) c.len-number.result len)

pub returns-in_default-clause-index : goal.returns-in_default-clause-index
returns-in_default-clause-index c = rw c.push_reserved.ensures.items (index_push c.args.slots.now.items c.args.order.now.items c.requires.index)
