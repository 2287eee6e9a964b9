use Rattle.trio_auxdir.proofs.Words.{◌<◌, None, length, rules, slice_get_within}
use Rattle.trio_auxdir.proofs.Indexes.{index_put, misses}
use Rattle.trio_auxdir.proofs.order.put_name.Goals as goal

pub unwrap_err-at-requires : goal.unwrap_err-at-requires
unwrap_err-at-requires c =
    let found = rw (c.deref.ensures.value, c.deref-2.ensures.value) at c.position.ensures.found in
    misses c.args.slots.now.items c.args.order.now.items c.args.name c.position.result c.requires.index c.requires.new found

pub overflow_cast-number : goal.overflow_cast-number
overflow_cast-number c =
    let lt : c.args.number < length c.args.slots.now.items = slice_get_within c.args.slots.now.items c.args.number None c.requires.empty in
    search rules

pub index_mut-requires : goal.index_mut-requires
index_mut-requires c =
    let lt : c.args.number < length c.args.slots.now.items = slice_get_within c.args.slots.now.items c.args.number None c.requires.empty in
    search rules

pub returns-clause-index : goal.returns-clause-index
returns-clause-index c =
    let gap = rw (c.unwrap_err-at.ensures, c.deref.ensures.value, c.deref-2.ensures.value) at c.position.ensures.absent in
    let inserted = rw c.unwrap.ensures at c.insert-inserted.ensures.items in
    rw inserted
    (index_put c.args.slots.now.items c.args.order.now.items c.args.number c.unwrap_err-at.result c.args.name c.requires.index c.requires.empty
    c.requires.new gap)
