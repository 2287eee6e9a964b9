use Rattle.trio_auxdir.proofs.Words.{◌∙◌, ◌≡◌, Some, ap, nth, sym}
use Rattle.std.proofs.lemmas.List.{get_or_default}
use Rattle.trio_auxdir.proofs.Indexes.{found_at, index_emptied, meets}
use Rattle.trio_auxdir.proofs.order.clear_name.Goals as goal

pub unwrap-at-requires : goal.unwrap-at-requires
unwrap-at-requires c =
    let absent = rw (c.deref.ensures.value, c.deref-2.ensures.value) at c.position.ensures.absent in
    meets c.args.slots.now.items c.args.order.now.items c.args.name.now c.position.result c.requires.index c.requires.there absent

pub returns-clause-number : goal.returns-clause-number
returns-clause-number c =
    let there = rw (c.unwrap-at.ensures, c.deref.ensures.value, c.deref-2.ensures.value) at c.position.ensures.found in
    let number : nth c.args.order.now.items c.unwrap-at.result ≡ c.remove-number.result
    = get_or_default c.args.order.now.items c.unwrap-at.result 0 c.remove-number.result there.within ∙ sym c.remove-number.ensures.value in
    found_at c.args.slots.now.items c.args.order.now.items c.args.name.now c.unwrap-at.result c.requires.index there ∙ ap Some number

pub returns-clause-index : goal.returns-clause-index
returns-clause-index c =
    let there = rw (c.unwrap-at.ensures, c.deref.ensures.value, c.deref-2.ensures.value) at c.position.ensures.found in
    let number : nth c.args.order.now.items c.unwrap-at.result ≡ c.remove-number.result
    = get_or_default c.args.order.now.items c.unwrap-at.result 0 c.remove-number.result there.within ∙ sym c.remove-number.ensures.value in
    rw c.remove-number.ensures.items
    (index_emptied c.args.slots.now.items c.args.order.now.items c.remove-number.result c.unwrap-at.result c.args.name.now c.requires.index there number)
