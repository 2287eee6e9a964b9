use Rattle.trio_auxdir.proofs.Words.{◌∙◌, Some, ap, set, ℕ}
use Rattle.trio_auxdir.proofs.Gaps.{gap_after}
use Rattle.trio_auxdir.proofs.Kept.{kept_put, place_of-put}
use Rattle.trio_auxdir.proofs.directory.HashedDir.add.Goals as goal

pub first_from-self-inside-requires : goal.first_from-self-inside-requires
first_from-self-inside-requires c =
    let empty = rw (← c.number-number.ensures, ← c.self.view_is) at c.requires.empty in
    rw (c.deref.ensures.value, c.put_name.ensures.slots)
    (gap_after c.args.name c.self.inside.slots.items c.number-number.result empty (c.if-number-self.true ∙ c.self.invariant.at_gap))

pub invariant_of-self-else-number-self : goal.invariant_of-self-else-number-self
invariant_of-self-else-number-self c =
    let empty = rw (← c.number-number.ensures, ← c.self.view_is) at c.requires.empty in
    kept_put c.self.inside.slots.items c.put_name.new.slots.items c.self.inside.order.items c.put_name.new.order.items c.self.inside.first
    c.number-number.result c.args.name
    c.self.invariant empty c.if-number-self.false c.put_name.ensures.slots c.put_name.ensures.index

pub returns-then-number-self-clause-found : goal.returns-then-number-self-clause-found
returns-then-number-self-clause-found c = λ other.
    let new = rw (← c.self.view_is) at c.requires.new in
    let empty = rw (← c.self.view_is) at c.requires.empty in
    let put = c.put_name.ensures.slots ∙ ap (λ (n : ℕ). set c.self.inside.slots.items n (Some c.args.name)) c.number-number.ensures in
    rw (← c.self.view_is) (place_of-put c.self.inside.slots.items c.put_name.new.slots.items c.args.place c.args.name other c.requires.slot empty new put)

pub returns-else-number-self-clause-found : goal.returns-else-number-self-clause-found
returns-else-number-self-clause-found c = λ other.
    let new = rw (← c.self.view_is) at c.requires.new in
    let empty = rw (← c.self.view_is) at c.requires.empty in
    let put = c.put_name.ensures.slots ∙ ap (λ (n : ℕ). set c.self.inside.slots.items n (Some c.args.name)) c.number-number.ensures in
    rw (← c.self.view_is) (place_of-put c.self.inside.slots.items c.put_name.new.slots.items c.args.place c.args.name other c.requires.slot empty new put)
