use Rattle.std.proofs.Common.{◌∙◌, ap, sym, subst, zero-add, ◌++◌, ◌∷◌, []}
use Rattle.slab.specs.Slab.{entries_from}
use Rattle.trio_grants.specs.declared.grant.Grant.{Grant}
use Rattle.trio_grants.specs.Grants.{AllBelow, by_entry, grant_under}
use Rattle.trio_grants.proofs.Slots.{added, below-by_entry, below_from_all, left_over, under_slot}
use Rattle.trio_grants.proofs.Sorting.{without-by_entry}
use Rattle.trio_grants.proofs.table.GrantTable.admit.Goals as goal

pub returns-clause-opened : goal.returns-clause-opened
returns-clause-opened c = λ below.
    let key = c.in-Ok.key in let slots = c.self.inside.grants.slots in
    let g : Grant = record { lib = c.args.lib; ino = c.args.ino; kind = c.args.kind; entry = c.args.entry } in
    let e = c.in-Ok.ensures in
    added 0 slots c.insert.new.self.slots key key g (sym (zero-add key)) e.was_vacant e.updates.changed e.updates.others
    (below-by_entry c.args.entry (entries_from 0 slots) (below_from_all c.args.entry _ (subst (AllBelow c.args.entry) (sym c.self.view_is) below)))
    ∙ ap (λ xs. xs ++ (key, g) ∷ []) c.self.view_is

pub returns-clause-there : goal.returns-clause-there
returns-clause-there c =
    let key = c.in-Ok.key in
    under_slot 0 c.insert.new.self.slots key key (sym (zero-add key)) ∙ c.in-Ok.ensures.updates.changed

pub returns-clause-new_key : goal.returns-clause-new_key
returns-clause-new_key c =
    let key = c.in-Ok.key in
    ap (grant_under key) (sym c.self.view_is)
    ∙ under_slot 0 c.self.inside.grants.slots key key (sym (zero-add key)) ∙ c.in-Ok.ensures.was_vacant

pub returns-clause-rest : goal.returns-clause-rest
returns-clause-rest c =
    let key = c.in-Ok.key in let slots = c.self.inside.grants.slots in let e = c.in-Ok.ensures in
    without-by_entry key (entries_from 0 c.insert.new.self.slots)
    ∙ ap by_entry (left_over 0 slots c.insert.new.self.slots key key (sym (zero-add key)) e.was_vacant e.updates.others)
    ∙ c.self.view_is

pub returns-clause-others : goal.returns-clause-others
returns-clause-others c = λ other differs.
    under_slot 0 c.insert.new.self.slots other other (sym (zero-add other)) ∙ c.in-Ok.ensures.updates.others other differs
    ∙ sym (under_slot 0 c.self.inside.grants.slots other other (sym (zero-add other)))
    ∙ ap (grant_under other) c.self.view_is
