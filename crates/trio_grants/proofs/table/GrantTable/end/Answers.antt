use Rattle.std.proofs.Common.{◌∙◌, ap, sym, subst, zero-add, IsSome}
use Rattle.slab.specs.Slab.{entries_from}
use Rattle.trio_grants.specs.Grants.{grant_under, without, by_entry}
use Rattle.trio_grants.proofs.Slots.{under_slot, removed}
use Rattle.trio_grants.proofs.Sorting.{without-by_entry}
use Rattle.trio_grants.proofs.table.GrantTable.end.Goals as goal

pub remove-ended-requires : goal.remove-ended-requires
remove-ended-requires c =
    let key = c.key.inside.0 in let slots = c.self.inside.grants.slots in
    let found = under_slot 0 slots key key (sym (zero-add key)) in
    subst IsSome (ap (λ k. grant_under k c.args.self.now) (sym c.key.view_is) ∙ ap (grant_under key) (sym c.self.view_is) ∙ found) c.requires

pub returns-clause-ended : goal.returns-clause-ended
returns-clause-ended c =
    let key = c.key.inside.0 in let slots = c.self.inside.grants.slots in
    ap (λ s. by_entry (entries_from 0 s)) c.remove-ended.ensures.slots
    ∙ ap by_entry (sym (removed 0 slots key key (sym (zero-add key))))
    ∙ sym (without-by_entry key (entries_from 0 slots))
    ∙ ap (without key) c.self.view_is
    ∙ ap (λ k. without k c.args.self.now) c.key.view_is

pub returns-clause-others : goal.returns-clause-others
returns-clause-others c = λ other differs.
    under_slot 0 c.remove-ended.new.self.slots other other (sym (zero-add other))
    ∙ c.remove-ended.ensures.updates.others other (λ same. differs (same ∙ c.key.view_is))
    ∙ sym (under_slot 0 c.self.inside.grants.slots other other (sym (zero-add other)))
    ∙ ap (grant_under other) c.self.view_is
