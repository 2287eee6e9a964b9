use Rattle.std.proofs.Common.{None, Some, ap, sym, zero-add, ◌∙◌}
use Rattle.std.specs.Option.{option_map}
use Rattle.trio_nodes.specs.declared.grant.Holder.{Holder}
use Rattle.trio_grants.specs.Grants.{grant_under, holder}
use Rattle.trio_grants.proofs.Slots.{under_slot}
use Rattle.trio_grants.proofs.table.GrantTable.holder_under.Goals as goal

pub returns-in-Some : goal.returns-in-Some
returns-in-Some c =
    let key = c.key.inside.0 in
    let slots = c.self.inside.grants.slots in
    let found = ap (λ k. grant_under k c.args.self.now) (sym c.key.view_is) ∙ ap (grant_under key) (sym c.self.view_is) ∙ under_slot 0 slots key key (sym (zero-add key)) in
    ap (λ (h : Holder). Some h) c.holder.ensures ∙ ap (option_map holder) (c.in-Some.ensures ∙ sym found)

pub returns-in-None : goal.returns-in-None
returns-in-None c =
    let key = c.key.inside.0 in
    let slots = c.self.inside.grants.slots in
    let found = ap (λ k. grant_under k c.args.self.now) (sym c.key.view_is) ∙ ap (grant_under key) (sym c.self.view_is) ∙ under_slot 0 slots key key (sym (zero-add key)) in
    ap (option_map holder) (c.in-None.ensures ∙ sym found)
