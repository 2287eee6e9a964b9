use Rattle.trio_ctl.proofs.Words.{if◌then◌else◌, ◌∙◌, Bool, GrantFault, NoParent, None, Option, Some, State, ap, as_row, has_parent_grant, sym}
use Rattle.trio_ctl.proofs.Views.{state_is}
use Rattle.trio_ctl.proofs.Granting.{parent_granted}
use Rattle.trio_ctl.proofs.registry.Registry.parentless.Goals as goal

abbrev told : Bool → Option GrantFault
told b = if b then None else Some NoParent

pub returns-then-has : goal.returns-then-has
returns-then-has c =
    let i = c.self.inside in
    let same = parent_granted i.store i.first_core i.grants i.files.items i.libs.items i.history i.begun.items c.self.invariant c.args.lib (as_row c.args.row.now) in
    sym (ap told (sym (ap (λ (v : State). has_parent_grant v c.args.lib.0 (Some (as_row c.args.row.now))) (state_is c.self.view_is)) ∙ sym same ∙ sym c.has.ensures ∙ c.if-has.true))

pub returns-else-has : goal.returns-else-has
returns-else-has c =
    let i = c.self.inside in
    let same = parent_granted i.store i.first_core i.grants i.files.items i.libs.items i.history i.begun.items c.self.invariant c.args.lib (as_row c.args.row.now) in
    sym (ap told (sym (ap (λ (v : State). has_parent_grant v c.args.lib.0 (Some (as_row c.args.row.now))) (state_is c.self.view_is)) ∙ sym same ∙ sym c.has.ensures ∙ c.if-has.false))
