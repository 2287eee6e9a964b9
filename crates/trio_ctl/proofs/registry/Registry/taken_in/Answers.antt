use Rattle.trio_ctl.proofs.Words.{◌∙◌, ◌≡◌, ComesBack, HasRoom, None, Registered, Some, State, ap, bundle_in, lowest_parted, parted_hold, refl, subst, sym}
use Rattle.trio_ctl.proofs.PartedHolds.{parted_is}
use Rattle.trio_ctl.proofs.Views.{state_is}
use Rattle.trio_ctl.proofs.Seen.{kept_is}
use Rattle.trio_ctl.proofs.registry.Registry.taken_in.Goals as goal

pub returns-in-Some-clause-fault : goal.returns-in-Some-clause-fault
returns-in-Some-clause-fault c =
    let i = c.self.inside in
    let b = bundle_in c.args.bundle in
    let parted = sym (parted_is i.store i.first_core i.files.items i.libs.items i.history.made c.args.lib.0 b) ∙ sym (ap (lowest_parted i.store.rows c.args.lib.0 b) c.deref.ensures.value) ∙ sym c.parted_hold.ensures ∙ c.in-Some.is in
    ComesBack _ (subst (λ (v : State). parted_hold v c.args.lib.0 b ≡ Some c.in-Some.ino) (state_is c.self.view_is) parted) refl refl

pub within-requires-clause-closed : goal.within-requires-clause-closed
within-requires-clause-closed c =
    let i = c.self.inside in
    let b = bundle_in c.args.bundle in
    let closed = sym (parted_is i.store i.first_core i.files.items i.libs.items i.history.made c.args.lib.0 b) ∙ sym (ap (lowest_parted i.store.rows c.args.lib.0 b) c.deref.ensures.value) ∙ sym c.parted_hold.ensures ∙ c.in_default.is in
    subst (λ (v : State). parted_hold v c.args.lib.0 b ≡ None) (state_is c.self.view_is) closed

pub returns-clause-closed : goal.returns-clause-closed
returns-clause-closed c = λ ok.
    let i = c.self.inside in
    let b = bundle_in c.args.bundle in
    let closed = sym (parted_is i.store i.first_core i.files.items i.libs.items i.history.made c.args.lib.0 b) ∙ sym (ap (lowest_parted i.store.rows c.args.lib.0 b) c.deref.ensures.value) ∙ sym c.parted_hold.ensures ∙ c.in_default.is in
    subst (λ (v : State). parted_hold v c.args.lib.0 b ≡ None) (state_is c.self.view_is) closed

pub returns-clause-places : goal.returns-clause-places
returns-clause-places c = λ ok.
    subst (λ (x : Registered). HasRoom (record { made = x.state.entries; promised = x.promised }) 1) c.self.view_is c.in-Ok.ensures.room

pub returns-clause-kept : goal.returns-clause-kept
returns-clause-kept c = kept_is c.self.view_is c.self.invariant.stored.kept

pub returns-in_default-kit_for-clause-kept : goal.returns-in_default-kit_for-clause-kept
returns-in_default-kit_for-clause-kept c = kept_is c.self.view_is c.self.invariant.stored.kept

pub returns-in-Some-clause-kept : goal.returns-in-Some-clause-kept
returns-in-Some-clause-kept c = kept_is c.self.view_is c.self.invariant.stored.kept

pub returns-in_default-make_room-clause-kept : goal.returns-in_default-make_room-clause-kept
returns-in_default-make_room-clause-kept c = kept_is c.self.view_is c.self.invariant.stored.kept
