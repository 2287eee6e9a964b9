use Rattle.trio_ctl.proofs.Words.{GivenTo, State, bundle_in, subst, sym}
use Rattle.trio_ctl.proofs.Rooms.{counts_few}
use Rattle.trio_ctl.proofs.Views.{state_is}
use Rattle.trio_ctl.proofs.registry.Registry.room.Goals as goal

pub page_count-requires : goal.page_count-requires
page_count-requires c =
    let i = c.self.inside in
    let t = subst (λ (v : State). GivenTo v c.requires.0 (bundle_in c.args.bundle.now)) (sym (state_is c.self.view_is)) c.requires.1 in
    (counts_few i.store i.first_core i.grants i.files.items i.libs.items i.history i.begun.items c.self.invariant c.args.bundle.now c.requires.0 t).0

pub value_count-requires : goal.value_count-requires
value_count-requires c =
    let i = c.self.inside in
    let t = subst (λ (v : State). GivenTo v c.requires.0 (bundle_in c.args.bundle.now)) (sym (state_is c.self.view_is)) c.requires.1 in
    let few = counts_few i.store i.first_core i.grants i.files.items i.libs.items i.history i.begun.items c.self.invariant c.args.bundle.now c.requires.0 t in
    record { writes = few.1; holds = few.2; inodes = few.3 }
