use Rattle.trio_ctl.proofs.Words.{refl}
use Rattle.trio_ctl.proofs.Allotting.{logged_controlled}
use Rattle.trio_ctl.proofs.Seen.{kept_is}
use Rattle.trio_ctl.proofs.registry.Registry.refuse_mode.Goals as goal

pub invariant_of-self : goal.invariant_of-self
invariant_of-self c =
    let i = c.self.inside in
    logged_controlled i.store i.first_core i.grants i.files.items i.libs.items i.history i.begun.items c.self.invariant i.store c.enter.new.self refl c.enter.ensures

pub returns-clause-was_kept : goal.returns-clause-was_kept
returns-clause-was_kept c = kept_is c.self.view_is c.self.invariant.stored.kept
