use Rattle.trio_ctl.proofs.Words.{refl}
use Rattle.trio_ctl.proofs.Allotting.{logged_controlled}
use Rattle.trio_ctl.proofs.registry.Registry.log_refusal.Goals as goal

pub invariant_of-self : goal.invariant_of-self
invariant_of-self c =
    let i = c.self.inside in
    logged_controlled i.store i.first_core i.grants i.files.items i.libs.items i.history i.begun.items c.self.invariant i.store c.enter.new.self refl c.enter.ensures
