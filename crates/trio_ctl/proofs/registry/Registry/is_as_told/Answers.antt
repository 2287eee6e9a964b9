use Rattle.trio_ctl.proofs.Words.{AreAsTold, grants_in, subst}
use Rattle.trio_ctl.proofs.Told.{told_open}
use Rattle.trio_ctl.proofs.Views.{state_is}
use Rattle.trio_ctl.proofs.registry.Registry.is_as_told.Goals as goal

pub returns : goal.returns
returns c =
    let i = c.self.inside in
    subst AreAsTold (state_is c.self.view_is) (told_open i.store.rows i.store.checkpoints.items (grants_in i.files.items) c.self.invariant.told)
