use Rattle.trio_ctl.proofs.Words.{GivenTo, State, bundle_in, subst, sym}
use Rattle.trio_ctl.proofs.Belonging.{given_belongs}
use Rattle.trio_ctl.proofs.Views.{seen_state}
use Rattle.trio_ctl.proofs.ctl.Ctl.room.Goals as goal

pub room-requires : goal.room-requires
room-requires c =
    let lib = c.requires.0 in
    (lib, subst (λ (v : State). GivenTo v lib (bundle_in c.args.bundle.now)) (sym (seen_state c.self.view_is)) (given_belongs c.args.self.now.state lib c.args.bundle.now c.requires.1))
