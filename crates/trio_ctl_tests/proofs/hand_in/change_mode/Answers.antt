use Rattle.std.proofs.Common.{◌∷◌, [], refl, subst, sym, inl}
use Rattle.trio_lists.specs.Lists.{In}
use Rattle.trio_lists.proofs.Members.{In-right}
use Rattle.trio_ctl_tests.proofs.hand_in.change_mode.Goals as goal

pub hand_in-requires : goal.hand_in-requires
hand_in-requires g c =
    let lease = c.in_ok-lease.lease in
    subst (λ reads. In lease reads) (sym c.in_ok-lease.ensures.reads)
    (In-right lease (g.D.Desk.seen c.read_lease.new.desk).out.reads (lease ∷ []) (inl refl))
