use Rattle.std.proofs.Common.{◌∷◌, [], subst, sym}
use Rattle.trio_desk.specs.Out.{parcel_of}
use Rattle.trio_desk.specs.Edits.{nothing}
use Rattle.trio_desk.specs.Ready.{Ready}
use Rattle.trio_ctl_tests.proofs.Outs.{reader_is_ready}
use Rattle.trio_ctl_tests.proofs.hand_in.settle_reader.Goals as goal

pub settle-requires : goal.settle-requires
settle-requires g c =
    let before = g.D.Desk.seen c.args.desk.now in
    let desk = g.D.Desk.seen c.read_lease.new.desk in
    let lease = c.in_ok-lease.lease in
    subst (λ b. Ready desk (parcel_of b) c.in_ok-back.back.items c.new-2.result.items) (sym c.new.ensures)
    (subst (λ back. Ready desk nothing back c.new-2.result.items) (sym c.in_ok-back.ensures)
    (subst (λ calls. Ready desk nothing (lease ∷ []) calls) (sym c.new-2.ensures.items)
    (reader_is_ready before desk lease c.requires c.in_ok-lease.ensures)))
