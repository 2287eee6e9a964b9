use Rattle.std.proofs.Common.{subst, sym}
use Rattle.trio_raw.specs.Has.{Held, OnList}
use Rattle.trio_runner.proofs.Calling.{nothing_on_list}
use Rattle.trio_ctl_tests.proofs.raws.plays.Goals as goal

pub is_done-told-requires : goal.is_done-told-requires
is_done-told-requires g c =
    let out = (g.D.Desk.seen c.args.desk.now).out in
    subst (λ (h : Held). OnList out h.has) (sym c.new-raw.ensures) (nothing_on_list out)
