use Rattle.std.proofs.Common.{◌≡◌, length, subst, sym}
use Rattle.trio_desk.specs.Out.{OutAlike, nothing_out}
use Rattle.trio_ctl.specs.Ctl.{Controller, NoneBegun}
use Rattle.trio_ctl.specs.Desk.{out_of}
use Rattle.trio_ctl_tests.proofs.hand_in.has_room.Goals as goal

pub returns-clause-two : goal.returns-clause-two
returns-clause-two c = subst (λ (x : Controller). length x.state.creds ≡ 2) (sym c.make_room.ensures.rest) c.requires.two

pub returns-clause-idle : goal.returns-clause-idle
returns-clause-idle c = subst (λ (x : Controller). NoneBegun x) (sym c.make_room.ensures.rest) c.requires.idle

pub returns-clause-nothing : goal.returns-clause-nothing
returns-clause-nothing c =
    subst (λ (x : Controller). OutAlike (out_of x.state (record { 0 = 1 })) nothing_out) (sym c.make_room.ensures.rest) c.requires.nothing
