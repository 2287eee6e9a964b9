use Rattle.trio_raw.proofs.Words.{List, Made, None, Shown, refl, subst}
use Rattle.trio_desk.specs.Call.{ModeSet, NotModeSet, SetMode}
use Rattle.trio_raw.proofs.Asking.{mode_alike}
use Rattle.trio_raw.proofs.Leases.{leases_alike}
use Rattle.trio_raw.proofs.Standing.{stands_alike}
use Rattle.trio_raw.proofs.raw.Raw.set_mode.Goals as goal

pub returns-in-Ok-clause-call : goal.returns-in-Ok-clause-call
returns-in-Ok-clause-call g c =
    Made ModeSet (subst (λ (l : List Shown). g.D.Desk.called c.args.desk.now (SetMode c.args.ino c.args.mode l None) ModeSet c.set_mode.new.self) c.new.ensures.items c.in-Ok.ensures.called) (refl, refl)

pub returns-in-Ok-clause-stands : goal.returns-in-Ok-clause-stands
returns-in-Ok-clause-stands g c =
    let out = (g.D.Desk.seen c.args.desk.now).out in
    let out' = (g.D.Desk.seen c.set_mode.new.self).out in
    stands_alike out' out c.args.self.now.has (mode_alike out out' c.new.result.items c.new.ensures.items c.in-Ok.ensures.seen.out) c.requires.stands

pub returns-in-Ok-clause-leases : goal.returns-in-Ok-clause-leases
returns-in-Ok-clause-leases g c l =
    let out = (g.D.Desk.seen c.args.desk.now).out in
    let out' = (g.D.Desk.seen c.set_mode.new.self).out in
    leases_alike out' out c.args.self.now.has (mode_alike out out' c.new.result.items c.new.ensures.items c.in-Ok.ensures.seen.out) l

pub returns-clause-call : goal.returns-clause-call
returns-clause-call g c =
    Made (NotModeSet c.in-Err.fault) (subst (λ (l : List Shown). g.D.Desk.called c.args.desk.now (SetMode c.args.ino c.args.mode l None) (NotModeSet c.in-Err.fault) c.set_mode.new.self) c.new.ensures.items (rw c.in-Err.fault-is at c.in-Err.ensures.called)) (refl, refl)

pub returns-clause-stands : goal.returns-clause-stands
returns-clause-stands g c = stands_alike (g.D.Desk.seen c.set_mode.new.self).out (g.D.Desk.seen c.args.desk.now).out c.args.self.now.has c.in-Err.ensures.seen.out c.requires.stands

pub returns-clause-leases : goal.returns-clause-leases
returns-clause-leases g c l = leases_alike (g.D.Desk.seen c.set_mode.new.self).out (g.D.Desk.seen c.args.desk.now).out c.args.self.now.has c.in-Err.ensures.seen.out l
