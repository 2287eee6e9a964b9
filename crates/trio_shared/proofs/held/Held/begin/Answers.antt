use Rattle.trio_shared.proofs.Words.{Acts, Begin, Controller, TellsWhetherClosed, begin_answer, bundle_in, given_to, out_of, parcel_of, subst, sym, underway_of, were_held}
use Rattle.trio_state.specs.Given.{GivenTo}
use Rattle.trio_ctl.specs.HandedIn.{WereHeld}
use Rattle.trio_shared.proofs.TwoMoves.{tells_beginning, whether_closed}
use Rattle.trio_shared.proofs.held.Held.begin.Goals as goal

pub begin-requires-clause-given : goal.begin-requires-clause-given
begin-requires-clause-given c =
    subst (λ (x : Controller). GivenTo x.state c.args.lib.0 (bundle_in c.args.bundle)) (sym c.self.view_is)
    (given_to c.args.self.now.state c.args.lib (parcel_of c.args.bundle) c.requires.given)

pub begin-requires-clause-held : goal.begin-requires-clause-held
begin-requires-clause-held c =
    subst (λ (x : Controller). WereHeld x.state c.args.lib.0 c.args.bundle.holds) (sym c.self.view_is)
    (were_held c.args.self.now.state c.args.lib (parcel_of c.args.bundle) c.requires.given)

pub returns-clause-acts : goal.returns-clause-acts
returns-clause-acts c =
    subst (λ (x : Controller). Acts (underway_of x) (Begin c.args.lib.0 (bundle_in c.args.bundle)) (begin_answer c.begin.result (λ back. back.1)) (underway_of c.begin.new.self)) c.self.view_is c.begin.ensures.acts

pub returns-clause-closed : goal.returns-clause-closed
returns-clause-closed c =
    let x = c.self.inside.ctl in
    let r = c.begin.result in
    subst (λ (z : Controller). TellsWhetherClosed (out_of z.state c.args.lib) (parcel_of c.args.bundle) r (λ back. back.1)) c.self.view_is
    (whether_closed x c.begin.new.self c.args.lib c.args.bundle r (λ back. back.1) c.is_as_told.ensures (tells_beginning x c.begin.new.self c.args.lib c.args.bundle r (λ back. back.1) c.begin.ensures.acts c.begin.ensures.pending))
