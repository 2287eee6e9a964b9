use Rattle.trio_session_tests.proofs.Words.{◌∙◌, Controller, Stands, subst, sym}
use Rattle.trio_session_tests.proofs.InTurns.{calls_turn, goes_on, recorded_stands, turn_taken}
use Rattle.trio_session_tests.proofs.turns.makes.Goals as goal

pub returns : goal.returns
returns c =
    let desk = c.of-desk in
    let made = c.any_call.ensures.called in
    let stands = subst (λ (x : Controller). Stands x.state) (sym desk.ensures.ctl) (recorded_stands c.args.ctl.now.first c.args.ctl.now c.is_recorded.ensures c.is_as_told.ensures) in
    let t = calls_turn _ (λ d. d.ctl.now) (λ d. d.ctl.ghost_name) (λ d. d.lib) (λ d a t d' h. h) made.0 desk.result c.any_call.new.desk stands made.1 in
    let after = c.ctl-1.given.1 (sym desk.ensures.same_reference ∙ sym t.same) in
    record {
      may = goes_on _ (λ d. d.ctl.now) (λ d. d.ctl.ghost_name) (λ d. d.lib) (λ d a t d' h. h) c.args.lib c.args.ctl.now _ desk.result c.any_call.new.desk c.any_call.new.session
          desk.ensures.lib desk.ensures.ctl after t c.requires.may.library c.requires.may.idle c.any_call.ensures.may;
      turn = turn_taken _ (λ d. d.ctl.now) (λ d. d.ctl.ghost_name) (λ d. d.lib) (λ d a t d' h. h) c.args.lib c.args.ctl.now _ desk.result c.any_call.new.desk
          desk.ensures.lib desk.ensures.ctl after t;
    }
