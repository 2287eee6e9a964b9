use Rattle.trio_runner.proofs.Words.{◌∙◌, Controller, GoesOn, HasClosed, desk_of, subst, sym}
use Rattle.trio_runner.proofs.Calling.{on_both, turn_name, turn_took}
use Rattle.trio_runner.proofs.rounds.play_turn.Goals as goal

pub turn-requires-clause-goes : goal.turn-requires-clause-goes
turn-requires-clause-goes g c =
    let desk = c.of-desk in
    subst (λ l. GoesOn (desk_of desk.result.ctl.now.state l) (g.K.Kinds.share c.args.player.now)) (sym desk.ensures.lib)
    (subst (λ (x : Controller). GoesOn (desk_of x.state c.args.lib) (g.K.Kinds.share c.args.player.now)) (sym desk.ensures.ctl) c.requires.goes)

pub turn-requires-clause-closed : goal.turn-requires-clause-closed
turn-requires-clause-closed g c =
    let desk = c.of-desk in
    subst (λ l. HasClosed (desk_of desk.result.ctl.now.state l) (g.K.Kinds.share c.args.player.now)) (sym desk.ensures.lib)
    (subst (λ (x : Controller). HasClosed (desk_of x.state c.args.lib) (g.K.Kinds.share c.args.player.now)) (sym desk.ensures.ctl) c.requires.closed)

pub returns-clause-turn : goal.returns-clause-turn
returns-clause-turn g c =
    let d = c.of-desk in
    let d' = c.turn.new.desk in
    on_both c.turn.result _ _ _
    (λ taken goes.
    let name = turn_name _ (λ d. d.ctl.now) (λ d. d.ctl.ghost_name) (λ d. d.lib) (λ d a t d' h. h) d.result d' _ _ _ _ _ taken in
    turn_took _ (λ d. d.ctl.now) (λ d. d.ctl.ghost_name) (λ d. d.lib) (λ d a t d' h. h) d.result d' _ _ _ _ _ _ _ _
    d.ensures.lib d.ensures.ctl (c.ctl-1.given.1 (sym d.ensures.same_reference ∙ sym name)) taken goes)
    c.turn.ensures.turn c.turn.ensures.goes
