use Rattle.trio_runner.proofs.Words.{◌∙◌, GoesOn, Held, HoldsAll, LibSeat, desk, subst, sym}
use Rattle.trio_runner.proofs.Calling.{on_both}
use Rattle.trio_runner.proofs.Going.{has_closed, left_of, turn_name, turn_took}
use Rattle.trio_runner.proofs.seat_turns.turn_at_seat.Goals as goal

pub turn-requires-clause-goes : goal.turn-requires-clause-goes
turn-requires-clause-goes g c = subst (λ (s : LibSeat Held). GoesOn (desk s) (g.K.Kinds.share c.args.player.now)) (sym c.of-desk.ensures.seat) c.requires.may.0

pub turn-requires-clause-closed : goal.turn-requires-clause-closed
turn-requires-clause-closed g c =
    let d = c.of-desk in
    has_closed _ (λ d. d.shared.now) (λ d. d.seat.now) (λ d. d.seat.ghost_name) (λ d a t d' h. h) c.desk_is_left.ensures.law d.result
    (left_of _ (λ d. d.shared.now) (λ d. d.seat.now) (λ d. d.seat.ghost_name) (λ d a t d' h. h) d.result c.args.shared.now c.args.seat.now d.ensures.seat c.requires.sits) (g.K.Kinds.share c.args.player.now)
    (subst (λ (s : LibSeat Held). HoldsAll (desk s) (g.K.Kinds.share c.args.player.now)) (sym d.ensures.seat) c.requires.may.1)

pub returns-clause-turn : goal.returns-clause-turn
returns-clause-turn g c =
    let d = c.of-desk in
    let d' = c.turn.new.desk in
    on_both c.turn.result _ _ _
    (λ taken goes turn is.
    let name = turn_name _ (λ d. d.shared.now) (λ d. d.seat.now) (λ d. d.seat.ghost_name) (λ d a t d' h. h) c.desk_is_left.ensures.law c.others_leave.ensures.law d.result d' c.args.shared.now c.args.seat.now d.ensures.shared d.ensures.seat c.requires.sits turn _ is _ _ _ _ taken in
    turn_took _ (λ d. d.shared.now) (λ d. d.seat.now) (λ d. d.seat.ghost_name) (λ d a t d' h. h) c.desk_is_left.ensures.law c.others_leave.ensures.law d.result d' c.args.shared.now c.args.seat.now d.ensures.shared d.ensures.seat c.requires.sits turn _ is _ _ _ _ taken
    _ (c.seat-1.given.1 (sym d.ensures.same_reference ∙ sym name)) d'.is_seat d'.is_idle c.requires.may.1 goes)
    c.turn.ensures.turn c.turn.ensures.goes
