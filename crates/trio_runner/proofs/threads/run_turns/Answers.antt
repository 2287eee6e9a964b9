use Rattle.trio_runner.proofs.Words.{◌++◌, ◌<◌, ◌∷◌, ◌≤◌, Ends, Went, [], arith, get_or, length, length-append, line_turns, slice_get-get_or, subst, take_all}
use Rattle.trio_runner.proofs.Going.{went_next, went_none}
use Rattle.trio_runner.proofs.threads.run_turns.Goals as goal

pub loop-at-init : goal.loop-at-init
loop-at-init g c = record { went = went_none _ _ _ _ c.requires.sits; suits = c.requires.suits; may = c.requires.may }

pub loop-at-preserved : goal.loop-at-preserved
loop-at-preserved g c =
    let turns = line_turns c.args.lines.now ++ Ends ∷ [] in
    let long = length-append (line_turns c.args.lines.now) (Ends ∷ []) in
    let low : c.loop-at.at < length turns = omega (arith, c.loop-at-test.true, c.line_count-at-end.ensures.count, long) in
    let took = c.in_ok-hand.ensures.turn (get_or turns c.loop-at.at Ends) (slice_get-get_or turns c.loop-at.at Ends low) in
    record {
      went = went_next c.args.shared.now turns c.loop-at.at _ _ _ _ _ _ _ _ _ low c.loop-at.invariant.went took.went;
      suits = c.in_ok-hand.ensures.suits;
      may = took.may;
    }

pub returns : goal.returns
returns g c =
    let turns = line_turns c.args.lines.now ++ Ends ∷ [] in
    let long = length-append (line_turns c.args.lines.now) (Ends ∷ []) in
    let past : length turns ≤ c.loop-at.at = omega (arith, c.loop-at-test.false, c.line_count-at-end.ensures.count, long) in
    let share = g.K.Kinds.share in
    subst (λ ts. Went c.args.shared.now ts c.args.seat.now (share c.args.player.now) c.args.told.now c.loop-at.seat (share c.loop-at.player) c.loop-at.told) (take_all c.loop-at.at turns past) c.loop-at.invariant.went
