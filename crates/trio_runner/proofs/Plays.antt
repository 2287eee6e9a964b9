-- Turns, one after another, and their moves.
use Rattle.trio_runner.proofs.Words.{◌++◌, ◌∙◌, ◌∷◌, List, Move, Placed, Players, Plays, State, TakesTurn, Trace, [], ap, append-nil, append_assoc, refl, subst, sym}
use Rattle.trio_runner.specs.PlayLaws.{PlayedIsTrace, PlaysMore}
use Rattle.trio_runner.proofs.Moves.{Runs, moves_run, runs_on}
use Rattle.trio_runner.proofs.Plain.{turn_plain}

pub plays_more : PlaysMore
plays_more p [] moves middle t more p' plays takes = record {
  first = more;
  middle = p';
  others = [];
  takes = subst (λ q. TakesTurn q t more p') plays.1 takes;
  rest = (refl, refl);
  moves_are = ap (λ l. l ++ more) plays.0 ∙ sym (append-nil more);
}
plays_more p (u ∷ turns) moves middle t more p' plays takes = record {
  first = plays.first;
  middle = plays.middle;
  others = plays.others ++ more;
  takes = plays.takes;
  rest = plays_more plays.middle turns plays.others middle t more p' plays.rest takes;
  moves_are = ap (λ l. l ++ more) plays.moves_are ∙ append_assoc plays.first plays.others more;
}

plays_run : (p : Players) (turns : List Placed) (moves : List Move) (p' : Players) → Plays p turns moves p' → Runs p.state moves p'.state
plays_run p [] moves p' plays =
    subst (λ l. Runs p.state l p'.state) (sym plays.0) (record { trace = tt; last = ap (λ (q : Players). q.state) (sym plays.1) })
plays_run p (t ∷ turns) moves p' plays =
    subst (λ l. Runs p.state l p'.state) (sym plays.moves_are)
    (runs_on p.state plays.middle.state p'.state plays.first plays.others
    (moves_run t.lib p.state plays.takes.calls plays.first plays.middle.state
    (turn_plain p t plays.first plays.middle plays.takes) plays.takes.happen)
    (plays_run plays.middle turns plays.others p' plays.rest))

pub played_is_trace : PlayedIsTrace
played_is_trace image libs played =
    subst (λ (s : State). Trace s played.moves) played.begins.state (plays_run played.first _ played.moves played.last played.plays).trace
