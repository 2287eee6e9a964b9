use Rattle.trio_runner.proofs.Words.{◌++◌, ◌∷◌, Ends, MayGoOn, Suits, Went, [], desk, line_turns, take}
use Rattle.trio_runner.proofs.threads.run_turns.Given as goal

abbrev pub invariant-loop-at : goal.invariant-loop-at
invariant-loop-at g l =
    let share = g.K.Kinds.share in record {
      went : Went l.shared (take l.at (line_turns l.lines ++ Ends ∷ [])) l.fn.seat (share l.fn.player) l.fn.told l.seat (share l.player) l.told;
      suits : Suits l.lines (share l.player);
      may : MayGoOn (desk l.seat) (share l.player);
    }
