use Rattle.trio_runner.proofs.Words.{BeginsWith, library_of, subst}
use Rattle.trio_runner.proofs.Beginning.{begins_may}
use Rattle.trio_runner.proofs.Calling.{on_ok}
use Rattle.trio_runner.proofs.Held.{same_library}
use Rattle.trio_runner.proofs.Seats.{begins_suits}
use Rattle.trio_runner.proofs.threads.run_script.Goals as goal

pub run_turns-went-requires-clause-suits : goal.run_turns-went-requires-clause-suits
run_turns-went-requires-clause-suits g c = begins_suits c.library.result c.args.script.now.creds c.args.script.now.lines (g.K.Kinds.share c.begin-player.result) c.begin-player.ensures

pub run_turns-went-requires-clause-may : goal.run_turns-went-requires-clause-may
run_turns-went-requires-clause-may g c =
    let share = g.K.Kinds.share c.begin-player.result in
    begins_may c.args.seat.now c.args.script.now.creds c.args.script.now.lines share c.requires.none c.requires.creds
    (subst (λ l. BeginsWith l c.args.script.now.creds c.args.script.now.lines share) (same_library c.library.result (library_of c.args.seat.now) c.library.ensures) c.begin-player.ensures)

pub returns : goal.returns
returns g c =
    let share = g.K.Kinds.share c.begin-player.result in
    on_ok c.run_turns-went.result _ _
    (λ went. record {
      share = share;
      share' = g.K.Kinds.share c.run_turns-went.new.player;
      begins = subst (λ l. BeginsWith l c.args.script.now.creds c.args.script.now.lines share) (same_library c.library.result (library_of c.args.seat.now) c.library.ensures) c.begin-player.ensures;
      went = went;
    })
    c.run_turns-went.ensures
