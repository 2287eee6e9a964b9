use Rattle.trio_runner.proofs.Words.{map}
use Rattle.trio_runner.proofs.Calling.{ok_is}
use Rattle.trio_runner.proofs.Seats.{players_ready, players_seated, script_played}
use Rattle.trio_runner.proofs.rounds.play.Goals as goal

pub play_rounds-played-requires-clause-ready : goal.play_rounds-played-requires-clause-ready
play_rounds-played-requires-clause-ready g c =
    players_ready c.args.ctl.now c.args.libs.now (map g.K.Kinds.share c.in_ok-all.all.items) c.in_ok-tolds.tolds.items c.in_ok-all.ensures c.in_ok-tolds.ensures c.requires.started c.requires.unlogged c.requires.kept

pub play_rounds-played-requires-clause-seated : goal.play_rounds-played-requires-clause-seated
play_rounds-played-requires-clause-seated g c = players_seated c.args.ctl.now c.args.libs.now (map g.K.Kinds.share c.in_ok-all.all.items) c.in_ok-tolds.tolds.items c.in_ok-all.ensures c.in_ok-tolds.ensures

pub returns : goal.returns
returns g c =
    let took = ok_is c.play_rounds-played.result c.in_ok-played.field-0 _ c.in_ok-played.was c.play_rounds-played.ensures in
    record {
      script = script_played c.args.ctl.now c.args.libs.now (map g.K.Kinds.share c.in_ok-all.all.items) c.in_ok-tolds.tolds.items c.in_ok-all.ensures c.in_ok-tolds.ensures c.requires.started c.requires.unlogged
          c.play_rounds-played.new.ctl (map g.K.Kinds.share c.play_rounds-played.new.all.items) c.play_rounds-played.new.tolds.items took;
      first = took.first;
      begun = took.begun;
    }
