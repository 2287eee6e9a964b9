use Rattle.trio_runner.proofs.Words.{Took, courses_from, in_rounds, map, none_still, round_of, subst, sym, table}
use Rattle.trio_runner.proofs.Seats.{rounds_more, took_more}
use Rattle.trio_runner.proofs.rounds.play_rounds.Goals as goal

pub play_round-requires-clause-idle : goal.play_round-requires-clause-idle
play_round-requires-clause-idle g c = none_still c.args.ctl.now c.loop-round.ctl c.loop-round.invariant.0.begun c.requires.idle

pub loop-round-preserved : goal.loop-round-preserved
loop-round-preserved g c =
    let share = g.K.Kinds.share in
    let courses = courses_from 1 c.args.libs.now in
    let start = table c.args.ctl.now (map share c.args.all.now.items) c.args.tolds.now.items in
    let now = table c.loop-round.ctl (map share c.loop-round.all.items) c.loop-round.tolds.items in
    let after = table c.play_round.new.ctl (map share c.play_round.new.all.items) c.play_round.new.tolds.items in (
      subst (λ ts. Took start ts after) (sym (rounds_more c.loop-round.round courses))
          (took_more start (in_rounds c.loop-round.round courses) now (round_of c.loop-round.round courses) after c.loop-round.invariant.0 c.in_ok-play_round.ensures.took),
      c.in_ok-play_round.ensures.seated,
    )
