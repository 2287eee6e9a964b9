use Rattle.trio_runner.proofs.Words.{AreSeated, Took, courses_from, map, round_of, table, take}
use Rattle.trio_runner.proofs.rounds.play_round.Given as goal

abbrev pub invariant-loop-at : goal.invariant-loop-at
invariant-loop-at g l =
    Took (table l.fn.ctl (map g.K.Kinds.share l.fn.all.items) l.fn.tolds.items) (round_of l.round (take l.at (courses_from 1 l.libs))) (table l.ctl (map g.K.Kinds.share l.all.items) l.tolds.items)
    × AreSeated l.libs (map g.K.Kinds.share l.all.items) l.tolds.items
