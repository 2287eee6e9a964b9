use Rattle.trio_runner.proofs.Words.{AreSeated, Took, courses_from, in_rounds, map, table}
use Rattle.trio_runner.proofs.rounds.play_rounds.Given as goal

abbrev pub invariant-loop-round : goal.invariant-loop-round
invariant-loop-round g l =
    Took (table l.fn.ctl (map g.K.Kinds.share l.fn.all.items) l.fn.tolds.items) (in_rounds l.round (courses_from 1 l.libs)) (table l.ctl (map g.K.Kinds.share l.all.items) l.tolds.items)
    × AreSeated l.libs (map g.K.Kinds.share l.all.items) l.tolds.items
