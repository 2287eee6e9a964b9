use Rattle.trio_runner.proofs.Words.{◌≡◌, ◌≤◌, AreNew, length, map, take}
use Rattle.std.proofs.Common.{vec_capacity}
use Rattle.trio_runner.proofs.rounds.new_players.Given as goal

abbrev pub invariant-loop-n : goal.invariant-loop-n
invariant-loop-n g l = AreNew 1 (take l.n l.libs) (map g.K.Kinds.share l.players.items) × (length l.players.items ≡ l.n) × (length l.libs ≤ vec_capacity l.players)
