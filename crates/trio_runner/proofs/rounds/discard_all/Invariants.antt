use Rattle.std.proofs.Common.{vec_len}
use Rattle.trio_runner.proofs.rounds.discard_all.Given as goal

abbrev pub decreases-loop-player : goal.decreases-loop-player
decreases-loop-player g l = vec_len l.players
