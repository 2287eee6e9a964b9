use Rattle.std.proofs.Common.{vec_len}
use Rattle.trio_ctl_tests.proofs.hand_in.let_go.Given as goal

abbrev pub decreases-loop-lease : goal.decreases-loop-lease
decreases-loop-lease l = vec_len l.back
