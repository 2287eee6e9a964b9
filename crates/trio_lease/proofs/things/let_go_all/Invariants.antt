use Rattle.std.proofs.Common.{vec_len}
use Rattle.trio_lease.proofs.things.let_go_all.Given as goal

-- how many are left
abbrev pub decreases-loop-thing : goal.decreases-loop-thing
decreases-loop-thing g l = vec_len l.things
