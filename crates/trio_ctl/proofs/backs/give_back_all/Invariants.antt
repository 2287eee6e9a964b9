use Rattle.trio_ctl.proofs.Words.{reverse}
use Rattle.std.proofs.Common.{vec_len}
use Rattle.trio_ctl.proofs.LeasesBack.{Left}
use Rattle.trio_ctl.proofs.backs.give_back_all.Given as goal

abbrev pub invariant-loop-lease : goal.invariant-loop-lease
invariant-loop-lease l = Left l.lib l.registry l.log (reverse l.back.items) l.fn.registry l.fn.log l.fn.back.items

abbrev pub decreases-loop-lease : goal.decreases-loop-lease
decreases-loop-lease l = vec_len l.back
