use Rattle.trio_checkpoint.proofs.Words.{◌++◌, ◌≡◌, renewed, take}
use Rattle.std.proofs.Common.{map, drop}
use Rattle.trio_checkpoint.proofs.page_copy.renew_all.Given as goal

abbrev pub invariant-loop-copy : goal.invariant-loop-copy
invariant-loop-copy l = l.copies ≡ map (renewed l.page.0 l.slot l.body) (take l.copy-index l.fn.copies) ++ drop l.copy-index l.fn.copies
