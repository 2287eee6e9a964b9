use Rattle.std.proofs.Common.{arith}
use Rattle.trio_io.proofs.Places.{place_of_lt}
use Rattle.trio_io.proofs.sure.SureFiles.new.Goals as goal

pub returns-clause-empty : goal.returns-clause-empty
returns-clause-empty c = λ q among. let lt = place_of_lt c.args.names.items q among in c.loop.invariant.empty _ (omega arith)
