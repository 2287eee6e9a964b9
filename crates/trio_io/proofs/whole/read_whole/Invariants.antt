use Rattle.trio_io.proofs.Loading.{Loading}
use Rattle.trio_io.proofs.whole.read_whole.Given as goal

abbrev pub invariant-loop : goal.invariant-loop
invariant-loop g l = Loading l.limit l.name (g.F.Files.seen l.fn.files) (g.F.Files.seen l.files) l.bytes.items l.counter
