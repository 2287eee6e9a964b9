use Rattle.trio_io.proofs.Moving.{Written}
use Rattle.trio_io.proofs.streams.write_all.Given as goal

abbrev pub invariant-loop : goal.invariant-loop
invariant-loop g l =
    Written (g.W.Write.contents l.fn.to) (g.W.Write.contents l.to) l.bytes l.written l.fn.errors.count l.errors.count
