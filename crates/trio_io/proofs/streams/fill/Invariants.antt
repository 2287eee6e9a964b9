use Rattle.trio_io.proofs.Moving.{Filled}
use Rattle.trio_io.proofs.streams.fill.Given as goal

abbrev pub invariant-loop : goal.invariant-loop
invariant-loop g l =
    Filled (g.R.Read.remaining l.fn.from) (g.R.Read.remaining l.from) l.buf l.filled l.fn.errors.count l.errors.count
