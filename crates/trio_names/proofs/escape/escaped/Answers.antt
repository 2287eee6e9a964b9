use Rattle.std.proofs.Math.Facts.{Fits-lt-pow}
use Rattle.trio_names.proofs.Visible.{visible}
use Rattle.trio_names.proofs.escape.escaped.Goals as goal

pub returns-clause-visible : goal.returns-clause-visible
returns-clause-visible c = visible c.args.bytes.now c.loop-byte.text.items c.loop-byte.byte-index (λ i. Fits-lt-pow (c.type_inv.bytes i)) c.loop-byte.invariant c.loop-byte-test.false
