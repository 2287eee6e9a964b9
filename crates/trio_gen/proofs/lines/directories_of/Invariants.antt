use Rattle.trio_gen.proofs.Words.{◌≡◌, directories_of}
use Rattle.trio_gen.proofs.lines.directories_of.Given as goal

abbrev pub invariant-loop-k : goal.invariant-loop-k
invariant-loop-k l = l.lines.items ≡ directories_of l.k
