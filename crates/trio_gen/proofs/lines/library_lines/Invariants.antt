use Rattle.trio_gen.proofs.Words.{◌≡◌, library_lines}
use Rattle.trio_gen.proofs.lines.library_lines.Given as goal

abbrev pub invariant-loop-j : goal.invariant-loop-j
invariant-loop-j l = l.lines.items ≡ library_lines l.number l.j l.k
