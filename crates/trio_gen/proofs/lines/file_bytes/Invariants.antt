use Rattle.trio_gen.proofs.Words.{◌%◌, ◌+◌, ◌≡◌}
use Rattle.trio_lists.specs.Lists.{tabulated}
use Rattle.trio_gen.proofs.lines.file_bytes.Given as goal

abbrev pub invariant-loop-t : goal.invariant-loop-t
invariant-loop-t l = l.bytes.items ≡ tabulated (λ t. 97 + (l.j + t) % 26) l.t
