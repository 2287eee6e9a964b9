use Rattle.trio_gen.proofs.Words.{◌*◌, ◌^◌, ◌≡◌, ◌≤◌, TreeLine, sum_by, take}
use Rattle.trio_gen.specs.Summary.{size_of}
use Rattle.trio_gen.proofs.summary.bytes_in.Given as goal

abbrev pub invariant-loop-line : goal.invariant-loop-line
invariant-loop-line l = record {
  sum : l.bytes ≡ sum_by (λ (t : TreeLine). size_of t.kind t.size) (take l.line-index l.tree);
  small : l.bytes ≤ 18446744073709551615 * l.line-index;
}
