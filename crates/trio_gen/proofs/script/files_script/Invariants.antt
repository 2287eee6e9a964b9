use Rattle.trio_gen.proofs.Words.{◌*◌, ◌+◌, ◌≡◌, ◌≤◌, libraries_at, libraries_lines, line_behind}
use Rattle.trio_gen.proofs.script.files_script.Given as goal

abbrev pub invariant-loop-k : goal.invariant-loop-k
invariant-loop-k l = record {
  libs : l.libs.items ≡ libraries_at 1 (libraries_lines l.number l.files l.k);
  next : l.next ≡ line_behind 1 (libraries_lines l.number l.files l.k);
  low : l.next ≤ 1 + 5001 * l.k;
}
