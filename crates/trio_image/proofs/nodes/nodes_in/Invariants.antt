use Rattle.trio_image.proofs.Words.{◌≡◌, core_in, node_by_row, option_map, row_in, tabulated}
use Rattle.trio_image.proofs.nodes.nodes_in.Given as goal

abbrev pub invariant-loop-ino : goal.invariant-loop-ino
invariant-loop-ino l = record {
  same : l.home.pages ≡ l.initial.home.pages;
  so_far : l.nodes ≡ tabulated (λ n. option_map (node_by_row (core_in l.superblock l.initial.home.pages) n) (row_in l.rows n)) l.ino;
}
