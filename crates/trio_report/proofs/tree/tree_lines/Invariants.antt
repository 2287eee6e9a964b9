use Rattle.std.proofs.Common.{◌≡◌, ◌++◌, map}
use Rattle.trio_survey.specs.Stored.{core_in}
use Rattle.trio_layout.specs.Tree.{tree_of}
use Rattle.trio_report.specs.inner.Nodes.{node_seen}
use Rattle.trio_report.proofs.Trees.{AreReached, waiting_lines, waiting_visits}
use Rattle.trio_report.proofs.tree.tree_lines.Given as goal

abbrev pub invariant-loop-next : goal.invariant-loop-next
invariant-loop-next l = record {
  same : l.home.pages ≡ l.initial.home.pages;
  reached : AreReached (core_in l.superblock l.initial.home.pages) (map node_seen l.pending.items);
  tree : l.lines.items ++ waiting_lines (core_in l.superblock l.initial.home.pages) (map node_seen l.pending.items)
      ≡ tree_of (core_in l.superblock l.initial.home.pages);
}

abbrev pub decreases-loop-next : goal.decreases-loop-next
decreases-loop-next l =
    waiting_visits (core_in l.superblock l.initial.home.pages) (map node_seen l.pending.items)
