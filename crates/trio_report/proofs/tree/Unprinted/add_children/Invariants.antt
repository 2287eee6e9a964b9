use Rattle.std.proofs.Common.{◌≡◌, ◌++◌, map, take}
use Rattle.trio_survey.specs.Seen.{listed_seen}
use Rattle.trio_report.specs.inner.Nodes.{node_seen, child_of}
use Rattle.trio_report.proofs.tree.Unprinted.add_children.Given as goal

abbrev pub invariant-loop-listed : goal.invariant-loop-listed
invariant-loop-listed l =
    map node_seen l.pending.items ≡ map node_seen l.initial.pending.items ++ map (child_of (node_seen l.self)) (map listed_seen (take l.listed-index l.listed-items))
