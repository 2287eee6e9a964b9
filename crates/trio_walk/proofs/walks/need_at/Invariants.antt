use Rattle.trio_walk.proofs.Words.{◌≡◌, drop, list_any}
use Rattle.trio_nodes.specs.Walk.{same_path}
use Rattle.trio_walk.proofs.walks.need_at.Given as goal

abbrev pub invariant-loop-path : goal.invariant-loop-path
invariant-loop-path l = list_any (same_path l.passed) (drop l.path-index l.writes) ≡ list_any (same_path l.passed) l.writes
