use Rattle.trio_onetree.proofs.Words.{◌≡◌, drop, paths_of, take, walk, walk_from}
use Rattle.trio_onetree.proofs.walk.walk.Given as goal

abbrev pub invariant-loop-i : goal.invariant-loop-i
invariant-loop-i l = walk_from l.nodes l.creds (paths_of l.writes) (take l.i l.path) l.at (drop l.i l.path) ≡ walk l.nodes l.creds (paths_of l.writes) l.path
