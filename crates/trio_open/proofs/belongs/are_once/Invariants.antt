use Rattle.trio_open.proofs.Words.{◌≡◌, [], are_new, drop, map, take}
use Rattle.trio_open.proofs.belongs.are_once.Given as goal

-- what is left is new after what came before exactly where all stand once
abbrev pub invariant-loop-i : goal.invariant-loop-i
invariant-loop-i g l = are_new (map g.T.Numbered.number_of (take l.i l.things)) (map g.T.Numbered.number_of (drop l.i l.things)) ≡ are_new [] (map g.T.Numbered.number_of l.things)
