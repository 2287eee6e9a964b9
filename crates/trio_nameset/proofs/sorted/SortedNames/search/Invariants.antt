use Rattle.trio_nameset.proofs.Search.{IsSearched}
use Rattle.trio_nameset.proofs.sorted.SortedNames.search.Given as goal

abbrev pub invariant-loop-i : goal.invariant-loop-i
invariant-loop-i l = IsSearched l.self.names.items l.name l.at l.i
