use Rattle.trio_gen.proofs.Words.{◌++◌, ◌+◌, ◌≡◌, length, numbered}
use Rattle.std.specs.Vec.Iter.{into_iter_items}
use Rattle.trio_gen.proofs.script.numbered.Given as goal

abbrev pub invariant-loop-line : goal.invariant-loop-line
invariant-loop-line l =
    (goal.iterator-loop-line).can_next l.line-iterator ×
    (goal.iterator-loop-line).is_finite l.line-iterator ×
    (l.all.items ++ numbered l.number (into_iter_items l.line-iterator) ≡ numbered l.first l.fn.lines.items) ×
    (l.number + length (into_iter_items l.line-iterator) ≡ l.first + length l.fn.lines.items)
