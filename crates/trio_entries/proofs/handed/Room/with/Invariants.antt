use Rattle.trio_entries.proofs.Words.{◌≡◌, length}
use Rattle.std.specs.List.{All}
use Rattle.trio_entries.specs.Drafts.{IsBuffer}
use Rattle.trio_entries.proofs.handed.Room.with.Given as goal

abbrev pub invariant-loop : goal.invariant-loop
invariant-loop l = (length l.buffers.items ≡ l.counter) × All IsBuffer l.buffers.items
