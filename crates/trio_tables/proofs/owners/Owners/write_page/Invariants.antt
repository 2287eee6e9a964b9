use Rattle.trio_tables.proofs.StoredLemmas.{OwnersWritten}
use Rattle.trio_tables.proofs.owners.Owners.write_page.Given as goal

abbrev pub invariant-loop-i : goal.invariant-loop-i
invariant-loop-i l = OwnersWritten l.self l.at l.bytes l.i
