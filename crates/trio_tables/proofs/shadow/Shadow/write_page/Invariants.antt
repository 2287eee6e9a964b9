use Rattle.trio_tables.proofs.StoredLemmas.{RowsWritten}
use Rattle.trio_tables.proofs.shadow.Shadow.write_page.Given as goal

abbrev pub invariant-loop-i : goal.invariant-loop-i
invariant-loop-i l = RowsWritten l.self l.at l.bytes l.i
