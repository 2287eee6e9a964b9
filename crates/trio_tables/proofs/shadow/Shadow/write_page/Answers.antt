use Rattle.trio_tables.proofs.StoredLemmas.{row_more}
use Rattle.trio_tables.proofs.shadow.Shadow.write_page.Goals as goal

pub loop-i-preserved : goal.loop-i-preserved
loop-i-preserved c =
    rw c.write_row.ensures (row_more c.args.self.now c.args.at c.loop-i.i c.loop-i.bytes c.requires c.loop-i-test.true c.loop-i.invariant)
