use Rattle.trio_tables.proofs.StoredLemmas.{owner_more}
use Rattle.trio_tables.proofs.owners.Owners.write_page.Goals as goal

pub loop-i-preserved : goal.loop-i-preserved
loop-i-preserved c =
    rw (c.put_u32_in.ensures, c.stored_owner.ensures) (owner_more c.args.self.now c.args.at c.loop-i.i c.loop-i.bytes c.requires c.loop-i-test.true c.loop-i.invariant)
