use Rattle.trio_laws.proofs.judgement.TablesAfter.{listing_gives_tables}
use Rattle.trio_laws.proofs.rules.listing_gives_tables.Goals as goal

pub returns : goal.returns
returns c = record { law = listing_gives_tables }
