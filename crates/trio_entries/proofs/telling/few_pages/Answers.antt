use Rattle.trio_entries.proofs.Words.{arith, bundle_in, bundle_pages}
use Rattle.trio_case.proofs.Making.{few_pages}
use Rattle.trio_entries.proofs.telling.few_pages.Goals as goal

pub returns : goal.returns
returns c =
    let few = few_pages c.args.range (bundle_pages (bundle_in c.args.bundle.now)) c.requires.core c.requires.apart in
    omega (arith, few)
