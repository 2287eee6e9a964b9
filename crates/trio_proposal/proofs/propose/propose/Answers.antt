use Rattle.trio_proposal.proofs.Words.{AreWithin, bundle_in, bundle_sheets, length, subst, sym}
use Rattle.trio_proposal.proofs.propose.propose.Goals as goal

pub put_bundle-requires : goal.put_bundle-requires
put_bundle-requires c =
    subst (λ pages. AreWithin (length pages) (bundle_sheets (bundle_in c.args.bundle.now))) (sym c.in_ok-kept.ensures.home) c.requires.within
