use Rattle.trio_open.proofs.Words.{In, subst, sym}
use Rattle.trio_open.proofs.Fullness.{full}
use Rattle.trio_open.proofs.full.is_full.Goals as goal

pub returns : goal.returns
returns c =
    full c.args.bundle.now
    (λ f i. c.are_leases_full.ensures f (subst (λ l. In f l) (sym c.writes.ensures) i))
    (λ p i. c.are_pages_full.ensures p (subst (λ l. In p l) (sym c.pages.ensures) i))
