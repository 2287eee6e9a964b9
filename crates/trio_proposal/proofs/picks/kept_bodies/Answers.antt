use Rattle.trio_proposal.proofs.Words.{ArePlaced, subst, sym}
use Rattle.trio_proposal.proofs.picks.kept_bodies.Goals as goal

pub kept_body-requires : goal.kept_body-requires
kept_body-requires c = subst (λ pages. ArePlaced pages c.args.rows.now) (sym c.loop-ino.invariant.same) c.requires
