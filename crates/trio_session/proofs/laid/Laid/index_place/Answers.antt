use Rattle.trio_session.proofs.Words.{Index, IsAt, chain_at, get_or, subst, sym}
use Rattle.trio_session.proofs.Chains.{index_kept, index_more}
use Rattle.trio_session.proofs.laid.Laid.index_place.Goals as goal

pub returns-then-i-self : goal.returns-then-i-self
returns-then-i-self c b is =
    subst (λ n. IsAt b (Index n c.args.i) (get_or (chain_at b c.args.file c.args.self.now).index c.args.i 0)) (sym c.lease.ensures)
    (index_kept b c.args.file c.args.self.now c.args.i is c.if-i-self.true)

pub returns-else-i-self : goal.returns-else-i-self
returns-else-i-self c b is = index_more b c.args.file c.args.self.now c.args.i c.index-at.result.now is c.if-i-self.false c.requires c.index-at.ensures
