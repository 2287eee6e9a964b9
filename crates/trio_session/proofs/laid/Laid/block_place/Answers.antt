use Rattle.trio_session.proofs.Words.{Block, IsAt, chain_at, get_or, subst, sym}
use Rattle.trio_session.proofs.Chains.{block_kept, block_more}
use Rattle.trio_session.proofs.laid.Laid.block_place.Goals as goal

pub returns-then-k-self : goal.returns-then-k-self
returns-then-k-self c b is =
    subst (λ n. IsAt b (Block n c.args.k) (get_or (chain_at b c.args.file c.args.self.now).blocks c.args.k 0)) (sym c.lease.ensures)
    (block_kept b c.args.file c.args.self.now c.args.k is c.if-k-self.true)

pub returns-else-k-self : goal.returns-else-k-self
returns-else-k-self c b is = block_more b c.args.file c.args.self.now c.args.k c.index-at.result.now is c.if-k-self.false c.requires c.index-at.ensures
