use Rattle.trio_checkpoint.proofs.Words.{◌∙◌, ap, is_some}
use Rattle.trio_checkpoint.proofs.Bodies.{is_found}
use Rattle.trio_checkpoint.proofs.checkpoint.Checkpoint.body_at.Goals as goal

pub returns-in_err-block-clause-covered : goal.returns-in_err-block-clause-covered
returns-in_err-block-clause-covered c =
    ap is_some c.from_residual.ensures ∙ ap is_some c.in_err-block.ensures ∙ is_found c.args.page.0 c.args.self.now.blocks

pub returns-clause-covered : goal.returns-clause-covered
returns-clause-covered c = ap is_some c.in_ok-block.ensures ∙ is_found c.args.page.0 c.args.self.now.blocks
