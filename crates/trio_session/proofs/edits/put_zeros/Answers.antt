use Rattle.trio_session.proofs.Words.{◌∙◌, ap, chain_at, put_bytes}
use Rattle.trio_page.specs.Field.{zeros}
use Rattle.trio_page.proofs.Zeros.{take-zeros}
use Rattle.trio_session.proofs.edits.put_zeros.Goals as goal

pub returns : goal.returns
unfolding zeros
returns c = c.put_bytes.ensures ∙ ap (λ w. put_bytes (chain_at c.args.stock.now c.args.file c.args.laid.now).blocks c.args.at w c.args.stock.now) (take-zeros c.args.count 4096 c.requires.short)
