use Rattle.trio_checkpoint.proofs.Bodies.{with_pages-with_body}
use Rattle.trio_checkpoint.proofs.laws.renewed_body_is_restored.Goals as goal

pub returns : goal.returns
returns c = record { law = with_pages-with_body }
