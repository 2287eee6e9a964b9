use Rattle.trio_surveys.proofs.Trees.{image_is_tree}
use Rattle.trio_surveys.proofs.surveys.image_is_tree.Goals as goal

pub returns : goal.returns
returns c = record { law = image_is_tree }
