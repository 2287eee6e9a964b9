use Rattle.trio_walk.proofs.Words.{◌∙◌}
use Rattle.trio_onetree.proofs.PathFacts.{same_path-pointwise}
use Rattle.trio_walk.proofs.walks.same_path.Goals as goal

pub returns : goal.returns
returns c = c.eq.ensures ∙ same_path-pointwise c.args.path.now c.args.other.now
