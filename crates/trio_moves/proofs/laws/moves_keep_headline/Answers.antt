use Rattle.trio_moves.proofs.Headline.{moves_keep_headline}
use Rattle.trio_moves.proofs.laws.moves_keep_headline.Goals as goal

pub returns : goal.returns
returns c = record { law = moves_keep_headline }
