use Rattle.trio_gen.proofs.Words.{refl}
use Rattle.trio_gen.proofs.Summaries.{tally_is}
use Rattle.trio_gen.proofs.summary.tally_of.Goals as goal

pub returns : goal.returns
returns c = tally_is (λ a. a.now) c.args.answers.now _ _ _ _ c.args.tree.now refl c.count_ok.ensures c.count_busy.ensures c.bytes_in.ensures
