use Rattle.trio_gen.proofs.Words.{◌∙◌, arith, home}
use Rattle.trio_gen.proofs.PathFacts.{IsPath-home}
use Rattle.trio_gen.proofs.paths.home.Goals as goal

pub read-requires : goal.read-requires
read-requires c = (home c.args.k, IsPath-home c.args.k c.as_bytes.result.now (omega arith) (c.as_bytes.ensures.value ∙ c.in_ok-format.ensures.ok))

pub returns : goal.returns
returns c = c.read.ensures (home c.args.k) (IsPath-home c.args.k c.as_bytes.result.now (omega arith) (c.as_bytes.ensures.value ∙ c.in_ok-format.ensures.ok))
