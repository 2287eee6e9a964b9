use Rattle.trio_gen.proofs.Words.{◌∙◌, arith, part_in}
use Rattle.trio_gen.proofs.PathFacts.{IsPath-part_in}
use Rattle.trio_gen.proofs.paths.part_in.Goals as goal

pub read-requires : goal.read-requires
read-requires c =
    (part_in c.args.k c.args.part.now, IsPath-part_in c.args.k c.args.part.now c.as_bytes.result.now (omega arith) c.requires (c.as_bytes.ensures.value ∙ c.in_ok-format.ensures.ok))

pub returns : goal.returns
returns c =
    c.read.ensures (part_in c.args.k c.args.part.now) (IsPath-part_in c.args.k c.args.part.now c.as_bytes.result.now (omega arith) c.requires (c.as_bytes.ensures.value ∙ c.in_ok-format.ensures.ok))
