use Rattle.trio_gen.proofs.Words.{◌∙◌, arith, file_in}
use Rattle.trio_gen.proofs.PathFacts.{IsPath-file_in}
use Rattle.trio_gen.proofs.paths.file_in.Goals as goal

pub read-requires : goal.read-requires
read-requires c =
    (file_in c.args.k c.args.part.now c.args.j, IsPath-file_in c.args.k c.args.part.now c.args.j c.as_bytes.result.now (omega arith) (omega arith) c.requires (c.as_bytes.ensures.value ∙ c.in_ok-format.ensures.ok))

pub returns : goal.returns
returns c =
    c.read.ensures (file_in c.args.k c.args.part.now c.args.j)
    (IsPath-file_in c.args.k c.args.part.now c.args.j c.as_bytes.result.now (omega arith) (omega arith) c.requires (c.as_bytes.ensures.value ∙ c.in_ok-format.ensures.ok))
