use Rattle.trio_commit.proofs.Words.{◌∙◌, None, arith}
use Rattle.trio_case.specs.declared.listing.ListedFile.{ListedFile}
use Rattle.trio_commit.proofs.Cells.{set_mapped}
use Rattle.trio_commit.proofs.restoring.end_grants.Goals as goal

pub loop-file-preserved : goal.loop-file-preserved
loop-file-preserved c =
    let turn = c.loop-file in
    c.take_checkpoint-ended.ensures.gone
    ∙ set_mapped None c.args.checkpoints.now.items turn.checkpoints.items (λ (f : ListedFile). f.ino) c.args.files.now turn.file-index _ (omega arith) turn.invariant
