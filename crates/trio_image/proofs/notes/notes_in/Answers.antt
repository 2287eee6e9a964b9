use Rattle.trio_image.proofs.Words.{◌∙◌}
use Rattle.trio_image.proofs.NoteParts.{tabulated-pushed}
use Rattle.trio_image.proofs.notes.notes_in.Goals as goal

pub loop-ino-preserved : goal.loop-ino-preserved
loop-ino-preserved c = record {
  same = c.note_at.ensures.pages ∙ c.loop-ino.invariant.same;
  so_far = c.in_ok-push.ensures.items ∙ tabulated-pushed _ c.loop-ino.ino _ _ c.loop-ino.invariant.so_far (rw c.loop-ino.invariant.same at c.note_at.ensures.note);
}
