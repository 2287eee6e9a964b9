use Rattle.trio_image.proofs.NoteParts.{size-nothing}
use Rattle.trio_image.proofs.notes.size_in.Goals as goal

pub returns-in-None : goal.returns-in-None
returns-in-None c = rw c.in-None.is size-nothing
