use Rattle.trio_shared_tests.proofs.Words.{◌∙◌, sym}
use Rattle.trio_shared_tests.proofs.Desks.{all_new}
use Rattle.trio_shared_tests.proofs.seats.start.Goals as goal

pub returns-in-Ok-start : goal.returns-in-Ok-start
returns-in-Ok-start c = let s = c.in-Ok-start.ensures in all_new _ _ _ s.seats (s.libraries.1 ∙ sym s.libraries.0)
