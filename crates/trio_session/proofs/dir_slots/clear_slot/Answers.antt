use Rattle.trio_page.specs.Field.{zeros}
use Rattle.trio_session.proofs.dir_slots.clear_slot.Goals as goal

pub returns-clause-cleared : goal.returns-clause-cleared
unfolding zeros
returns-clause-cleared c = c.put_part.ensures
