use Rattle.trio_edit_laws.proofs.session.Fresh.{fresh_is_untouched, fresh_is_free, fresh_is_new}
use Rattle.trio_edit_laws.proofs.in_hand.fresh_is_none_in_hand.Goals as goal

pub returns : goal.returns
returns c = record { writes = fresh_is_untouched; holds = fresh_is_free; pages = fresh_is_new }
