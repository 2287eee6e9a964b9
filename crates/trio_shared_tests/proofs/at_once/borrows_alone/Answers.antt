use Rattle.trio_shared_tests.proofs.Sitting.{plays_first, sits_on}
use Rattle.trio_shared_tests.proofs.at_once.borrows_alone.Goals as goal

pub borrows-are_lent-requires : goal.borrows-are_lent-requires
borrows-are_lent-requires g c = plays_first _ _ _ c.requires c.empty_hands-raw.ensures

pub returns : goal.returns
returns g c = sits_on _ _ _ _ c.borrows-are_lent.ensures
