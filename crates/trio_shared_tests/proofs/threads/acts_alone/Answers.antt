use Rattle.trio_shared_tests.proofs.Desks.{back_on}
use Rattle.trio_shared_tests.proofs.Sitting.{plays_first, sits_on}
use Rattle.trio_shared_tests.proofs.threads.acts_alone.Goals as goal

pub acts-is_well-requires : goal.acts-is_well-requires
acts-is_well-requires g c = plays_first _ _ _ c.requires.arrives.sits c.empty_hands-raw.ensures

pub returns : goal.returns
returns g c = back_on _ _ _ _ c.requires (sits_on _ _ _ _ c.acts-is_well.ensures)
