use Rattle.trio_shared_tests.proofs.Words.{AreAll, IsNew, subst}
use Rattle.trio_shared_tests.proofs.Desks.{all_back, two_back}
use Rattle.trio_shared_tests.proofs.scenes.steps.Goals as goal

pub returns-then-seats-lt2 : goal.returns-then-seats-lt2
returns-then-seats-lt2 g c = all_back _ _ c.requires

pub returns : goal.returns
returns g c =
    let s = c.split_at_mut-ones.ensures in
    two_back _ _ _ _ _ s.front_len (subst (AreAll IsNew _) s.value c.requires) c.steps_go_well.ensures.one c.steps_go_well.ensures.two
