use Rattle.trio_shared_tests.proofs.Words.{AreAll, IsNew, subst}
use Rattle.trio_shared_tests.proofs.Desks.{all_back, two_back}
use Rattle.trio_shared_tests.proofs.scenes.two_moves.Goals as goal

pub returns-then-seats-lt2 : goal.returns-then-seats-lt2
returns-then-seats-lt2 g c = all_back _ _ c.requires

pub returns : goal.returns
returns g c =
    let s = c.split_at_mut-firsts.ensures in
    two_back _ _ _ _ _ s.front_len (subst (AreAll IsNew _) s.value c.requires) c.moves_go_well.ensures.first c.moves_go_well.ensures.second
