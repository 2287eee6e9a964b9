use Rattle.trio_shared_tests.proofs.Desks.{back_on}
use Rattle.trio_shared_tests.proofs.Sitting.{plays_first, sits_on}
use Rattle.trio_shared_tests.proofs.rows.steps_go_well.Goals as goal

pub are_told-are_told-requires-clause-one : goal.are_told-are_told-requires-clause-one
are_told-are_told-requires-clause-one g c = plays_first _ _ _ c.requires.one.arrives.sits c.empty_hands-ones.ensures

pub are_told-are_told-requires-clause-two : goal.are_told-are_told-requires-clause-two
are_told-are_told-requires-clause-two g c = plays_first _ _ _ c.requires.two.arrives.sits c.empty_hands-twos.ensures

pub returns-clause-one : goal.returns-clause-one
returns-clause-one g c = back_on _ _ _ _ c.requires.one (sits_on _ _ _ _ c.are_told-are_told.ensures.one)

pub returns-clause-two : goal.returns-clause-two
returns-clause-two g c = back_on _ _ _ _ c.requires.two (sits_on _ _ _ _ c.are_told-are_told.ensures.two)
