use Rattle.trio_shared_tests.proofs.Sitting.{plays_first}
use Rattle.trio_shared_tests.proofs.pooled.plays.Goals as goal

pub is_told-told-requires-clause-plays : goal.is_told-told-requires-clause-plays
is_told-told-requires-clause-plays g c = plays_first _ _ _ c.requires.seat.sits c.empty_hands-raw.ensures
