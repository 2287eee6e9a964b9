use Rattle.trio_shared_tests.proofs.Writing.{plays_written}
use Rattle.trio_shared_tests.proofs.threads.is_edited.Goals as goal

pub hands_in-requires : goal.hands_in-requires
hands_in-requires g c = record { plays = plays_written _ _ _ _ c.asks.ensures.on.plays (record { stays = c.poke-is_written.ensures.stands }) }
