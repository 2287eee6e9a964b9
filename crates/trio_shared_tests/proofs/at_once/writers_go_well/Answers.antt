use Rattle.trio_shared_tests.proofs.Desks.{back_on}
use Rattle.trio_shared_tests.proofs.Sitting.{plays_first, plays_then, sits_on}
use Rattle.trio_shared_tests.proofs.Writing.{plays_written}
use Rattle.trio_shared_tests.proofs.at_once.writers_go_well.Goals as goal

pub asks-requires : goal.asks-requires
asks-requires g c = record { plays = plays_first _ _ _ c.requires.first.arrives.sits c.empty_hands-one.ensures }

pub asks-requires-2 : goal.asks-requires-2
asks-requires-2 g c = record { plays = plays_first _ _ _ c.requires.second.arrives.sits c.empty_hands-two.ensures }

pub hands_in-one_told-requires : goal.hands_in-one_told-requires
hands_in-one_told-requires g c = record { plays = plays_written _ _ _ _ c.asks.ensures.on.plays c.all_at_once-is_done.ensures.one }

pub hands_in-two_told-requires : goal.hands_in-two_told-requires
hands_in-two_told-requires g c = record { plays = plays_written _ _ _ _ c.asks-2.ensures.on.plays c.all_at_once-is_done.ensures.two }

pub returns-clause-first : goal.returns-clause-first
returns-clause-first g c = back_on _ _ _ _ c.requires.first (sits_on _ _ _ _ (plays_then _ _ _ _ _ _ c.asks.ensures.on c.hands_in-one_told.ensures.on))

pub returns-clause-second : goal.returns-clause-second
returns-clause-second g c = back_on _ _ _ _ c.requires.second (sits_on _ _ _ _ (plays_then _ _ _ _ _ _ c.asks-2.ensures.on c.hands_in-two_told.ensures.on))

pub returns-clause-third : goal.returns-clause-third
returns-clause-third g c = back_on _ _ _ _ c.requires.third c.all_at_once-is_done.ensures.third
