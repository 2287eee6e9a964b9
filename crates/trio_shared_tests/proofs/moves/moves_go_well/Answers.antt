use Rattle.trio_shared_tests.proofs.Words.{◌∙◌}
use Rattle.trio_shared_tests.proofs.Desks.{back_on}
use Rattle.trio_shared_tests.proofs.moves.moves_go_well.Goals as goal

pub is_between-requires-clause-first : goal.is_between-requires-clause-first
is_between-requires-clause-first g c = c.requires.first.arrives.sits

pub is_between-requires-clause-second : goal.is_between-requires-clause-second
is_between-requires-clause-second g c = c.requires.second.arrives.sits

pub returns-clause-first : goal.returns-clause-first
returns-clause-first g c = record { is_seat = c.is_between.ensures.first.0; numbered = c.is_between.ensures.first.1 ∙ c.requires.first.numbered }

pub returns-clause-second : goal.returns-clause-second
returns-clause-second g c = back_on _ _ _ _ c.requires.second c.is_between.ensures.second
