use Rattle.trio_shared_tests.proofs.Writing.{writes_then}
use Rattle.trio_shared_tests.proofs.threads.enters.Goals as goal

pub returns : goal.returns
returns c = writes_then _ _ _ (record { stays = c.poke-is_entered.ensures.stands }) (record { stays = c.poke-has_mode.ensures.stands })
