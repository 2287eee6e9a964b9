use Rattle.trio_shared_tests.proofs.Words.{◌∙◌, Held, LibSeat, OnList, desk, subst, sym}
use Rattle.trio_shared_tests.proofs.Writing.{plays_written}
use Rattle.trio_shared_tests.proofs.pooled.is_told.Goals as goal

pub release-requires : goal.release-requires
release-requires g c =
    let plays = plays_written _ _ _ _ c.asks.ensures.on.plays (record { stays = c.poke-is_spoiled.ensures.stands }) in
    record { stands = subst (λ (s : LibSeat Held). OnList (desk s).out c.poke-is_spoiled.new.self.has) (sym (c.of-desk.ensures.seat ∙ c.of-own.ensures.seat)) plays.on_list }
