-- A library after it has written into what it has.
use Rattle.trio_shared_tests.proofs.Words.{Has, LibSeat, Plays, PlaysOn, Shared, WritesOn, refl}
use Rattle.trio_shared.specs.declared.held.Held as shared

pub writes_here : (has : Has) → WritesOn has has
writes_here has = record { stays = λ out h. h }

pub writes_then : (old now new : Has) → WritesOn old now → WritesOn now new → WritesOn old new
writes_then old now new a b = record { stays = λ out h. b.stays out (a.stays out h) }

-- it plays as before
pub plays_written : (sh : Shared) (seat : LibSeat shared.Held) (old new : Has) → Plays sh seat old → WritesOn old new → Plays sh seat new
plays_written sh seat old new p w = record { sits = p.sits; on_list = w.stays _ p.on_list }

pub written_on : (sh : Shared) (seat : LibSeat shared.Held) (old new : Has) → Plays sh seat old → WritesOn old new → PlaysOn sh seat seat new
written_on sh seat old new p w = record { plays = plays_written sh seat old new p w; library = refl }
