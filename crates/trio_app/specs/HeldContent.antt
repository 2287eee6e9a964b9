-- What is left as it was of the files that an accepted bundle merely holds.
use Rattle.std.specs.Prelude.{◌≡◌}
use Rattle.trio_rights.specs.Bundle.{Bundle}
use Rattle.trio_state.specs.Step.{Event, CtlAnswer, Release, Settle, Accepted, Settled}

-- the event hands in this bundle, which is accepted
abbrev pub Accepts : Event → CtlAnswer → Bundle → Type 0
Accepts (Release lib b) answer c = (answer ≡ Accepted) × (b ≡ c)
Accepts (Settle lib b) answer c = (answer ≡ Settled) × (b ≡ c)
Accepts event answer c = ⊥
