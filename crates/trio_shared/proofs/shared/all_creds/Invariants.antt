use Rattle.trio_shared.proofs.Words.{◌≡◌, take}
use Rattle.trio_shared.proofs.shared.all_creds.Given as goal

abbrev pub invariant-loop-k : goal.invariant-loop-k
invariant-loop-k l = (l.held ≡ l.fn.held) × (l.libs.items ≡ take l.k l.fn.held.state.creds)
