use Rattle.trio_turn.proofs.Words.{◌<◌, ◌≡◌}
use Rattle.trio_turn.proofs.steps.draw.Given as goal

abbrev pub invariant-loop : goal.invariant-loop
invariant-loop g l = (l.token.table_id ≡ l.initial.token.table_id) × (l.token.me ≡ l.initial.token.me) × (l.next < 18446744073709551615)
