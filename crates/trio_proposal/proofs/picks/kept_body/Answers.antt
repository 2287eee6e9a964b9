use Rattle.trio_proposal.proofs.Words.{sym}
use Rattle.trio_tables.specs.Row.{as_row}
use Rattle.trio_proposal.proofs.picks.kept_body.Goals as goal

pub body_at-requires-clause-slot : goal.body_at-requires-clause-slot
body_at-requires-clause-slot c = (c.requires c.args.ino (as_row c.in_ok-row.row) (sym c.in_ok-row.ensures) c.if-ino-eq1.false).0

pub body_at-requires-clause-there : goal.body_at-requires-clause-there
body_at-requires-clause-there c = (c.requires c.args.ino (as_row c.in_ok-row.row) (sym c.in_ok-row.ensures) c.if-ino-eq1.false).1
