use Rattle.trio_shared.proofs.Words.{◌∙◌}
use Rattle.trio_shared.proofs.Seats.{starts}
use Rattle.trio_shared.proofs.cell.Shared.start.Goals as goal

pub returns-in-Ok-start-clause-seats : goal.returns-in-Ok-start-clause-seats
returns-in-Ok-start-clause-seats c =
    let t = c.in-Ok-start.ensures in
    λ k seat at.
    starts _ c.all_creds.new.held c.args.ctl (c.all_creds.ensures.same ∙ c.of-held.ensures) c.in-Ok-start.seats.items c.args.n t.value t.seats t.libraries.1 c.requires.libraries c.requires.idle k seat at
