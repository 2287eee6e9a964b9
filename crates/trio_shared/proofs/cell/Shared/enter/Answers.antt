use Rattle.trio_shared.proofs.Words.{◌≤◌, Origin, length, library, seated, subst, sym}
use Rattle.trio_shared.proofs.Grown.{found}
use Rattle.trio_shared.proofs.cell.Shared.enter.Goals as goal

pub returns-clause-found : goal.returns-clause-found
returns-clause-found g c =
    let t = c.take-held.ensures in
    let is = c.requires.seat in
    found (seated c.args.seat.now) c.take-held.result t.grew t.mine t.first c.is_left.ensures
    (is.library.0, subst (λ (o : Origin). library c.args.seat.now ≤ length o.creds) (sym is.first) is.library.1)
    t.begun
