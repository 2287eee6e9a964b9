use Rattle.trio_case.proofs.Words.{◌≡◌, body_lent, option_copied}
use Rattle.trio_case.proofs.CaseRows.{body_from, held_from, held_is, lent_is}
use Rattle.trio_case.proofs.case.Case.lent_body.Goals as goal

pub returns-clause-held : goal.returns-clause-held
returns-clause-held c =
    let holds = c.self.inside.bundle.holds in
    let body : option_copied c.body_lent.result ≡ body_lent holds c.args.ino = rw c.holds.ensures at c.body_lent.ensures in
    rw (← c.self.view_is) (held_from c.body_lent.result (body_lent holds c.args.ino) _ body (held_is holds c.args.ino))

pub returns-clause-body : goal.returns-clause-body
returns-clause-body c =
    let holds = c.self.inside.bundle.holds in
    let body : option_copied c.body_lent.result ≡ body_lent holds c.args.ino = rw c.holds.ensures at c.body_lent.ensures in
    let own = rw (lent_is holds c.args.ino) at (body_from c.body_lent.result (body_lent holds c.args.ino) body) in
    rw (← c.self.view_is) own
