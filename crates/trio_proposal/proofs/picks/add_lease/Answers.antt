use Rattle.trio_proposal.proofs.Words.{◌∙◌, None, ap, arith, is_some, sym}
use Rattle.std.proofs.lemmas.List.{get_or_read}
use Rattle.trio_proposal.proofs.Leases.{lent_again, lent_new, some_none}
use Rattle.trio_proposal.proofs.picks.add_lease.Goals as goal
use Rattle.trio_proposal.proofs.picks.add_lease.Goals.{then-at-len-via-then-at-len, then-at-len-via-else-at-len+then-is_some}

pub returns-then-at-len-clause-bodies : goal.returns-then-at-len-clause-bodies
returns-then-at-len-clause-bodies c = λ before h.
    let bodies = c.args.bodies.now.items in
    let at = c.args.lease.now.stands.ino in
    lent_again before bodies c.args.lease.now h
    (λ below.
    elim c.then-at-len.branch [
      | then-at-len-via-then-at-len w ↦ absurd (omega (arith, below, w.if-at-len.true, c.ino-at.ensures, c.len.ensures))
      | then-at-len-via-else-at-len+then-is_some w ↦
          let read = get_or_read bodies at w.index.result.now below (rw c.ino-at.ensures at w.index.ensures) None in
          ap is_some (sym read) ∙ sym w.if-is_some.ensures
    ])

pub returns-clause-bodies : goal.returns-clause-bodies
returns-clause-bodies c = λ before h.
    let bodies = c.args.bodies.now.items in
    let at = c.args.lease.now.stands.ino in
    let read = get_or_read bodies at c.index.result.now (omega (arith, c.if-at-len.false, c.ino-at.ensures, c.len.ensures)) (rw c.ino-at.ensures at c.index.ensures) None in
    let none = some_none _ (ap is_some (sym read) ∙ sym c.if-is_some.ensures) in
    rw (c.ino-at.ensures, c.body.ensures.body)
    (lent_new before bodies c.args.lease.now h (omega (arith, c.if-at-len.false, c.ino-at.ensures, c.len.ensures)) none)
