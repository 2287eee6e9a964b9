use Rattle.trio_commit.proofs.Words.{◌==◌, ◌∙◌, ◌≡◌, LentFile, Some, ap, as_row, false, ne_eqb, row_in, sym}
use Rattle.trio_commit.proofs.Placing.{one_placed}
use Rattle.trio_commit.proofs.bodies.put_lease.Goals as goal

pub put_at-requires-clause-slot : goal.put_at-requires-clause-slot
put_at-requires-clause-slot c =
    let f : LentFile = c.args.lease.now in
    let rows = c.args.rows.now in
    let other : (f.stands.ino == 1) ≡ false = ne_eqb f.stands.ino 1 (λ e. c.if-ino-eq-ROOT.false (c.ino.ensures ∙ e)) in
    let row : row_in rows f.stands.ino ≡ Some (as_row c.in-Some.row) = ap (row_in rows) (sym c.ino-2.ensures) ∙ sym c.in-Some.ensures in
    (one_placed rows c.args.checkpoints.now.items f (as_row c.in-Some.row) other row c.requires).slot

pub put_at-requires-clause-covered : goal.put_at-requires-clause-covered
put_at-requires-clause-covered c =
    let f : LentFile = c.args.lease.now in
    let rows = c.args.rows.now in
    let other : (f.stands.ino == 1) ≡ false = ne_eqb f.stands.ino 1 (λ e. c.if-ino-eq-ROOT.false (c.ino.ensures ∙ e)) in
    let row : row_in rows f.stands.ino ≡ Some (as_row c.in-Some.row) = ap (row_in rows) (sym c.ino-2.ensures) ∙ sym c.in-Some.ensures in
    (one_placed rows c.args.checkpoints.now.items f (as_row c.in-Some.row) other row c.requires).covered
