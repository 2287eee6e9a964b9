use Rattle.trio_entries.proofs.Words.{◌∙◌, InoParts, LentFile, None, Some, map, sym}
use Rattle.trio_entries.proofs.Finding.{more_placed}
use Rattle.trio_entries.proofs.finder.lease_on.Goals as goal

pub returns-in_err-at : goal.returns-in_err-at
returns-in_err-at c =
    let b = c.args.case.now.bundle in
    rw c.from_residual.ensures (sym (more_placed (λ (f : LentFile). f.stands.ino) c.args.ino b.writes (map (λ (n : InoParts). n.no) b.inodes) None c.in_err-at.ensures))

pub returns : goal.returns
returns c =
    let b = c.args.case.now.bundle in
    c.lease_at.ensures ∙ sym (more_placed (λ (f : LentFile). f.stands.ino) c.args.ino b.writes (map (λ (n : InoParts). n.no) b.inodes) (Some c.in_ok-at.at) c.in_ok-at.ensures)
