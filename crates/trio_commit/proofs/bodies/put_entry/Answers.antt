use Rattle.trio_commit.proofs.Words.{ap, entry_seen, kept_body, sym, with_taken}
use Rattle.trio_commit.proofs.Placing.{entry_put}
use Rattle.trio_commit.proofs.bodies.put_entry.Goals as goal

pub returns-clause-pages : goal.returns-clause-pages
returns-clause-pages c =
    let e = entry_seen c.args.entry.now in
    let taken = c.move_on-page in
    rw c.put_body.ensures
    (entry_put taken.new.home.pages (with_taken c.args.taken c.args.home.now.pages) taken.result e c.in-Some.body.now (kept_body c.args.checkpoints.now e)
    (sym c.in-Some.ensures) c.requires.no_root (ap (λ n. n.0) taken.ensures.number) taken.ensures.page taken.ensures.pages)
