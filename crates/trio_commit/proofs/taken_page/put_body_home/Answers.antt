use Rattle.trio_commit.proofs.Words.{refl}
use Rattle.trio_commit.proofs.Placing.{body_put}
use Rattle.trio_commit.proofs.taken_page.put_body_home.Goals as goal

pub returns-clause-home : goal.returns-clause-home
returns-clause-home c =
    rw (c.put_back.ensures, c.put_body.ensures, c.take-taken.ensures.home, c.take-taken.ensures.number, c.take-taken.ensures.page, body_put) refl
