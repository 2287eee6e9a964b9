use Rattle.trio_commit.proofs.Words.{◌∙◌, ap, looks_for, refl, sym}
use Rattle.trio_commit.proofs.Placing.{looks_other, raised_le, set_back}
use Rattle.trio_commit.proofs.bodies.move_on.Goals as goal

pub returns-in-Some-2-clause-pages : goal.returns-in-Some-2-clause-pages
returns-in-Some-2-clause-pages c =
    rw (c.take.ensures.home, c.take.ensures.number, c.take.ensures.page, set_back, c.put_back.ensures, c.in-Some.is) refl

pub returns-in-Some-2-clause-looked : goal.returns-in-Some-2-clause-looked
returns-in-Some-2-clause-looked c =
    let one = ap (looks_for c.args.no.0) c.in-Some.is ∙ looks_other c.in-Some.page c.args.no.0 (sym c.if-eq.ensures) in
    rw (c.take.ensures.home, c.put_back.ensures, one) (raised_le c.args.home.now.looked)

pub returns-in-Some-2-clause-reads : goal.returns-in-Some-2-clause-reads
returns-in-Some-2-clause-reads c =
    let one = ap (looks_for c.args.no.0) c.in-Some.is ∙ looks_other c.in-Some.page c.args.no.0 (sym c.if-eq.ensures) in
    rw (c.take.ensures.reads, one) (raised_le c.args.reads.now)

pub returns-in-None-clause-pages : goal.returns-in-None-clause-pages
returns-in-None-clause-pages c =
    rw (c.take-in-None.ensures.home, c.take-in-None.ensures.number, c.take-in-None.ensures.page, set_back, c.in-None.is) refl

pub returns-in-None-clause-looked : goal.returns-in-None-clause-looked
returns-in-None-clause-looked c =
    rw (c.take-in-None.ensures.home, c.in-None.is) (raised_le c.args.home.now.looked)

pub returns-in-None-clause-reads : goal.returns-in-None-clause-reads
returns-in-None-clause-reads c =
    rw (c.take-in-None.ensures.reads, c.in-None.is) (raised_le c.args.reads.now)
