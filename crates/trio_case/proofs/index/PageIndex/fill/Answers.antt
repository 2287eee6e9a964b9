use Rattle.trio_case.proofs.Opening.{keeps_unread}
use Rattle.trio_case.proofs.index.PageIndex.fill.Goals as goal

pub fill-requires : goal.fill-requires
fill-requires c = rw c.bundle.ensures.bundle c.requires.room

pub returns : goal.returns
returns c = record {
  pages = keeps_unread c.args.case.now c.bundle.ensures.fits c.fill.new.self (rw c.bundle.ensures.bundle at c.fill.ensures.made);
  counted = rw c.bundle.ensures.bundle at c.fill.ensures.counted;
}
