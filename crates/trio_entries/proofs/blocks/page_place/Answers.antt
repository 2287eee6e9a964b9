use Rattle.trio_entries.proofs.Words.{arith}
use Rattle.trio_entries.proofs.FlatPlaces.{page_absent, page_placed}
use Rattle.trio_entries.proofs.blocks.page_place.Goals as goal

pub returns-in-Some : goal.returns-in-Some
returns-in-Some c = page_placed c.args.case.now c.bundle-bundle.ensures.fits c.args.page c.in-Some.place c.in-Some.ensures

pub returns-in-None : goal.returns-in-None
returns-in-None c = page_absent c.args.case.now c.bundle-bundle.ensures.fits c.args.page 4294967295 (omega (arith, c.requires.few)) c.in-None.ensures
