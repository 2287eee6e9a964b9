use Rattle.trio_case.proofs.Words.{◌∙◌, ◌≡◌, ap, bundle_in, bundle_pages, false, is_among, sym}
use Rattle.std.proofs.Common.{is_some}
use Rattle.trio_case.proofs.OwnPages.{counted_place, found_is_own, uncounted}
use Rattle.trio_case.proofs.index.PageIndex.nth.Goals as goal

pub returns-in-Some : goal.returns-in-Some
returns-in-Some c =
    sym (counted_place c.args.case.now c.args.self.now.kept c.args.no c.in-Some.field-0-0 c.in-Some.page c.requires.pages c.requires.counted c.in-Some.ensures c.bundle-bundle.ensures.fits.pages)

pub returns-in-None : goal.returns-in-None
returns-in-None c =
    let k = c.args.case.now in
    let none : is_among c.args.no (bundle_pages (bundle_in k.bundle)) ≡ false = sym (found_is_own k c.args.self.now.kept c.args.no c.find.result c.requires.pages c.find.ensures c.bundle-bundle.ensures.fits.core) ∙ ap is_some c.in-None.is in
    sym (uncounted k c.args.no none)
