use Rattle.trio_case.proofs.Words.{◌∙◌, ◌≡◌, ap, bundle_in, bundle_pages, false, is_among, sym}
use Rattle.std.proofs.Common.{is_some}
use Rattle.trio_case.proofs.Ordered.{unplaced}
use Rattle.trio_case.proofs.OwnPages.{found_is_own, place_found, place_within}
use Rattle.trio_case.proofs.room.PageRoom.place.Goals as goal

pub returns-in-None-clause-place : goal.returns-in-None-clause-place
returns-in-None-clause-place c =
    let own = bundle_pages (bundle_in c.args.case.now.bundle) in
    let none : is_among c.args.page own ≡ false = sym (found_is_own c.args.case.now c.args.self.now.kept c.args.page c.find.result c.requires.pages c.find.ensures c.bundle-bundle.ensures.fits.core) ∙ ap is_some c.in-None.is in
    (sym (unplaced c.args.page own none))

pub returns-in-None-clause-own : goal.returns-in-None-clause-own
returns-in-None-clause-own c =
    let none : is_among c.args.page (bundle_pages (bundle_in c.args.case.now.bundle)) ≡ false = sym (found_is_own c.args.case.now c.args.self.now.kept c.args.page c.find.result c.requires.pages c.find.ensures c.bundle-bundle.ensures.fits.core) ∙ ap is_some c.in-None.is in
    (sym none)

pub returns-in-Some-clause-place : goal.returns-in-Some-clause-place
returns-in-Some-clause-place c = sym (place_found c.args.case.now c.args.self.now.kept c.args.page c.in-Some.at c.in-Some.field-0-1 c.requires.pages c.in-Some.ensures)

pub returns-in-Some-clause-own : goal.returns-in-Some-clause-own
returns-in-Some-clause-own c =
    sym (sym (found_is_own c.args.case.now c.args.self.now.kept c.args.page c.find.result c.requires.pages c.find.ensures c.bundle-bundle.ensures.fits.core) ∙ ap is_some c.in-Some.is)

pub returns-in-Some-clause-within : goal.returns-in-Some-clause-within
returns-in-Some-clause-within c = place_within c.args.case.now c.args.self.now.kept c.args.page c.in-Some.at c.in-Some.field-0-1 c.requires.pages c.in-Some.ensures
