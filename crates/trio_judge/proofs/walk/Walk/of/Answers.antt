use Rattle.trio_judge.proofs.Words.{◌++◌, ◌∙◌, HasListingRoom, ap, arith, case_in, false, length, refl, replicate, rules, subst, sym}
use Rattle.trio_judge.proofs.Starting.{starts}
use Rattle.trio_judge.proofs.walk.Walk.of.Goals as goal

pub returns : goal.returns
returns c =
    let k = c.args.case.now in
    let m = c.requires.memory in
    starts k _ c.bundle-bundle.ensures.fits c.written_files.ensures.files c.written_files.ensures.places
    (search rules)
    (c.add_marks-3.ensures.items ∙ ap (λ xs. xs ++ replicate c.args.count false) m.no_pages ∙ ap (λ n. replicate n false) c.requires.count) (omega (arith, c.add_marks-3.ensures.len, c.requires.count, ap length m.no_pages)) refl refl
    c.held_listing.ensures.listing (subst (HasListingRoom (case_in k)) (sym c.held_listing.ensures.room) m.room)
