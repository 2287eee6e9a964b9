use Rattle.std.proofs.Common.{◌≡◌, ◌++◌, [], ◌∙◌, ap, append_assoc, arith, get_or, sym}
use Rattle.std.proofs.lemmas.Result.{err_from_is_err_and}
use Rattle.trio_auxdir.specs.declared.place.Place.{Place}
use Rattle.trio_session.specs.Seen.{entry_shown, pages_shown}
use Rattle.trio_deeds.specs.Names.{named_in}
use Rattle.trio_deeds.proofs.Listing.{entry_shown-page, names_below, names_below-more}
use Rattle.trio_deeds.proofs.names.add_names.Goals as goal

pub returns-in_err-add_name-clause-more : goal.returns-in_err-add_name-clause-more
returns-in_err-add_name-clause-more c = (let p = err_from_is_err_and c.from_residual.result c.from_residual.ensures.1 in rw p.1 tt)

pub loop-slot-preserved : goal.loop-slot-preserved
loop-slot-preserved c =
    let page = get_or (pages_shown c.args.session.now c.args.dir) c.args.block [] in
    let place : Place = record { block = c.args.block; slot = c.loop-slot.slot } in
    let entry = entry_shown c.args.session.now c.args.dir place in
    let here = entry_shown-page c.args.session.now c.args.dir place c.requires.block in (
      c.in_ok-add_name.ensures.more
          ∙ ap (λ l. l ++ named_in entry) c.loop-slot.invariant.0
          ∙ append_assoc c.args.names.now.items (names_below page c.loop-slot.slot) (named_in entry)
          ∙ ap (λ l. c.args.names.now.items ++ l) (ap (λ o. names_below page c.loop-slot.slot ++ named_in o) here ∙ sym (names_below-more page c.loop-slot.slot)),
      omega (arith, c.in_ok-add_name.ensures.few, c.loop-slot.invariant.1),
    )

pub returns-clause-more : goal.returns-clause-more
returns-clause-more c =
    let last : c.loop-slot.slot ≡ 16 = omega (arith, c.loop-slot-test.false, c.loop-slot.auto.slot-end) in
    c.loop-slot.invariant.0 ∙ ap (λ n. c.args.names.now.items ++ names_below (get_or (pages_shown c.args.session.now c.args.dir) c.args.block []) n) last
