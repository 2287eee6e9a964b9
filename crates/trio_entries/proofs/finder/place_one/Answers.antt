use Rattle.trio_entries.proofs.Words.{◌∙◌, List, None, Option, ap, option_and_then, own_numbers, place_of, refl, sym, ℕ}
use Rattle.std.specs.Prelude.{slice_index_or}
use Rattle.trio_entries.proofs.Finding.{noted_more, noted_none}
use Rattle.trio_entries.proofs.finder.place_one.Goals as goal

pub returns-in-Some-clause-placed : goal.returns-in-Some-clause-placed
returns-in-Some-clause-placed c = λ n i.
    let own = own_numbers c.args.case.now in
    let o = place_of n own in
    ap (λ (l : List (Option ℕ)). option_and_then (λ at. slice_index_or l at None) o) c.note.ensures
    ∙ noted_more own c.args.judged.now.items c.args.number c.in-Some.slot c.args.at n o refl (sym c.in-Some.is ∙ c.own_place.ensures) c.requires i

pub returns-in_default-clause-placed : goal.returns-in_default-clause-placed
returns-in_default-clause-placed c = λ n i.
    let own = own_numbers c.args.case.now in
    noted_none own c.args.judged.now.items c.args.number c.args.at n (place_of n own) c.in_default.ensures i
