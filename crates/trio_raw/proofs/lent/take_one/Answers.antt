use Rattle.trio_raw.proofs.Words.{◌∙◌, ◌≡◌, None, Some, eqb, position, sym}
use Rattle.trio_raw.proofs.Places.{place_missing, place_found, place_rest, without-same}
use Rattle.trio_raw.proofs.lent.take_one.Goals as goal

pub returns-in-Some-clause-taken : goal.returns-in-Some-clause-taken
returns-in-Some-clause-taken g c =
    let at : position (λ x. eqb (g.T.Lent.number_of x) c.args.number) c.args.things.now.items ≡ Some c.in-Some.i =
    rw (← c.deref.ensures.value) (sym c.place_of.ensures ∙ c.in-Some.is) in
    sym (place_found g.T.Lent.number_of c.args.things.now.items c.args.number c.in-Some.i c.remove.result at c.remove.ensures.value)

pub returns-in-Some-clause-rest : goal.returns-in-Some-clause-rest
returns-in-Some-clause-rest g c =
    let at : position (λ x. eqb (g.T.Lent.number_of x) c.args.number) c.args.things.now.items ≡ Some c.in-Some.i =
    rw (← c.deref.ensures.value) (sym c.place_of.ensures ∙ c.in-Some.is) in
    rw c.remove.ensures.items (place_rest g.T.Lent.number_of c.args.things.now.items c.args.number c.in-Some.i at)

pub returns-in-None-clause-taken : goal.returns-in-None-clause-taken
returns-in-None-clause-taken g c =
    let at : position (λ x. eqb (g.T.Lent.number_of x) c.args.number) c.args.things.now.items ≡ None =
    rw (← c.deref.ensures.value) (sym c.place_of.ensures ∙ c.in-None.is) in
    sym (place_missing g.T.Lent.number_of c.args.things.now.items c.args.number at)

pub returns-in-None-clause-rest : goal.returns-in-None-clause-rest
returns-in-None-clause-rest g c =
    let at : position (λ x. eqb (g.T.Lent.number_of x) c.args.number) c.args.things.now.items ≡ None =
    rw (← c.deref.ensures.value) (sym c.place_of.ensures ∙ c.in-None.is) in
    sym (without-same g.T.Lent.number_of c.args.things.now.items c.args.number (place_missing g.T.Lent.number_of c.args.things.now.items c.args.number at))
