use Rattle.trio_survey.proofs.Words.{◌++◌, ◌∙◌, ◌∷◌, ◌≡◌, None, [], ap, arith, get, length, nat_cmp, slice_cmp, slice_get, sym}
use Rattle.trio_survey.proofs.Naming.{numbered_more, slice_last}
use Rattle.trio_survey.proofs.names.KeptNames.add.Goals as goal

pub returns-in-Some-clause-number : goal.returns-in-Some-clause-number
returns-in-Some-clause-number c = c.requires.name_of c.args.name.now c.in-Some.number.now (sym c.in-Some.ensures.value)

pub returns-clause-numbered : goal.returns-clause-numbered
returns-clause-numbered c =
    let names = c.args.self.now.names.items in
    let name = c.args.name.now in
    let fresh : get (slice_cmp nat_cmp) c.args.self.now.numbers name ≡ None = sym c.in_default.ensures.value in
    let last : c.in-Ok.number ≡ length names = omega (arith, c.in-Ok.ensures, c.len.ensures) in
    rw c.in_ok-push.ensures.items (numbered_more names c.args.self.now.numbers c.insert.new.self name c.in-Ok.number c.requires last fresh c.in_ok-insert.ensures.updates.0)

pub returns-clause-number : goal.returns-clause-number
returns-clause-number c =
    let names = c.args.self.now.names.items in
    let name = c.args.name.now in
    let last : c.in-Ok.number ≡ length names = omega (arith, c.in-Ok.ensures, c.len.ensures) in
    rw c.in_ok-push.ensures.items (ap (slice_get (names ++ name ∷ [])) last ∙ slice_last names name)
