use Rattle.trio_session.proofs.Words.{◌∙◌, Bool, Made, ap, eqb, is_some, position, subst, sym}
use Rattle.trio_session.proofs.Insides.{files_in, view_shows}
use Rattle.trio_session.proofs.Seeing.{Shows, used-made, used-rest}
use Rattle.trio_session.proofs.session.Session.is_used.Goals as goal

pub returns-then-is_some : goal.returns-then-is_some
returns-then-is_some c =
    let s = c.self.inside in
    let fs = files_in s in
    let shows = subst (λ v. Shows v fs) c.self.view_is (view_shows s) in
    let p : Made → Bool = λ m. eqb m.ino c.args.ino in
    let asked = c.is_some.ensures ∙ ap is_some (c.made_of.ensures ∙ ap (position p) c.deref.ensures.value) in
    c.if-is_some.true ∙ sym (used-made c.args.self.now fs c.args.ino shows (sym asked ∙ c.if-is_some.true))

pub returns-else-is_some : goal.returns-else-is_some
returns-else-is_some c =
    let s = c.self.inside in
    let fs = files_in s in
    let shows = subst (λ v. Shows v fs) c.self.view_is (view_shows s) in
    let p : Made → Bool = λ m. eqb m.ino c.args.ino in
    let asked = c.is_some.ensures ∙ ap is_some (c.made_of.ensures ∙ ap (position p) c.deref.ensures.value) in
    let next = c.is_some-else-is_some.ensures ∙ ap is_some (c.made_of-else-is_some.ensures ∙ ap (position p) c.deref-else-is_some.ensures.value) in
    next ∙ sym (used-rest c.args.self.now fs c.args.ino shows (sym asked ∙ c.if-is_some.false))
