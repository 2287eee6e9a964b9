use Rattle.trio_session.proofs.Words.{◌||◌, ◌∙◌, ◌≡◌, Bool, HoldParts, List, Made, ap, eqb, false, find, is_some, option_copied, option_map, position, refl, serves, subst, sym, true}
use Rattle.trio_session.proofs.Insides.{files_in, view_shows}
use Rattle.trio_session.proofs.Seeing.{Shows, is_some-copied, serves_held, serves_made}
use Rattle.trio_session.proofs.session.Session.serves.Goals as goal

pub returns-then-is_some : goal.returns-then-is_some
returns-then-is_some c =
    let s = c.self.inside in
    let fs = files_in s in
    let shows = subst (λ v. Shows v fs) c.self.view_is (view_shows s) in
    let p : Made → Bool = λ m. eqb m.ino c.args.ino in
    let asked = c.is_some-in-Hold.ensures ∙ ap is_some (c.made_of.ensures ∙ ap (position p) c.deref.ensures.value) in
    c.if-is_some.true ∙ sym (ap (serves c.args.self.now c.args.ino) c.in-Hold.is ∙ serves_made c.args.self.now fs c.args.ino shows (sym asked ∙ c.if-is_some.true))

pub returns-else-is_some : goal.returns-else-is_some
returns-else-is_some c =
    let s = c.self.inside in
    let fs = files_in s in
    let shows = subst (λ v. Shows v fs) c.self.view_is (view_shows s) in
    let p : Made → Bool = λ m. eqb m.ino c.args.ino in
    let asked = c.is_some-in-Hold.ensures ∙ ap is_some (c.made_of.ensures ∙ ap (position p) c.deref.ensures.value) in
    c.is_some-else-is_some.ensures ∙ is_some-copied c.hold_on.result ∙ ap is_some c.hold_on.ensures
    ∙ sym (ap (serves c.args.self.now c.args.ino) c.in-Hold.is ∙ serves_held c.args.self.now fs c.args.ino shows (sym asked ∙ c.if-is_some.false))
