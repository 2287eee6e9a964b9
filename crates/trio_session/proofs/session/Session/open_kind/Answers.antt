use Rattle.trio_session.proofs.Words.{◌∙◌, Bool, List, Made, None, Some, ap, eqb, option_copied, position, subst, sym}
use Rattle.trio_session.proofs.Found.{position-same, slice_get-found}
use Rattle.trio_session.proofs.Insides.{files_in, view_shows}
use Rattle.trio_session.proofs.Seeing.{Shows, open_made, open_rest}
use Rattle.trio_session.proofs.session.Session.open_kind.Goals as goal

pub returns-in_err-write_on-in-None : goal.returns-in_err-write_on-in-None
returns-in_err-write_on-in-None c =
    let s = c.self.inside in
    let fs = files_in s in
    let shows = subst (λ v. Shows v fs) c.self.view_is (view_shows s) in
    let p : Made → Bool = λ m. eqb m.ino c.args.ino in
    let none = position-same p s.made.items c.deref.result.now c.made_of.result None c.deref.ensures.value c.made_of.ensures c.in-None.is in
    c.from_residual.ensures ∙ sym (open_rest c.args.self.now fs c.args.ino None shows none (sym c.write_on.ensures ∙ ap option_copied c.in_err-write_on-in-None.was))

pub returns-in-Some : goal.returns-in-Some
returns-in-Some c =
    let s = c.self.inside in
    let fs = files_in s in
    let shows = subst (λ v. Shows v fs) c.self.view_is (view_shows s) in
    let p : Made → Bool = λ m. eqb m.ino c.args.ino in
    let at = position-same p s.made.items c.deref.result.now c.made_of.result (Some c.in-Some.at) c.deref.ensures.value c.made_of.ensures c.in-Some.is in
    sym (open_made c.args.self.now fs c.args.ino c.in-Some.at c.index.result.now shows at (slice_get-found p s.made.items c.in-Some.at c.index.result.now at c.index.ensures))

pub returns-in_ok-write_on-in-None : goal.returns-in_ok-write_on-in-None
returns-in_ok-write_on-in-None c =
    let s = c.self.inside in
    let fs = files_in s in
    let shows = subst (λ v. Shows v fs) c.self.view_is (view_shows s) in
    let p : Made → Bool = λ m. eqb m.ino c.args.ino in
    let none = position-same p s.made.items c.deref.result.now c.made_of.result None c.deref.ensures.value c.made_of.ensures c.in-None.is in
    ap Some c.kind.ensures
    ∙ sym (open_rest c.args.self.now fs c.args.ino (Some c.in_ok-write_on-in-None.field-0.now) shows none (sym c.write_on.ensures ∙ ap option_copied c.in_ok-write_on-in-None.was))
