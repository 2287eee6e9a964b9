use Rattle.trio_session.proofs.Words.{Finds, Laid, List, Made, option_map, subst}
use Rattle.trio_session.proofs.Insides.{files_in, view_shows}
use Rattle.trio_session.proofs.Seeing.{Shows, finds_file}
use Rattle.trio_session.proofs.session.Session.file_on.Goals as goal

pub returns : goal.returns
returns c =
    let s = c.self.inside in
    let o = option_map (λ o. (o.0, o.1.now)) c.file_among.result in
    let finds : Finds s.stock s.laid.items s.made.items c.args.ino o =
    subst (λ (ms : List Made). Finds s.stock s.laid.items ms c.args.ino o) c.deref-2.ensures.value
    (subst (λ (ls : List Laid). Finds s.stock ls c.deref-2.result.now c.args.ino o) c.deref.ensures.value c.file_among.ensures) in
    finds_file c.args.self.now (files_in s) c.args.ino o (subst (λ v. Shows v (files_in s)) c.self.view_is (view_shows s))
    c.self.invariant.0 c.self.invariant.3.apart c.self.invariant.3.made finds
