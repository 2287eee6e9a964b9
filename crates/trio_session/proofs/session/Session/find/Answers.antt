use Rattle.trio_session.proofs.Words.{◌∙◌, ◌≡◌, Bool, In, In-is_among, IndexedDir, List, None, SessionSeen, Some, ap, cond, eqb, false, find, is_among, is_among-not, kind_shown, option_copied, place_of, subst, sym, true}
use Rattle.trio_page.specs.Home.{raised}
use Rattle.trio_session.specs.contracts.session.Session.{the_view}
use Rattle.trio_session.proofs.Dirs.{dir_among, dir_missed}
use Rattle.trio_session.proofs.Indexed.{dir_index, index_missing, place_of-index, place_of-missing}
use Rattle.trio_session.proofs.session.Session.find.Goals as goal

pub returns-in-Some-clause-place : goal.returns-in-Some-clause-place
returns-in-Some-clause-place c =
    let v = c.args.self.now in
    let s = c.self.inside in
    let slots = c.in-Some.indexed.now.dir.slots in
    c.in_directory.ensures slots c.args.name.now c.find.ensures.place ∙ ap (λ k. place_of k slots c.args.name.now) c.kind-kind.ensures
    ∙ place_of-index v c.args.dir slots c.args.name.now
    (λ shown. dir_index v s c.args.dir c.index_on.result c.deref.result.now c.in-Some.indexed c.self.view_is c.self.invariant shown c.deref.ensures.value c.index_on.ensures c.in-Some.is)

pub returns-in-Some-clause-counted : goal.returns-in-Some-clause-counted
returns-in-Some-clause-counted c =
    let dirs = c.self.inside.dirs.items in
    let v : SessionSeen = the_view c.self.inside in
    let found : find (λ (d : IndexedDir). eqb d.ino c.args.dir) dirs ≡ Some c.in-Some.indexed.now =
    ap (find (λ (d : IndexedDir). eqb d.ino c.args.dir)) (sym c.deref.ensures.value) ∙ sym c.index_on.ensures ∙ ap option_copied c.in-Some.is in
    let among : is_among c.args.dir v.indexed ≡ true = In-is_among c.args.dir v.indexed (dir_among dirs c.args.dir c.in-Some.indexed.now found) in
    ap (λ n. record v { finds = n }) c.find.ensures.counted
    ∙ sym (ap (λ b. record v { finds = cond b (raised v.finds) v.finds }) among)
    ∙ ap (λ (s : SessionSeen). record s { finds = cond (is_among c.args.dir s.indexed) (raised s.finds) s.finds }) c.self.view_is

pub returns-in-None-clause-place : goal.returns-in-None-clause-place
returns-in-None-clause-place c =
    place_of-missing c.args.self.now c.args.dir c.args.name.now (λ shown.
    index_missing c.args.self.now c.self.inside c.args.dir c.index_on.result c.deref.result.now c.self.view_is (c.requires shown) c.deref.ensures.value c.index_on.ensures c.in-None.is)

pub returns-in-None-clause-counted : goal.returns-in-None-clause-counted
returns-in-None-clause-counted c =
    let dirs = c.self.inside.dirs.items in
    let v : SessionSeen = the_view c.self.inside in
    let missed : find (λ (d : IndexedDir). eqb d.ino c.args.dir) dirs ≡ None =
    ap (find (λ (d : IndexedDir). eqb d.ino c.args.dir)) (sym c.deref.ensures.value) ∙ sym c.index_on.ensures ∙ ap option_copied c.in-None.is in
    let among : is_among c.args.dir v.indexed ≡ false = is_among-not c.args.dir v.indexed (dir_missed dirs c.args.dir missed) in
    let s = c.args.self.now in
    let none : is_among c.args.dir s.indexed ≡ false = ap (λ (x : SessionSeen). is_among c.args.dir x.indexed) (sym c.self.view_is) ∙ among in
    sym (ap (λ b. record s { finds = cond b (raised s.finds) s.finds }) none)
