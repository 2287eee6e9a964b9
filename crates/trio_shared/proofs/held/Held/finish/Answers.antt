use Rattle.trio_shared.proofs.Words.{◌++◌, ◌∙◌, ◌≡◌, Acts, Answered, AreMarked, Controller, End, EndsHere, IsAwaited, LibNo, Release, ap, bundle_in, case_shown, entries_made, handed_in, subst, sym, underway_of, verdict_of, with_bundle}
use Rattle.std.proofs.Common.{rules}
use Rattle.trio_shared.proofs.held.Held.finish.Goals as goal

pub finish-requires-clause-marked : goal.finish-requires-clause-marked
finish-requires-clause-marked c =
    let mine : c.args.judged.case.lib ≡ c.args.lib = search rules in
    subst (λ (l : LibNo). AreMarked c.self.inside.ctl.state l.0 (handed_in c.args.judged.case.bundle)) (sym mine)
    (subst (λ (x : Controller). AreMarked x.state c.args.lib.0 (handed_in c.args.judged.case.bundle)) (sym c.self.view_is) (c.requires.marked mine))

pub returns-clause-ends : goal.returns-clause-ends
returns-clause-ends c =
    let x = c.self.inside.ctl in
    let k = c.args.judged.case in
    let mine : c.args.judged.case.lib ≡ c.args.lib = search rules in
    let awaited : IsAwaited (underway_of c.self.inside.ctl) c.args.judged.case.lib.0 (case_shown c.args.judged.case) = search rules in
    let e = c.finish.ensures in
    subst (λ (z : Controller). EndsHere z c.args.lib k c.finish.result c.finish.new.self) c.self.view_is (record {
      mine = mine;
      full = c.is_weighed.ensures.full;
      awaited = subst (λ (l : LibNo). IsAwaited (underway_of x) l.0 (case_shown k)) mine awaited;
      acts = subst (λ (l : LibNo). Acts (underway_of x) (End l.0 (bundle_in k.bundle)) (Answered (verdict_of c.finish.result)) (underway_of c.finish.new.self)) mine e.acts;
      log = e.log ∙ ap (λ (l : LibNo). x.log ++ entries_made x.state (with_bundle k.bundle) (Release l.0 (bundle_in k.bundle)) (verdict_of c.finish.result)) mine;
      first = e.first;
      kept = e.was_kept;
    })
