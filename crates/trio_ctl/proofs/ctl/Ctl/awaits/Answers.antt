use Rattle.trio_ctl.proofs.Words.{◌≡◌, CaseShown, IsAwaited, IsFull, Underway, ap, bundle_in, case_shown, subst, sym, underway_at, underway_of}
use Rattle.trio_ctl.proofs.ctl.Ctl.awaits.Goals as goal

pub returns : goal.returns
returns c =
    let i = c.self.inside in
    let k = c.case.result.now in
    let judged = c.args.judged.now.case in
    let u : Underway = underway_at i.registry in
    let seen : u ≡ underway_of c.args.self.now = ap underway_of c.self.view_is in
    let same : k ≡ judged = c.case.ensures.case in (
      λ on. subst (λ (v : Underway). IsAwaited v judged.lib.0 (case_shown judged)) seen (subst (λ (x : CaseShown). IsAwaited u x.lib.0 (case_shown x)) same (c.awaits.ensures.only on)),
      λ aw.
          let here = subst (λ (x : CaseShown). IsAwaited u x.lib.0 (case_shown x)) (sym same) (subst (λ (v : Underway). IsAwaited v judged.lib.0 (case_shown judged)) (sym seen) aw) in
          let full = subst (λ (x : CaseShown). IsFull (bundle_in x.bundle)) (sym same) c.case.ensures.weighed.full in
          c.awaits.ensures.each (c.self.invariant.0.underway.given k.lib.0 (bundle_in k.bundle) here.0 full) here,
    )
