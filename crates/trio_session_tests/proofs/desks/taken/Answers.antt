use Rattle.trio_session_tests.proofs.Words.{◌∙◌, ◌≡◌, Controller, IsRecorded, LibNo, MayBegin, recorded, rules, second_lib, subst, sym}
use Rattle.trio_session_tests.proofs.Begins.{begins_beside, may_begin}
use Rattle.trio_session_tests.proofs.desks.taken.Goals as goal

pub of-desk-requires-clause-idle : goal.of-desk-requires-clause-idle
of-desk-requires-clause-idle c = c.requires.none.idle 1

pub returns : goal.returns
returns c =
    let desk = c.of-desk in
    let at = desk.result.ctl.now in
    let made = c.grant.ensures.called in
    let after = c.ctl-1.given.1 (sym desk.ensures.same_reference ∙ sym made.1) in
    let is_recorded = subst (λ (x : Controller). IsRecorded (recorded x.first x.state x.log)) (sym desk.ensures.ctl) c.is_recorded.ensures in
    let may = subst (λ (x : Controller). MayBegin x second_lib) (sym desk.ensures.ctl) (may_begin c.args.ctl.now second_lib c.requires.two c.requires.none (search rules) (search rules)) in
    subst (λ (x : Controller). MayBegin x second_lib) (sym after)
    (begins_beside at c.grant.new.self.ctl.now desk.result.lib second_lib _ _ is_recorded made.0 made.3
    (subst (λ (l : LibNo). second_lib.0 ≡ l.0 → ⊥) (sym desk.ensures.lib) (λ e. cc e)) may)
