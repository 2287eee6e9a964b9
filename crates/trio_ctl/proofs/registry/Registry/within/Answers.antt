use Rattle.trio_ctl.proofs.Words.{◌∙◌, ◌≡◌, CaseShown, GivenTo, None, State, WereHeld, ap, arith, bundle_in, case_made, creds_of, grants_in, parted_hold, state_of, subst, sym}
use Rattle.trio_case.specs.Cases.{IsJudgeable}
use Rattle.trio_ctl.proofs.Cases.{case_judgeable, made_so}
use Rattle.trio_ctl.proofs.Views.{state_is}
use Rattle.trio_ctl.proofs.registry.Registry.within.Goals as goal

pub within-case-requires-clause-judgeable : goal.within-case-requires-clause-judgeable
within-case-requires-clause-judgeable c =
    let i = c.self.inside in
    let given = subst (λ (v : State). GivenTo v c.args.lib.0 (bundle_in c.args.bundle)) (sym (state_is c.self.view_is)) c.requires.given in
    let held = subst (λ (v : State). WereHeld v c.args.lib.0 c.args.bundle.holds) (sym (state_is c.self.view_is)) c.requires.held in
    let closed = subst (λ (v : State). parted_hold v c.args.lib.0 (bundle_in c.args.bundle) ≡ None) (sym (state_is c.self.view_is)) c.requires.closed in
    let ranges = c.range.ensures ∙ ap (λ (v : State). v.home.core.range) (sym (state_is c.self.view_is)) in
    case_judgeable i.store i.first_core i.grants i.files.items i.libs.items i.history i.begun.items c.self.invariant c.args.lib c.args.bundle given held closed c.range.result c.inodes.result ranges c.inodes.ensures.inodes

pub returns-clause-case : goal.returns-clause-case
returns-clause-case c =
    let i = c.self.inside in
    let st = state_of i.store i.first_core (grants_in i.files.items) i.libs.items i.history.made in
    let ranges = c.range.ensures ∙ ap (λ (v : State). v.home.core.range) (sym (state_is c.self.view_is)) in
    let credentials = c.creds.ensures ∙ ap (λ (v : State). creds_of v c.args.lib.0) (sym (state_is c.self.view_is)) in
    let table = c.inodes.ensures.inodes in
    subst (λ (v : State). c.within-case.result ≡ case_made v c.args.lib c.args.bundle) (state_is c.self.view_is)
    (c.within-case.ensures ∙ made_so st c.args.lib c.args.bundle c.creds.result c.range.result c.inodes.result credentials ranges (omega (arith, table)))

pub returns-clause-judgeable : goal.returns-clause-judgeable
returns-clause-judgeable c =
    let i = c.self.inside in
    let given = subst (λ (v : State). GivenTo v c.args.lib.0 (bundle_in c.args.bundle)) (sym (state_is c.self.view_is)) c.requires.given in
    let held = subst (λ (v : State). WereHeld v c.args.lib.0 c.args.bundle.holds) (sym (state_is c.self.view_is)) c.requires.held in
    let closed = subst (λ (v : State). parted_hold v c.args.lib.0 (bundle_in c.args.bundle) ≡ None) (sym (state_is c.self.view_is)) c.requires.closed in
    let ranges = c.range.ensures ∙ ap (λ (v : State). v.home.core.range) (sym (state_is c.self.view_is)) in
    let judgeable = case_judgeable i.store i.first_core i.grants i.files.items i.libs.items i.history i.begun.items c.self.invariant c.args.lib c.args.bundle given held closed c.range.result c.inodes.result ranges c.inodes.ensures.inodes in
    subst (λ (k : CaseShown). IsJudgeable k.bundle c.args.self.now.state.home.rows k.range k.inodes) (sym c.within-case.ensures)
    (subst (λ (v : State). IsJudgeable c.args.bundle v.home.rows c.range.result c.inodes.result) (state_is c.self.view_is) judgeable)

pub of-room-requires : goal.of-room-requires
of-room-requires c =
    let made = c.within-case.ensures in
    let table = c.inodes.ensures.inodes in
    let inodes = ap (λ (v : State). v.home.core.inodes) (state_is c.self.view_is) in
    let seen = ap (λ (k : CaseShown). k.inodes) made in
    c.requires.kit.room c.within-case.result (ap (λ (k : CaseShown). k.bundle) made) (ap (λ (k : CaseShown). k.range) made ∙ c.range.ensures) (omega (arith, table, inodes, seen))
