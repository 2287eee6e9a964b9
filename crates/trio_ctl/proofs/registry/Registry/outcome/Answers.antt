use Rattle.trio_ctl.proofs.Words.{◌≡◌, Case, IsJudgeable, IsOutcome, IsVerdict, State, bundle_in, case_in, case_shown, grants_in, refl, state_of, subst, sym, with_copied}
use Rattle.trio_ctl.proofs.Concluding.{verdict_told}
use Rattle.trio_ctl.proofs.Judging.{leaves}
use Rattle.trio_ctl.proofs.Views.{state_is}
use Rattle.trio_ctl.proofs.registry.Registry.outcome.Goals as goal

pub outcome_of-requires : goal.outcome_of-requires
outcome_of-requires c =
    let i = c.self.inside in
    let k = c.args.case.now in
    let b = bundle_in k.bundle in
    let st = state_of i.store i.first_core (grants_in i.files.items) i.libs.items i.history.made in
    let same = sym (state_is c.self.view_is) in
    let j = subst (λ (v : State). IsJudgeable v k.lib.0 b) same c.requires.judgeable in
    let copied = subst (λ (v : State). case_shown k ≡ with_copied (case_in v k.lib.0 b)) same c.requires.copied in
    let verdict : IsVerdict (case_in st k.lib.0 b) c.args.verdict = verdict_told st k.lib.0 b j c.args.verdict (subst (λ (x : Case). IsVerdict x c.args.verdict) copied c.requires.verdict) in
    (case_in st k.lib.0 b, verdict, refl, leaves st k.lib.0 b j c.self.invariant.no_zero)

pub returns-clause-outcome : goal.returns-clause-outcome
returns-clause-outcome c =
    let i = c.self.inside in
    let k = c.args.case.now in
    let b = bundle_in k.bundle in
    let st = state_of i.store i.first_core (grants_in i.files.items) i.libs.items i.history.made in
    let same = sym (state_is c.self.view_is) in
    let j = subst (λ (v : State). IsJudgeable v k.lib.0 b) same c.requires.judgeable in
    let copied = subst (λ (v : State). case_shown k ≡ with_copied (case_in v k.lib.0 b)) same c.requires.copied in
    let verdict : IsVerdict (case_in st k.lib.0 b) c.args.verdict = verdict_told st k.lib.0 b j c.args.verdict (subst (λ (x : Case). IsVerdict x c.args.verdict) copied c.requires.verdict) in
    subst (λ (v : State). IsOutcome (case_in v k.lib.0 b) c.outcome_of.result) (state_is c.self.view_is) (c.outcome_of.ensures.outcome (case_in st k.lib.0 b) verdict refl)

pub returns-clause-few : goal.returns-clause-few
returns-clause-few c = c.outcome_of.ensures.few (case_shown c.args.case.now) c.requires.few
