use Rattle.trio_ctl.proofs.Words.{◌*◌, ◌+◌, ◌∙◌, ◌≡◌, ◌≤◌, CaseShown, IsOutcome, Kept, ap, bundle_in, bundle_pages, case_in, case_shown, length, refl, subst, sym, with_copied}
use Rattle.trio_laws.specs.RuleLaws.{IsJudgeable as CanBeJudged}
use Rattle.trio_ctl.specs.inner.Outcomes.{HasFew}
use Rattle.trio_ctl.proofs.Awaiting.{made_is}
use Rattle.trio_ctl.proofs.registry.Registry.judged.Goals as goal

pub outcome-outcome-requires-clause-judgeable : goal.outcome-outcome-requires-clause-judgeable
outcome-outcome-requires-clause-judgeable c =
    let s = c.args.self.now.state in
    let kept : Kept s = c.taken_in.ensures.kept in
    subst (λ (k : CaseShown). CanBeJudged s k.lib.0 (bundle_in k.bundle)) (sym c.in-Ok.ensures.case)
    (record { kept = kept; given = c.requires.given; closed = c.in-Ok.ensures.closed refl })

pub outcome-outcome-requires-clause-copied : goal.outcome-outcome-requires-clause-copied
outcome-outcome-requires-clause-copied c =
    let s = c.args.self.now.state in
    let kept : Kept s = c.taken_in.ensures.kept in
    subst (λ (k : CaseShown). case_shown k ≡ with_copied (case_in s k.lib.0 (bundle_in k.bundle))) (sym c.in-Ok.ensures.case)
    (made_is s c.args.lib c.args.bundle kept c.requires.held)

pub returns-clause-rows : goal.returns-clause-rows
returns-clause-rows c =
    let s = c.args.self.now.state in
    let kept : Kept s = c.taken_in.ensures.kept in
    ap case_shown c.in-Ok.ensures.case ∙ made_is s c.args.lib c.args.bundle kept c.requires.held

pub returns-clause-outcome : goal.returns-clause-outcome
returns-clause-outcome c =
    subst (λ (k : CaseShown). IsOutcome (case_in c.args.self.now.state k.lib.0 (bundle_in k.bundle)) c.outcome-outcome.result) c.in-Ok.ensures.case c.outcome-outcome.ensures.outcome

pub returns-clause-few : goal.returns-clause-few
returns-clause-few c =
    subst (λ (k : CaseShown). HasFew (bundle_in k.bundle) c.outcome-outcome.result) c.in-Ok.ensures.case c.outcome-outcome.ensures.few

pub returns-clause-reads : goal.returns-clause-reads
returns-clause-reads c =
    subst (λ (k : CaseShown). c.judge-verdict.new.reads ≤ c.args.reads.now + 2 * length (bundle_pages (bundle_in k.bundle))) c.in-Ok.ensures.case c.judge-verdict.ensures.reads
