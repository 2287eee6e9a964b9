use Rattle.trio_ctl.proofs.Words.{◌+◌, ◌∙◌, ◌≤◌, Case, CaseShown, Controller, IsOutcome, State, ap, arith, bundle_in, bundle_pages, length, noted_by, outline_of, refl, rules, some_apart, subst, sym, underway_at, vec_len}
use Rattle.trio_ctl.proofs.Ending.{has_ended, judged_there, may_end, outcome_there, weighed_too}
use Rattle.trio_ctl.proofs.Ends.{began_so, written_live}
use Rattle.trio_ctl.proofs.Recording.{next_entry}
use Rattle.trio_ctl.proofs.RecordedReleases.{are_noted, whole_is}
use Rattle.trio_ctl.proofs.Spending.{spends_entry}
use Rattle.trio_ctl.proofs.ctl.Ctl.finish.Goals as goal

pub take_begun-draft-requires : goal.take_begun-draft-requires
take_begun-draft-requires c =
    let may = may_end c.self.view_is c.parts-case.ensures.case c.lib-lib.ensures c.self.invariant.0 c.requires.awaited c.parts-case.ensures.weighed.full in
    λ none. some_apart _ _ may.awaited.0 none

pub outcome-outcome-requires : goal.outcome-outcome-requires
outcome-outcome-requires c =
    let may = may_end c.self.view_is c.parts-case.ensures.case c.lib-lib.ensures c.self.invariant.0 c.requires.awaited c.parts-case.ensures.weighed.full in
    let there = judged_there may c.take_begun-draft.ensures.state c.lib-lib.ensures in
    let weighed = weighed_too c.parts-case.ensures.case c.parts-case.ensures.verdict c.parts-case.ensures.weighed in
    record { judgeable = there.0; copied = there.1; verdict = weighed.verdict; few = weighed.few }

pub told-told-requires : goal.told-told-requires
told-told-requires c =
    let i = c.self.inside in
    let k = c.parts-case.result.0 in
    let b = bundle_in k.bundle in
    let lib = c.lib-lib.result in
    let may = may_end c.self.view_is c.parts-case.ensures.case c.lib-lib.ensures c.self.invariant.0 c.requires.awaited c.parts-case.ensures.weighed.full in
    let rows = c.rows-rows.ensures ∙ ap (λ (v : State). v.home.rows) c.take_begun-draft.ensures.state in
    record {
      draft = began_so (underway_at i.registry) lib.0 c.take_begun-draft.result (outline_of b) c.take_begun-draft.ensures.begun may.awaited.0;
      live = written_live i.registry.state lib.0 k.bundle c.rows-rows.result.now rows may.judgeable;
      outcome =
          subst (λ (x : Case). IsOutcome x c.outcome-outcome.result) (sym (whole_is k i.registry.state lib.0 b c.rows-rows.result.now may.awaited.1 rows))
          (outcome_there b c.outcome-outcome.result c.outcome-outcome.ensures.outcome c.take_begun-draft.ensures.state c.lib-lib.ensures);
      few = c.outcome-outcome.ensures.few;
      noted = are_noted i.registry.state c.rows-rows.result.now i.notes c.self.invariant.0.all.kept rows c.self.invariant.0.noted;
    }

pub conclude-verdict-requires : goal.conclude-verdict-requires
conclude-verdict-requires c =
    let may = may_end c.self.view_is c.parts-case.ensures.case c.lib-lib.ensures c.self.invariant.0 c.requires.awaited c.parts-case.ensures.weighed.full in
    let there = judged_there may c.take_begun-draft.ensures.state refl in
    record {
      entry = next_entry _ _ _ _ _ _ _ _ c.self.invariant.0 c.len-entry.ensures refl ∙ ap (λ (v : State). v.entries) (sym c.take_begun-draft.ensures.state);
      room = c.take_begun-draft.ensures.room;
      given = there.0.given;
      closed = there.0.closed;
      outcome = outcome_there (bundle_in c.parts-case.result.0.bundle) c.outcome-outcome.result {t = c.take_begun-draft.new.self.state} c.outcome-outcome.ensures.outcome refl c.lib-lib.ensures;
    }

pub invariant_of-self : goal.invariant_of-self
invariant_of-self c = (
  (has_ended c.self.view_is c.parts-case.ensures.case c.lib-lib.ensures c.self.invariant.0 c.requires.awaited c.parts-case.ensures.weighed.full
      c.outcome-outcome.result c.told-told.result c.conclude-verdict.result c.conclude-verdict.new.self refl c.requires.marked
      c.take_begun-draft.ensures.state c.outcome-outcome.ensures.outcome c.rows-rows.ensures c.told-told.ensures.told c.conclude-verdict.ensures.verdict c.conclude-verdict.ensures.step
      (c.conclude-verdict.ensures.begun ∙ c.take_begun-draft.ensures.taken) (ap (λ n. n + 1) c.conclude-verdict.ensures.promised ∙ c.take_begun-draft.ensures.promised)
      c.push.ensures (c.note.ensures ∙ ap (λ fs. noted_by c.conclude-verdict.result fs c.self.inside.notes) c.as_slice.ensures)).history,
  c.self.invariant.1,
)

pub returns : goal.returns
returns c =
    let ended = has_ended c.self.view_is c.parts-case.ensures.case c.lib-lib.ensures c.self.invariant.0 c.requires.awaited c.parts-case.ensures.weighed.full
    c.outcome-outcome.result c.told-told.result c.conclude-verdict.result c.conclude-verdict.new.self refl c.requires.marked
    c.take_begun-draft.ensures.state c.outcome-outcome.ensures.outcome c.rows-rows.ensures c.told-told.ensures.told c.conclude-verdict.ensures.verdict c.conclude-verdict.ensures.step
    (c.conclude-verdict.ensures.begun ∙ c.take_begun-draft.ensures.taken) (ap (λ n. n + 1) c.conclude-verdict.ensures.promised ∙ c.take_begun-draft.ensures.promised)
    c.push.ensures (c.note.ensures ∙ ap (λ fs. noted_by c.conclude-verdict.result fs c.self.inside.notes) c.as_slice.ensures) in
    let before = ap (λ (x : Controller). x.looked) c.self.view_is in
    let begun = c.take_begun-draft.ensures.looked in
    let looked = subst (λ (x : CaseShown). c.conclude-verdict.new.self.looked ≤ c.take_begun-draft.new.self.looked + length (bundle_pages (bundle_in x.bundle)) + length (bundle_in x.bundle).writes) c.parts-case.ensures.case c.conclude-verdict.ensures.looked in
    record {
      acts = ended.acts;
      log = ended.logged;
      first = ap (λ (x : Controller). x.first) c.self.view_is;
      spends = (let less = c.conclude-verdict.ensures.promised in let one = c.take_begun-draft.ensures.promised in spends_entry c.self.inside.log c.self.inside.registry.promised (vec_len c.self.inside.spares.kits) c.self.inside.spares.bytes (ap (λ (x : Controller). x.spare) c.self.view_is) 0 c.self.inside.log c.push.new.self c.conclude-verdict.new.self.promised _ refl (omega arith) c.push.ensures (omega (arith, less, one)));
      floor = (let more = c.conclude-verdict.ensures.floor in omega (arith, more, begun, before));
      looked = omega (arith, looked, begun, before);
      reads = subst (λ (x : CaseShown). c.conclude-verdict.new.reads ≤ c.args.reads.now + length (bundle_pages (bundle_in x.bundle)) + length (bundle_in x.bundle).writes) c.parts-case.ensures.case c.conclude-verdict.ensures.reads;
      was_kept = search rules;
      kept = ended.history.underway;
    }
