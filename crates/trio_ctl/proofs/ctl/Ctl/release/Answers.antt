use Rattle.trio_ctl.proofs.Words.{◌*◌, ◌++◌, ◌+◌, ◌∙◌, ◌≡◌, ◌≤◌, Acts, Answered, AreMarked, CaseShown, Controller, End, IsAwaited, Release, State, ap, arith, bundle_in, bundle_pages, case_in, case_made, case_shown, entries_made, handed_in, length, subst, sym, underway_of, verdict_of, with_bundle, with_copied}
use Rattle.trio_ctl.proofs.Awaiting.{made_is}
use Rattle.trio_ctl.proofs.RecordedReleases.{lent_is_marked}
use Rattle.trio_ctl.proofs.Ends.{at_once, begun_so, in_a_row}
use Rattle.trio_ctl.proofs.Spending.{spends_both}
use Rattle.trio_ctl.proofs.ctl.Ctl.release.Goals as goal

pub finish-requires-clause-awaited : goal.finish-requires-clause-awaited
finish-requires-clause-awaited c =
    let lib = c.args.lib in
    let b = c.args.bundle in
    let u = underway_of c.args.self.now in
    let mid = underway_of c.begin.new.self in
    let was = c.in-Ok.ensures in
    let same = c.weigh-judged.ensures.case ∙ was.pending in
    let state : c.begin.new.self.state ≡ c.args.self.now.state = ap (λ (x : Controller). x.state) was.rest in
    let case = subst (λ (v : State). case_shown (case_made c.args.self.now.state lib b) ≡ with_copied (case_in v lib.0 (bundle_in b))) (sym state) (made_is c.args.self.now.state lib b was.was_kept.kept c.requires.held) in
    subst (λ (k : CaseShown). IsAwaited mid k.lib.0 (case_shown k)) (sym same)
    (begun_so u mid lib.0 (bundle_in b) c.requires.library was.was_kept.placed was.acts, case)

pub finish-requires-clause-marked : goal.finish-requires-clause-marked
finish-requires-clause-marked c =
    let was = c.in-Ok.ensures in
    let same = c.weigh-judged.ensures.case ∙ was.pending in
    let state : c.begin.new.self.state ≡ c.args.self.now.state = ap (λ (x : Controller). x.state) was.rest in
    subst (λ (k : CaseShown). AreMarked c.begin.new.self.state k.lib.0 (handed_in k.bundle)) (sym same)
    (subst (λ (v : State). AreMarked v c.args.lib.0 (handed_in c.args.bundle)) (sym state)
    (lent_is_marked c.args.self.now.state c.args.lib.0 c.args.bundle was.was_kept.kept c.requires.lent c.keeps_untouched.ensures))

pub returns-in-Ok-clause-step : goal.returns-in-Ok-clause-step
returns-in-Ok-clause-step c =
    let was = c.in-Ok.ensures in
    let same = c.weigh-judged.ensures.case ∙ was.pending in
    let mid = underway_of c.begin.new.self in
    let after = underway_of c.finish.new.self in
    let end = subst (λ (k : CaseShown). Acts mid (End k.lib.0 (bundle_in k.bundle)) (Answered (verdict_of c.finish.result)) after) same c.finish.ensures.acts in
    (in_a_row (underway_of c.args.self.now) mid after c.args.lib.0 (bundle_in c.args.bundle) c.finish.result (c.requires.library, c.requires.idle, c.requires.given) was.was_kept.placed was.acts c.requires.given.full end).0

pub returns-in-Ok-clause-logs : goal.returns-in-Ok-clause-logs
returns-in-Ok-clause-logs c =
    let was = c.in-Ok.ensures in
    let same = c.weigh-judged.ensures.case ∙ was.pending in
    let mid = underway_of c.begin.new.self in
    let after = underway_of c.finish.new.self in
    let end = subst (λ (k : CaseShown). Acts mid (End k.lib.0 (bundle_in k.bundle)) (Answered (verdict_of c.finish.result)) after) same c.finish.ensures.acts in
    let answer = verdict_of c.finish.result in
    record {
      log =
          c.finish.ensures.log
          ∙ ap (λ (k : CaseShown). c.begin.new.self.log ++ entries_made c.begin.new.self.state (with_bundle k.bundle) (Release k.lib.0 (bundle_in k.bundle)) answer) same
          ∙ ap (λ (x : Controller). x.log ++ entries_made x.state (with_bundle c.args.bundle) (Release c.args.lib.0 (bundle_in c.args.bundle)) answer) was.rest;
      first = c.finish.ensures.first ∙ ap (λ (x : Controller). x.first) was.rest;
      begun =
          (in_a_row (underway_of c.args.self.now) mid after c.args.lib.0 (bundle_in c.args.bundle) c.finish.result (c.requires.library, c.requires.idle, c.requires.given) was.was_kept.placed was.acts c.requires.given.full end).1;
    }

pub returns-in-Ok-clause-looked : goal.returns-in-Ok-clause-looked
returns-in-Ok-clause-looked c =
    let was = c.in-Ok.ensures in
    let same = c.weigh-judged.ensures.case ∙ was.pending in
    let before = ap (λ (x : Controller). x.looked) was.rest in
    let looked = subst (λ (k : CaseShown). c.finish.new.self.looked ≤ c.begin.new.self.looked + length (bundle_pages (bundle_in k.bundle)) + length (bundle_in k.bundle).writes) same c.finish.ensures.looked in
    omega (arith, looked, before)

pub returns-in-Ok-clause-reads : goal.returns-in-Ok-clause-reads
returns-in-Ok-clause-reads c =
    let was = c.in-Ok.ensures in
    let same = c.weigh-judged.ensures.case ∙ was.pending in
    let weighed = subst (λ (k : CaseShown). c.weigh-judged.new.reads ≤ c.args.reads.now + 2 * length (bundle_pages (bundle_in k.bundle))) was.pending c.weigh-judged.ensures.reads in
    let ended = subst (λ (k : CaseShown). c.finish.new.reads ≤ c.weigh-judged.new.reads + length (bundle_pages (bundle_in k.bundle)) + length (bundle_in k.bundle).writes) same c.finish.ensures.reads in
    omega (arith, weighed, ended)

pub returns-in-Err-clause-step : goal.returns-in-Err-clause-step
returns-in-Err-clause-step c =
    let was = c.in-Err.ensures in
    (at_once (underway_of c.args.self.now) (underway_of c.begin.new.self) c.args.lib.0 (bundle_in c.args.bundle) c.in-Err.back.1 (c.requires.library, c.requires.idle, c.requires.given) was.was_kept.placed was.acts).0

pub returns-in-Ok-clause-floor : goal.returns-in-Ok-clause-floor
returns-in-Ok-clause-floor c =
    let before = ap (λ (x : Controller). x.looked) c.in-Ok.ensures.rest in
    let more = c.finish.ensures.floor in
    omega (arith, more, before)

pub returns-in-Ok-clause-spends : goal.returns-in-Ok-clause-spends
returns-in-Ok-clause-spends c = spends_both 1 c.args.self.now.spare c.begin.new.self.spare c.finish.new.self.spare c.begin.ensures.spends c.finish.ensures.spends
