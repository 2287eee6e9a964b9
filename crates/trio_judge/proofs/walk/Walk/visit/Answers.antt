use Rattle.trio_judge.proofs.Words.{◌<◌, ◌∙◌, ◌≡◌, IsListedBefore, ap, arith, case_in, entries_in, file_met, files_of, get_or, length, length-map, rules, sym, true}
use Rattle.std.specs.Prelude.{is_some}
use Rattle.std.proofs.lemmas.List.{get_or-map}
use Rattle.trio_judge.proofs.FoundAgain.{heads_grown, nothing_new, passed_again, queued_again}
use Rattle.trio_judge.proofs.Visiting.{file_breaks, is_judged, on_ok_then}
use Rattle.trio_judge.proofs.walk.Walk.visit.Goals as goal

pub returns-then-is_none-clause-heads : goal.returns-then-is_none-clause-heads
returns-then-is_none-clause-heads c =
    let k = case_in c.args.case.now in
    let m = file_met c.index.result.now in
    on_ok_then c.go_over.result (λ grows. heads_grown k (files_of c.args.self.now) (files_of c.go_over.new.self) (entries_in k m) grows c.args.heads.now.items c.requires.heads) c.go_over.ensures.grows

pub returns-in-Ok-true-clause-queued : goal.returns-in-Ok-true-clause-queued
returns-in-Ok-true-clause-queued c =
    let k = case_in c.args.case.now in
    let w = c.args.self.now in
    let m = file_met c.index.result.now in
    let inside : c.args.at < length (files_of w) = omega (arith, length-map w.files.items file_met) in
    let here : get_or (files_of w) c.args.at m ≡ m = get_or-map file_met w.files.items c.args.at c.index.result.now m (omega arith) ∙ ap file_met (sym c.index.ensures) in
    let before : IsListedBefore k c.args.heads.now.items m = rw c.deref.ensures.value at (c.in-Ok-true.ensures.before (search rules)) in
    let again = nothing_new k (files_of w) c.args.heads.now.items m c.requires.heads before in
    queued_again k c.args.at w m inside here again c.requires.queued

pub returns-in-Ok-true-clause-passed : goal.returns-in-Ok-true-clause-passed
returns-in-Ok-true-clause-passed c =
    let k = case_in c.args.case.now in
    let w = c.args.self.now in
    let m = file_met c.index.result.now in
    let inside : c.args.at < length (files_of w) = omega (arith, length-map w.files.items file_met) in
    let here : get_or (files_of w) c.args.at m ≡ m = get_or-map file_met w.files.items c.args.at c.index.result.now m (omega arith) ∙ ap file_met (sym c.index.ensures) in
    let before : IsListedBefore k c.args.heads.now.items m = rw c.deref.ensures.value at (c.in-Ok-true.ensures.before (search rules)) in
    let again = nothing_new k (files_of w) c.args.heads.now.items m c.requires.heads before in
    let broken : is_some w.owning ≡ true = search rules in
    passed_again k c.args.at w m inside here again broken c.requires.passed

pub returns-in-Err-clause-fault : goal.returns-in-Err-clause-fault
returns-in-Err-clause-fault c =
    let k = case_in c.args.case.now in
    let w = c.args.self.now in
    let m = file_met c.index.result.now in
    let inside : c.args.at < length (files_of w) = omega (arith, length-map w.files.items file_met) in
    let here : get_or (files_of w) c.args.at m ≡ m = get_or-map file_met w.files.items c.args.at c.index.result.now m (omega arith) ∙ ap file_met (sym c.index.ensures) in
    file_breaks k m c.in-Err.place (is_judged k c.args.at w m c.requires.queued c.requires.ready inside here) c.in-Err.ensures.bad
