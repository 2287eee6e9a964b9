use Rattle.trio_pool.proofs.Words.{[], ap, append_assoc, case_job, refl, rules, took, ◌++◌, ◌∙◌, ◌∷◌, ◌≡◌}
use Rattle.trio_pool.proofs.Passing.{served}
use Rattle.trio_pool.specs.Jobs.{stop_job}
use Rattle.trio_pool.proofs.worker.serve.Goals as goal

pub loop-preserved-in-Case : goal.loop-preserved-in-Case
loop-preserved-in-Case g c =
    let i = c.loop.invariant in let t = c.in-Case.ensures.took in
    let s = served i.4.0 c.loop.judged (took c.args.pass.now) (took c.loop.pass) (took c.take.new.pass) (case_job t.0 t.1 c.in-Case.case) i.4.1 t.2 refl i.4.2 i.4.3 in
    (search rules, search rules, search rules, search rules, s)

pub returns-in-Stop-clause-took : goal.returns-in-Stop-clause-took
returns-in-Stop-clause-took g c =
    let i = c.loop.invariant in let t = c.in-Stop.ensures.took in
    let all : took c.take.new.pass ≡ took c.args.pass.now ++ (i.4.0 ++ stop_job t.0 ∷ []) = t.1 ∙ (ap (λ l. l ++ stop_job t.0 ∷ []) i.4.1 ∙ append_assoc (took c.args.pass.now) i.4.0 (stop_job t.0 ∷ [])) in
    (i.4.0 ++ stop_job t.0 ∷ [], all, (i.4.0, t.0, i.4.2, i.4.3, refl))
