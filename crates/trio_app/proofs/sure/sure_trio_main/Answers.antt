use Rattle.trio_app.proofs.Words.{arith}
use Rattle.trio_app.proofs.Causes.{main_read_fault, main_write_fault, no_read_cause, no_write_cause}
use Rattle.trio_app.proofs.sure.sure_trio_main.Goals as goal

pub returns-clause-no_read_fault : goal.returns-clause-no_read_fault
returns-clause-no_read_fault g c = λ e.
    no_read_cause _ _ _ (λ q rose. omega (arith, rose)) (main_read_fault _ _ _ _ _ _ c.trio_main.ensures.main e)

pub returns-clause-no_write_fault : goal.returns-clause-no_write_fault
returns-clause-no_write_fault g c = λ e.
    no_write_cause _ _ _ _ _ (λ q rose. omega (arith, rose)) (λ rose. omega (arith, rose)) (main_write_fault _ _ _ _ _ _ c.trio_main.ensures.main e)

pub returns-clause-decided : goal.returns-clause-decided
returns-clause-decided g c = λ status decides.
    c.trio_main.ensures.decided status decides
    (record { reads = λ q rose. omega (arith, rose); writes = λ q rose. omega (arith, rose); puts = λ rose. omega (arith, rose) })
