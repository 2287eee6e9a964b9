use Rattle.trio_survey.proofs.Words.{err_from_is_err_and}
use Rattle.trio_survey.proofs.verdict.verify.Goals as goal

pub returns-in_err-_found-clause-fails : goal.returns-in_err-_found-clause-fails
returns-in_err-_found-clause-fails c = λ s h.
    let p = err_from_is_err_and c.from_residual.result c.from_residual.ensures.1 in
    rw (p.1, p.2) (c.in_err-_found.ensures.fails s h)
