use Rattle.std.proofs.lemmas.Result.{err_from_is_err_and}
use Rattle.trio_migrate.proofs.OldRefused.{survey_told}
use Rattle.trio_migrate.proofs.old_image.OldImage.from_pages.Goals as goal

pub returns-in_err-found-clause-fault : goal.returns-in_err-found-clause-fault
returns-in_err-found-clause-fault c =
    let p = err_from_is_err_and c.from_residual.result c.from_residual.ensures.1 in
    rw (p.1, p.2) (survey_told c.args.superblock c.args.home.pages c.in_err-found.field-0.0 c.in_err-found.ensures.fails)
