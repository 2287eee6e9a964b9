use Rattle.trio_image.proofs.Words.{err_from_is_err_and}
use Rattle.trio_image.proofs.Superblocks.{superblock_there}
use Rattle.trio_image.proofs.Refused.{pages_refuse, survey_told}
use Rattle.trio_image.proofs.image.Image.from_pages.Goals as goal

pub verify_found-requires : goal.verify_found-requires
verify_found-requires c = superblock_there c.args.superblock c.args.home.pages c.requires.superblock

pub returns-in_err-found-clause-fault : goal.returns-in_err-found-clause-fault
returns-in_err-found-clause-fault c =
    let p = err_from_is_err_and c.from_residual.result c.from_residual.ensures.1 in
    rw (p.1, p.2) (survey_told c.args.superblock c.args.home.pages c.in_err-found.field-0.0 (c.in_err-found.ensures.fails c.args.superblock c.requires.superblock))

pub returns-in_err-found-clause-refused : goal.returns-in_err-found-clause-refused
returns-in_err-found-clause-refused c =
    let p = err_from_is_err_and c.from_residual.result c.from_residual.ensures.1 in
    let bad = survey_told c.args.superblock c.args.home.pages c.in_err-found.field-0.0 (c.in_err-found.ensures.fails c.args.superblock c.requires.superblock) in
    rw (p.1, p.2) (pages_refuse c.args.superblock c.args.home.pages _ bad)
