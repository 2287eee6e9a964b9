use Rattle.trio_script.proofs.Words.{Err, ap, sym}
use Rattle.trio_script.proofs.Paths.{names_of-IsPath, names_of-relative, names_of-no_path}
use Rattle.trio_script.proofs.text.path_of_bytes.Goals as goal

pub returns-in-Ok : goal.returns-in-Ok
returns-in-Ok c = sym (names_of-IsPath c.args.bytes.now c.in-Ok.path c.in-Ok.ensures.found)

pub returns-in-Err-NotAbsolute : goal.returns-in-Err-NotAbsolute
returns-in-Err-NotAbsolute c = sym (names_of-relative c.args.bytes.now (c.in-Err-NotAbsolute.ensures.not_absolute.0 (ap Err c.in-Err-NotAbsolute.field-0-is)))

pub returns-in-Err-BadName : goal.returns-in-Err-BadName
returns-in-Err-BadName c = sym (names_of-no_path c.args.bytes.now (c.in-Err-BadName.ensures.bad_name (ap Err c.in-Err-BadName.field-0-is)).1)
