use Rattle.trio_script.proofs.Escapes.{text_of-escaped_of}
use Rattle.trio_script.proofs.laws.escaped_is_read.Goals as goal

pub returns : goal.returns
returns c = text_of-escaped_of
