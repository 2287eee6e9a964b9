use Rattle.trio_gen.proofs.Scripts.{directories_made}
use Rattle.trio_gen.proofs.script.directories_script.Goals as goal

pub returns-clause-script : goal.returns-clause-script
returns-clause-script c =
    directories_made c.new-libs.result.items c.push_library.new.libs.items c.in_ok-lines.lines.items c.new-libs.ensures.items c.in_ok-lines.ensures c.in_ok-push_library.ensures.library
