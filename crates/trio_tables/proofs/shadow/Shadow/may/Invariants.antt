use Rattle.trio_tables.proofs.MayLemmas.{Climbed}
use Rattle.trio_tables.proofs.shadow.Shadow.may.Given as goal

abbrev pub invariant-loop-left : goal.invariant-loop-left
invariant-loop-left l = Climbed l.self l.creds l.ino l.need l.left l.parent l.denier

abbrev pub decreases-loop-left : goal.decreases-loop-left
decreases-loop-left l = l.left
