use Rattle.trio_open.proofs.Words.{bundle_in, drop, take}
use Rattle.trio_open.proofs.ClosingFacts.{Going}
use Rattle.trio_open.proofs.closing.end_grants.Given as goal

abbrev pub invariant-loop-file : goal.invariant-loop-file
invariant-loop-file l = Going l.lib (bundle_in l.case.bundle) (take l.file-index l.files) (drop l.file-index l.files) l.grants
