use Rattle.trio_runner.proofs.Words.{◌≡◌, creds_in, take}
use Rattle.trio_runner.proofs.rounds.creds_of.Given as goal

abbrev pub invariant-loop-lib : goal.invariant-loop-lib
invariant-loop-lib l = l.creds.items ≡ creds_in (take l.lib-index l.libs)
