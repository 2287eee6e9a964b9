use Rattle.trio_runner.proofs.Words.{◌≡◌, courses_from, drop, longest, max}
use Rattle.trio_runner.proofs.rounds.round_count.Given as goal

abbrev pub invariant-loop-lib : goal.invariant-loop-lib
invariant-loop-lib l = max l.count (longest (courses_from 1 (drop l.lib-index l.libs))) ≡ longest (courses_from 1 l.libs)
