use Rattle.trio_session_tests.proofs.Words.{MayPlay, first_lib, second_lib, underway_of}
use Rattle.trio_session_tests.proofs.turns.turns.Given as goal

abbrev pub invariant-loop : goal.invariant-loop
invariant-loop l = MayPlay (underway_of l.ctl) first_lib l.first × MayPlay (underway_of l.ctl) second_lib l.second
