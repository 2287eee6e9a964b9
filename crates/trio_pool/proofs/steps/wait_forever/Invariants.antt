use Rattle.trio_pool.proofs.steps.wait_forever.Given as goal

abbrev pub invariant-loop : goal.invariant-loop
invariant-loop g l = Unit {0}
