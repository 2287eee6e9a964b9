use Rattle.std.proofs.Common.{rules, ◌≡◌, ℕ, zero, suc, List, [], ◌∷◌, slice_get, ap, arith}
use Rattle.trio_pool.specs.declared.pass.PoolPass.{PoolPass}
use Rattle.trio_pool.specs.Passes.{number, EveryPass}
use Rattle.trio_lend_tests.proofs.pools.close_one.Goals as goal

of_one : {C : Type 0} (n : ℕ) (ps : List (PoolPass C)) (p : PoolPass C) → n ≡ 1 → ps ≡ p ∷ [] → number p ≡ 0 → EveryPass n ps
of_one n ps p one is first zero low = (0, p, ap (λ xs. slice_get xs 0) is, first)
of_one n ps p one is first (suc k) low = absurd (omega arith)

pub close-requires-clause-every : goal.close-requires-clause-every
close-requires-clause-every g c = of_one _ _ c.args.pass c.requires.0 (search rules) c.requires.2
