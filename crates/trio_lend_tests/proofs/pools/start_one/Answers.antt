use Rattle.std.proofs.Common.{rules, ◌≡◌, List, [], ◌∷◌, ◌++◌, length, length-append, slice_get, ap, ◌∙◌, arith}
use Rattle.trio_pool.specs.declared.pass.PoolPass.{PoolPass}
use Rattle.trio_pool.specs.declared.cell.Pool.{Pool}
use Rattle.trio_pool.specs.Passes.{IsNew, AllNew}
use Rattle.trio_lend_tests.proofs.pools.start_one.Goals as goal

-- the one pass that was popped
one : {C : Type 0} (q : Pool C) (ps rest : List (PoolPass C)) (p : PoolPass C) → AllNew q ps → length ps ≡ 1 → ps ≡ rest ++ p ∷ [] → IsNew q 0 p
one q ps [] p all long is = all 0 p (ap (λ l. slice_get l 0) is)
one q ps (x ∷ rest) p all long is = absurd (omega (arith, ap length is ∙ length-append (x ∷ rest) (p ∷ [])))

pub returns : goal.returns
returns c =
    let s = c.in-Ok.ensures in let n = one c.in-Ok.pool c.in-Ok.passes.items c.pop.new.self.items c.in-Some.pass s.passes.1 s.passes.0 (search rules) in
    (s.pool.1, n.is_of, n.number_is)
