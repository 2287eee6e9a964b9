use Rattle.std.proofs.Common.{rules, ◌≡◌, List, [], ◌∷◌, ◌++◌, length, length-append, slice_get, ap, ◌∙◌, arith}
use Rattle.trio_pool.specs.declared.pass.PoolPass.{PoolPass}
use Rattle.trio_pool.specs.declared.cell.Pool.{Pool}
use Rattle.trio_pool.specs.Passes.{IsNew, AllNew}
use Rattle.trio_lend_tests.proofs.pools.start_two.Goals as goal

-- the two passes that were popped
both : {C : Type 0} (q : Pool C) (ps one none : List (PoolPass C)) (a b : PoolPass C) → AllNew q ps → length ps ≡ 2 → ps ≡ one ++ b ∷ [] → one ≡ none ++ a ∷ [] → IsNew q 0 a × IsNew q 1 b
both q ps one [] a b all two p r = let is : ps ≡ a ∷ b ∷ [] = p ∙ ap (λ l. l ++ b ∷ []) r in (all 0 a (ap (λ l. slice_get l 0) is), all 1 b (ap (λ l. slice_get l 1) is))
both q ps one (c ∷ none) a b all two p r = absurd (omega (arith, ap length p ∙ length-append one (b ∷ []), ap length r ∙ length-append (c ∷ none) (a ∷ [])))

pub returns : goal.returns
returns c =
    let s = c.in-Ok.ensures in
    let n = both c.in-Ok.pool c.in-Ok.passes.items c.pop.new.self.items c.pop-2.new.self.items c.in-Some-pop.first c.in-Some.second s.passes.1 s.passes.0 (search rules) (search rules) in
    (n.0.is_of, n.1.is_of)
