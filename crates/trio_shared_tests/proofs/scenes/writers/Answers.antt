use Rattle.trio_shared_tests.proofs.Words.{◌++◌, ◌∙◌, AreAll, IsNew, ap, arith, subst}
use Rattle.trio_shared_tests.proofs.Desks.{all_back, three_back}
use Rattle.trio_shared_tests.proofs.scenes.writers.Goals as goal

pub returns-then-seats-lt3 : goal.returns-then-seats-lt3
returns-then-seats-lt3 g c = all_back _ _ c.requires

pub returns : goal.returns
returns g c =
    let s = c.split_at_mut-firsts.ensures in
    let t = c.split_at_mut-seconds.ensures in
    three_back _ _ _ _ _ _ _ s.front_len t.front_len (omega (arith, c.if-seats-lt3.false, s.back_len, t.back_len))
    (subst (AreAll IsNew _) (s.value ∙ ap (λ l. c.split_at_mut-firsts.result.0.now ++ l) t.value) c.requires) c.writers_go_well.ensures.first c.writers_go_well.ensures.second c.writers_go_well.ensures.third
