use Rattle.trio_ctl.proofs.Words.{refl}
use Rattle.trio_judge.proofs.OtherBytes.{room_still}
use Rattle.trio_ctl.proofs.pending.Pending.page_mut.Goals as goal

pub invariant_of-self-lent : goal.invariant_of-self-lent
invariant_of-self-lent c = λ o. ((λ w. room_still _ c.args.no w c.self.inside.room c.self.invariant), c.self.invariant)

pub returns : goal.returns
returns c = rw (← c.self.view_is) (refl, record { value = c.page_mut.ensures.value; some = c.page_mut.ensures.some; lends = tt })
