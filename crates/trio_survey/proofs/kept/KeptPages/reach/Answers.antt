use Rattle.trio_survey.proofs.Words.{◌∙◌, arith}
use Rattle.trio_survey.proofs.KeptPages.{count_more, same_more}
use Rattle.trio_survey.proofs.kept.KeptPages.reach.Goals as goal

pub loop-self-preserved : goal.loop-self-preserved
loop-self-preserved c =
    let kept = c.loop-self.self.pages.items in
    let more = c.in_ok-push.ensures.items in
    record {
      same = rw more (λ i. same_more kept i ∙ c.loop-self.invariant.same i);
      count = rw more (count_more kept ∙ c.loop-self.invariant.count);
      len = omega arith;
    }
