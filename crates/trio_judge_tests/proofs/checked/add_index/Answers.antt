use Rattle.trio_judge_tests.proofs.Words.{LentPage, ap, there_of}
use Rattle.trio_judge_tests.proofs.Numbers.{one_more}
use Rattle.trio_judge_tests.proofs.checked.add_index.Goals as goal

pub loop-at-preserved : goal.loop-at-preserved
loop-at-preserved c =
    let page = there_of (λ (p : LentPage). p.no) _ c.in-Some.no c.in-Some.ensures in
    one_more (λ (p : LentPage). p.no.0) c.args.file.now.stands.index c.loop-at.at page.0 c.args.pages.now.items c.loop-at.pages.items c.push.new.self.items c.in-Some.no.0 page.1 (ap (λ n. n.0) page.2) c.in_ok-push.ensures.items c.loop-at.invariant
