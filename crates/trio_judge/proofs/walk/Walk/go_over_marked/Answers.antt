use Rattle.trio_judge.proofs.Words.{case_in, entries_in, file_met, files_of, numbers}
use Rattle.trio_judge.proofs.FoundAgain.{all_grown, heads_grown}
use Rattle.trio_judge.proofs.walk.Walk.go_over_marked.Goals as goal

pub returns-clause-heads : goal.returns-clause-heads
returns-clause-heads c =
    let k = case_in c.args.case.now in
    let fs = files_of c.args.self.now in
    let fs' = files_of c.go_over.new.self in
    let es = entries_in k (file_met c.args.file.now) in
    c.mark_head.ensures.heads (numbers fs') (heads_grown k fs fs' es c.in_ok-go_over.ensures.grows c.args.heads.now.items c.requires.heads) (all_grown k fs fs' es c.in_ok-go_over.ensures.grows)
