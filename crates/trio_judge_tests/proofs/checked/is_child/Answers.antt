use Rattle.trio_judge_tests.proofs.Words.{◌∙◌, LentFile, ap, eqb, is_child, list_any}
use Rattle.trio_judge_tests.proofs.Children.{written_any}
use Rattle.trio_judge_tests.proofs.checked.is_child.Goals as goal

pub returns-in-Some : goal.returns-in-Some
returns-in-Some c =
    let parent = c.in-Some.row.parent in
    c.is_lent.ensures ∙ ap (list_any (λ (f : LentFile). eqb f.stands.ino parent)) c.writes.ensures ∙ written_any c.args.bundle.now.writes parent ∙ ap (is_child c.args.bundle.now) c.in-Some.ensures
