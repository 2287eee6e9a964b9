use Rattle.std.proofs.Common.{◌∙◌}
use Rattle.trio_report.proofs.Joins.{two_numbers_put}
use Rattle.trio_report.proofs.answer.put_want.Goals as goal

pub returns : goal.returns
returns c = two_numbers_put _ _ _ _ _ _ _ _ c.in_ok-put_text.ensures (c.deref.ensures ∙ c.in_ok-format.ensures.ok) c.put_text-2.ensures
