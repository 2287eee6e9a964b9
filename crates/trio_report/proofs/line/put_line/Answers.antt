use Rattle.std.proofs.Common.{append_assoc}
use Rattle.trio_report.specs.Report.{tree_line}
use Rattle.trio_report.proofs.Joins.{five_joined}
use Rattle.trio_report.proofs.line.put_line.Goals as goal

pub returns : goal.returns
returns c =
    five_joined _ _ _ _ _ _ _ _ _ _ _ _ (tree_line c.args.line.now) c.in_ok-put_kind.ensures c.in_ok-put_mode.ensures c.in_ok-put_owner.ensures c.in_ok-put_name.ensures (rw (← c.line.view_is) (simp append_assoc)) c.put_text.ensures
