use Rattle.trio_case.proofs.Words.{◌∙◌, ap, is_among, sym}
use Rattle.trio_case.proofs.CaseRows.{written_is}
use Rattle.trio_case.proofs.case.Case.is_written.Goals as goal

pub returns : goal.returns
returns c =
    let k = c.self.inside in
    rw (← c.self.view_is) (c.has.ensures ∙ ap (is_among c.args.ino) c.self.invariant.0.writes ∙ sym (written_is k.bundle.writes c.args.ino))
