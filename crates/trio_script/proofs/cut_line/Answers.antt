use Rattle.trio_script.proofs.Cuts.{line_cut, last_line}
use Rattle.trio_script.proofs.cut_line.Goals as goal

pub returns-in-Some-clause-lines : goal.returns-in-Some-clause-lines
returns-in-Some-clause-lines c = line_cut c.args.bytes.now c.in-Some.end c.in-Some.ensures

pub returns-in-None-clause-lines : goal.returns-in-None-clause-lines
returns-in-None-clause-lines c = last_line c.args.bytes.now c.requires c.in-None.ensures
