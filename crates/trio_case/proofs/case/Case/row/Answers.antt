use Rattle.trio_case.proofs.Words.{◌+◌, ◌∙◌, None, arith, row_kept, sym, tabulated-get}
use Rattle.trio_lists.proofs.Tabulated.{tabulated-past}
use Rattle.trio_case.proofs.case.Case.row.Goals as goal

pub returns-then-ino-self : goal.returns-then-ino-self
returns-then-ino-self c =
    let k = c.self.inside in
    rw (← c.self.view_is) (sym (tabulated-past (row_kept k.numbers k.rows) (k.inodes + 1) c.args.ino None (omega (arith, c.if-ino-self.true))))

pub returns : goal.returns
returns c =
    let k = c.self.inside in
    let here = tabulated-get (row_kept k.numbers k.rows) (k.inodes + 1) c.args.ino None (omega (arith, c.if-ino-self.false)) in
    rw (← c.self.view_is) (c.row.ensures ∙ sym here)
