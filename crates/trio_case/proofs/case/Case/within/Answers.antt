use Rattle.trio_case.proofs.Words.{◌+◌, ap, bundle_in, copied_row, length, row_in, row_kept, sym}
use Rattle.trio_case.proofs.CaseRows.{judgeable_case, numbers_differ, tables-same}
use Rattle.trio_case.proofs.case.Case.within.Goals as goal

pub of-numbers-requires-clause-differ : goal.of-numbers-requires-clause-differ
of-numbers-requires-clause-differ c = numbers_differ c.args.bundle c.args.rows.now c.args.range c.args.inodes c.requires.judgeable

pub invariant_of-result : goal.invariant_of-result
invariant_of-result c = (c.of-numbers.ensures, judgeable_case c.args.bundle c.args.rows.now c.args.range c.args.inodes c.requires.judgeable)

pub returns : goal.returns
returns c =
    let a = c.args in
    ap (λ rows. record { lib = a.lib; bundle = a.bundle; rows = rows; creds = a.creds; range = a.range; inodes = a.inodes })
    (tables-same (row_kept c.of-numbers.result c.copy_rows-copied.result) (λ n. copied_row (bundle_in a.bundle) n (row_in a.rows.now n)) (a.inodes + 1) (length a.rows.now)
    (sym c.requires.judgeable.table) (λ n l. c.copy_rows-copied.ensures n))
