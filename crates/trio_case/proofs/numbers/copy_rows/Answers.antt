use Rattle.trio_case.proofs.Words.{◌≡◌, arith, false, is_directory, list_any, rows_seen, sym}
use Rattle.trio_case.proofs.CaseRows.{own_copied}
use Rattle.trio_case.proofs.CopiedCount.{most_of}
use Rattle.trio_case.proofs.numbers.copy_rows.Goals as goal

pub listed_rows-requires-clause-places : goal.listed_rows-requires-clause-places
listed_rows-requires-clause-places c =
    let most = most_of c.args.numbers.now c.args.bundle.now c.args.rows.now c.requires.tells in
    let places = c.requires.memory.listed (sym c.if-writes_directory.ensures) in
    record {
      numbers = omega (arith, most, c.requires.children, places.numbers);
      rows = omega (arith, most, c.requires.children, places.rows);
    }

pub returns-else-writes_directory : goal.returns-else-writes_directory
returns-else-writes_directory c =
    let none : list_any (λ f. is_directory f.stands.kind) c.args.bundle.now.writes ≡ false = sym c.if-writes_directory.ensures in
    own_copied c.args.bundle.now c.args.rows.now (rows_seen c.own_rows.result.items) c.args.numbers.now c.requires.written none c.requires.parents c.requires.tells c.own_rows.ensures
