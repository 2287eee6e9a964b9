use Rattle.trio_judge_tests.proofs.Words.{◌∙◌, ◌≡◌, Some, ap, arith, as_row, eqb, false, row_in, sym}
use Rattle.std.specs.Option.{option_map}
use Rattle.std.proofs.lemmas.Bool.Decides.{nat_tests}
use Rattle.trio_rights.specs.Row.{is_child}
use Rattle.trio_judge_tests.proofs.Listed.{other_number}
use Rattle.trio_judge_tests.proofs.leaves.is_listed_by_directory.Goals as goal

pub returns-in-Some : goal.returns-in-Some
returns-in-Some c = λ all f i no_directory.
    let row = c.in-Some.row in
    let is : row_in c.args.rows.now c.args.ino ≡ Some (as_row row) = sym c.row.ensures ∙ ap (option_map as_row) c.in-Some.is in
    let other : eqb f.ino row.parent ≡ false = other_number c.files.result.now c.args.listing.now.listing.files row.parent c.files.ensures.numbers c.files.ensures.rows (sym c.are_not.ensures ∙ all) f i no_directory in
    let turned : eqb row.parent f.ino ≡ false = grind (arith, nat_tests) in
    ap (is_child f.ino) is ∙ turned
