use Rattle.trio_case.proofs.Words.{◌∙◌, None, Some, ap, as_row, bundle_in, cond, copied_row, option_map, sym}
use Rattle.trio_case.proofs.CaseRows.{copied_if}
use Rattle.trio_case.proofs.numbers.Numbers.copied.Goals as goal

pub returns-then-is_own : goal.returns-then-is_own
returns-then-is_own c = λ b h.
    sym (ap (λ x. cond x (Some (as_row c.in_ok-row.row)) None) c.if-is_own.true) ∙ copied_if c.args.self.now b c.args.ino c.in_ok-row.row c.is_own.result h c.is_own.ensures
    ∙ ap (λ r. copied_row (bundle_in b) c.args.ino (option_map as_row r)) (sym c.in_ok-row.was)

pub returns-else-is_own : goal.returns-else-is_own
returns-else-is_own c = λ b h.
    sym (ap (λ x. cond x (Some (as_row c.in_ok-row.row)) None) c.if-is_own.false) ∙ copied_if c.args.self.now b c.args.ino c.in_ok-row.row c.is_own.result h c.is_own.ensures
    ∙ ap (λ r. copied_row (bundle_in b) c.args.ino (option_map as_row r)) (sym c.in_ok-row.was)
