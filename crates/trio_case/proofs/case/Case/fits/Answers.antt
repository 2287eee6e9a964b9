use Rattle.trio_case.proofs.Words.{◌+◌, ◌<◌, ◌∙◌, ◌≡◌, ap, arith, bundle_in, copied_row, length, nat_tests, row_in, row_kept, subst, sym, tabulated-length}
use Rattle.trio_case.proofs.CaseRows.{tables-same, tables-agree}
use Rattle.trio_case.proofs.case.Case.fits.Goals as goal

pub returns-then-inodes-self : goal.returns-then-inodes-self
returns-then-inodes-self c =
    let k = c.self.inside in
    let rows = c.args.rows.now in
    let same = c.is_copied.ensures k.bundle c.self.invariant.0 in
    let size : k.inodes + 1 ≡ length rows = grind (arith, nat_tests) in
    rw (← c.self.view_is) (
      (λ t. tables-same (row_kept k.numbers k.rows) (λ n. copied_row (bundle_in k.bundle) n (row_in rows n)) (k.inodes + 1) (length rows) size (λ n l. same.0 t n (subst (λ m. n < m) size l))),
      (λ e. same.1 (λ n l. tables-agree (row_kept k.numbers k.rows) (λ n. copied_row (bundle_in k.bundle) n (row_in rows n)) (k.inodes + 1) (length rows) n e l)),
    )

pub returns-else-inodes-self : goal.returns-else-inodes-self
returns-else-inodes-self c =
    let k = c.self.inside in
    let rows = c.args.rows.now in
    rw (← c.self.view_is) (
      (λ t. absurd (grind (arith, nat_tests))),
      (λ e. let size : k.inodes + 1 ≡ length rows = sym (tabulated-length (row_kept k.numbers k.rows) (k.inodes + 1)) ∙ ap length e ∙ tabulated-length (λ n. copied_row (bundle_in k.bundle) n (row_in rows n)) (length rows) in grind (arith, nat_tests)),
    )
