use Rattle.std.proofs.Common.{refl, ◌∙◌}
use Rattle.std.proofs.lemmas.Bool.{true≢false}
use Rattle.trio_tables.proofs.StoredLemmas.{same_rows, rows_of_same}
use Rattle.trio_tables.proofs.shadow.Shadow.differs_at.Goals as goal

pub returns-in_default-clause-same : goal.returns-in_default-clause-same
returns-in_default-clause-same c = (
  λ _. same_rows c.args.self.now c.args.at c.args.page.now c.requires c.bytes.ensures.len (rw c.bytes.ensures.bytes at c.in_default.ensures.same),
  λ _. refl,
)

pub returns-then-ino-inodes-clause-same : goal.returns-then-ino-inodes-clause-same
returns-then-ino-inodes-clause-same c = (
  λ e. absurd (true≢false e),
  λ e. absurd (c.in-Some.ensures.differs.1 (rows_of_same c.args.self.now c.args.at c.bytes.result.now c.in-Some.i c.requires c.in-Some.ensures.differs.0 (c.bytes.ensures.bytes ∙ e))),
)

pub returns-else-ino-inodes-clause-same : goal.returns-else-ino-inodes-clause-same
returns-else-ino-inodes-clause-same c = (
  λ e. absurd (true≢false e),
  λ e. absurd (c.in-Some.ensures.differs.1 (rows_of_same c.args.self.now c.args.at c.bytes.result.now c.in-Some.i c.requires c.in-Some.ensures.differs.0 (c.bytes.ensures.bytes ∙ e))),
)
