use Rattle.trio_laws.proofs.judgement.CopiedRows.{copied_rows_suffice}
use Rattle.trio_laws.proofs.rules.copied_rows_suffice.Goals as goal

pub returns : goal.returns
returns c = record { law = copied_rows_suffice }
