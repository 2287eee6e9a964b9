use Rattle.trio_entries.proofs.Sizes.{outline_less, told_less}
use Rattle.trio_entries.proofs.draft.DraftMemory.with.Goals as goal

pub returns : goal.returns
returns c = λ b fits. record {
  outline = outline_less b c.args.size fits c.in_ok-with.field-0 c.in_ok-with.ensures;
  told = told_less b c.args.size fits c.in_ok-with-2.field-0 c.in_ok-with-2.ensures;
}
