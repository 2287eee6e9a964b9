use Rattle.trio_gen.proofs.Words.{◌∙◌}
use Rattle.trio_gen.proofs.Summaries.{calls_put}
use Rattle.trio_gen.proofs.summary.put_calls.Goals as goal

pub returns : goal.returns
returns c = calls_put c.args.number c.args.files c.args.calls c.args.out.now.items c.extend_from_slice.new.self.items c.as_bytes.result.now (c.as_bytes.ensures.value ∙ c.in_ok-text.ensures.ok) c.in_ok-extend_from_slice.ensures.items
