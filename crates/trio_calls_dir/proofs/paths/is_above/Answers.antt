use Rattle.trio_calls_dir.proofs.Words.{◌∙◌, ap, arith, is_above, rules}
use Rattle.trio_onetree.proofs.PathFacts.{above-short, above-long}
use Rattle.trio_calls_dir.proofs.paths.is_above.Goals as goal

pub returns-then-from-to : goal.returns-then-from-to
returns-then-from-to c =
    above-long c.names-from.result.now c.names-to.result.now _ (omega arith) c.eq.ensures
    ∙ ap (λ p. is_above p c.names-to.result.now) c.names-from.ensures.names ∙ ap (is_above c.args.from.now) c.names-to.ensures.names

pub returns-else-from-to : goal.returns-else-from-to
returns-else-from-to c =
    above-short c.names-from.result.now c.names-to.result.now _ (search rules) (omega arith)
    ∙ ap (λ p. is_above p c.names-to.result.now) c.names-from.ensures.names ∙ ap (is_above c.args.from.now) c.names-to.ensures.names
