use Rattle.trio_script.proofs.Words.{sym}
use Rattle.std.proofs.Common.{eqb-true}
use Rattle.std.proofs.lemmas.List.{nil_from_length}
use Rattle.trio_script.proofs.Limits.{closed_within}
use Rattle.trio_script.proofs.read_script.Goals as goal

pub returns-clause-within : goal.returns-clause-within
returns-clause-within c =
    closed_within c.args.bytes.now c.loop-rest.rest.now c.loop-rest.begun c.loop-rest.number c.in_ok-close.field-0.items
    (nil_from_length c.loop-rest.rest.now (eqb-true _ _ (sym c.loop-rest-test.ensures))) c.loop-rest.invariant.said c.in_ok-close.ensures
