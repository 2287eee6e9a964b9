use Rattle.trio_runner.proofs.Words.{◌++◌, ◌∙◌, ap}
use Rattle.trio_runner.proofs.Spelled.{parts_more}
use Rattle.trio_runner.proofs.copies.spelled.Goals as goal

pub loop-name-preserved : goal.loop-name-preserved
loop-name-preserved c =
    parts_more c.args.names.now c.loop-name.name-index c.name-item.result c.loop-name.bytes.items c.push.new.self.items c.extend_from_slice.new.self.items c.loop-name-test.true c.name-item.is c.loop-name.invariant
    c.in_ok-push.ensures.items (c.in_ok-extend_from_slice.ensures.items ∙ ap (λ l. c.push.new.self.items ++ l) c.as_bytes.ensures.bytes)
