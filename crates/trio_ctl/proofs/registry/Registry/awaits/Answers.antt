use Rattle.trio_ctl.proofs.Words.{◌≡◌, rules, true}
use Rattle.trio_ctl.proofs.Awaiting.{copy_from, copy_is}
use Rattle.trio_ctl.proofs.registry.Registry.awaits.Goals as goal

pub returns-then-is_copy-clause-only : goal.returns-then-is_copy-clause-only
returns-then-is_copy-clause-only c =
    let begun : c.has_begun.result ≡ true = search rules in
    λ on. (c.has_begun.ensures.begun.0 begun, copy_is c.args.self.now.state c.args.case.now (c.is_copy.ensures.0 c.if-is_copy.true) (c.has_bodies.ensures.only on))

pub returns-then-is_copy-clause-each : goal.returns-then-is_copy-clause-each
returns-then-is_copy-clause-each c = λ given awaited. c.has_bodies.ensures.each given (copy_from c.args.self.now.state c.args.case.now awaited.1).1

pub returns-else-is_copy-clause-each : goal.returns-else-is_copy-clause-each
returns-else-is_copy-clause-each c = λ given awaited. c.is_copy.ensures.1 (copy_from c.args.self.now.state c.args.case.now awaited.1).0
