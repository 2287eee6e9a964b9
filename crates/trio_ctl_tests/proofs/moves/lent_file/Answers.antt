use Rattle.std.proofs.Common.{length, ap, ◌∙◌}
use Rattle.trio_nodes.specs.declared.grant.GrantKind.TheVariants.{Write}
use Rattle.trio_ctl.proofs.Given.{creds_kept}
use Rattle.trio_ctl_tests.proofs.Leases.{written_is_lent}
use Rattle.trio_ctl_tests.proofs.moves.lent_file.Goals as goal

pub returns-then-idle-clause-two : goal.returns-then-idle-clause-two
returns-then-idle-clause-two c = ap length (creds_kept c.args.ctl.now.state 1 c.args.ino Write _ c.grant.new.self.state c.grant.ensures.step) ∙ c.requires

pub returns-then-idle-clause-lent : goal.returns-then-idle-clause-lent
returns-then-idle-clause-lent c = written_is_lent c.args.ctl.now.state c.grant.new.self.state c.args.ino c.grant.result c.written.result c.grant.ensures.step c.grant.ensures.lease c.written.ensures
