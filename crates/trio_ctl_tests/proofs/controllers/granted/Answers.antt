use Rattle.std.proofs.Common.{length, ap, ◌∙◌}
use Rattle.trio_ctl.proofs.Given.{creds_kept}
use Rattle.trio_ctl_tests.proofs.controllers.granted.Goals as goal

pub returns-then-idle : goal.returns-then-idle
returns-then-idle c = ap length (creds_kept c.args.ctl.now.state _ _ _ _ c.grant.new.self.state c.grant.ensures.step) ∙ c.requires
