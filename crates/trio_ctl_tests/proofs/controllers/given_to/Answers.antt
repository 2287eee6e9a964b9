use Rattle.std.proofs.Common.{length, ap, ◌∙◌}
use Rattle.trio_state.specs.Step.{Allot}
use Rattle.trio_laws.proofs.history.Grows.{step_creds}
use Rattle.trio_ctl.specs.Answers.{allot_answer}
use Rattle.trio_ctl_tests.proofs.controllers.given_to.Goals as goal

pub returns : goal.returns
returns c =
    let asked = Allot c.args.lib.0 c.args.pages c.args.inodes in
    ap length (step_creds c.args.ctl.now.state asked (allot_answer c.allot.result) c.allot.new.self.state c.allot.ensures.step) ∙ c.requires.two
