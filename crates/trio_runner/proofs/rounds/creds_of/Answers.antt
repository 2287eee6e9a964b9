use Rattle.trio_runner.proofs.Words.{◌∙◌, ap, creds_in, sym, take_all}
use Rattle.trio_runner.proofs.Beginning.{creds_more}
use Rattle.trio_runner.proofs.rounds.creds_of.Goals as goal

pub loop-lib-preserved : goal.loop-lib-preserved
loop-lib-preserved c =
    creds_more c.args.libs.now c.loop-lib.lib-index c.lib-item.result c.loop-lib.creds.items c.push.new.self.items
    c.loop-lib-test.true (sym c.lib-item.is) c.loop-lib.invariant c.in_ok-push.ensures.items

pub returns : goal.returns
returns c = c.loop-lib.invariant ∙ ap creds_in (take_all c.loop-lib.lib-index c.args.libs.now c.loop-lib-test.false)
