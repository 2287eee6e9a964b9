use Rattle.trio_shared.proofs.Words.{◌+◌, ◌∙◌, Controller, IsIdle, ap, arith, creds_of, subst, sym}
use Rattle.trio_shared.proofs.Credentials.{creds_grow}
use Rattle.trio_shared.proofs.shared.all_creds.Goals as goal

pub creds-requires-clause-idle : goal.creds-requires-clause-idle
creds-requires-clause-idle c =
    subst (λ (x : Controller). IsIdle x (c.loop-k.k + 1)) (sym c.loop-k.invariant.0) (c.requires.idle (c.loop-k.k + 1))

pub loop-k-preserved : goal.loop-k-preserved
loop-k-preserved c =
    let creds = c.args.held.now.state.creds in
    let many = c.requires.libraries in
    let below = c.loop-k-test.true in
    let own = c.creds.ensures.creds ∙ ap (λ (x : Controller). creds_of x.state (c.loop-k.k + 1)) c.loop-k.invariant.0 in (
      c.creds.ensures.same ∙ c.loop-k.invariant.0,
      creds_grow creds c.loop-k.k c.creds.result c.loop-k.libs.items c.push.new.self.items (omega (arith, many, below)) own c.loop-k.invariant.1 c.in_ok-push.ensures.items,
    )
