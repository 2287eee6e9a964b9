use Rattle.trio_ctl.proofs.Words.{◌∙◌, ◌≡◌, IfOk, State, ap, arith, grants_in, state_of, subst}
use Rattle.trio_ctl.specs.Kits.{AreSpare}
use Rattle.trio_ctl.proofs.Seen.{sized_so}
use Rattle.trio_ctl.proofs.Views.{state_is}
use Rattle.trio_ctl.proofs.registry.Registry.more_kits.Goals as goal

pub returns-clause-spare : goal.returns-clause-spare
returns-clause-spare c =
    let i = c.self.inside in
    let st = state_of i.store i.first_core (grants_in i.files.items) i.libs.items i.history.made in
    let table = c.inodes.ensures.inodes in
    let count : c.inodes.result ≡ st.home.core.inodes = omega (arith, table) in
    let sizes = sized_so c.range.result c.inodes.result c.args.self.now.state c.range.ensures (count ∙ ap (λ (v : State). v.home.core.inodes) (state_is c.self.view_is)) in
    subst (λ z. IfOk c.more.result (AreSpare z)) sizes c.more.ensures.spare
