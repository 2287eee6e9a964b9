use Rattle.trio_ctl.proofs.Words.{◌∙◌, ◌≡◌, HasKit, IfOk, State, ap, arith, grants_in, state_of, subst}
use Rattle.trio_ctl.specs.Kits.{TakesOne}
use Rattle.trio_ctl.proofs.Views.{state_is}
use Rattle.trio_ctl.proofs.Seen.{sized_so}
use Rattle.trio_ctl.proofs.registry.Registry.kit_for.Goals as goal

pub returns-clause-kit : goal.returns-clause-kit
returns-clause-kit c =
    let i = c.self.inside in
    let st = state_of i.store i.first_core (grants_in i.files.items) i.libs.items i.history.made in
    let table = c.inodes-inodes.ensures.inodes in
    let count : c.inodes-inodes.result ≡ st.home.core.inodes = omega (arith, table) in
    let sizes = sized_so c.range.result c.inodes-inodes.result c.args.self.now.state c.range.ensures (count ∙ ap (λ (v : State). v.home.core.inodes) (state_is c.self.view_is)) in
    subst (λ z. IfOk c.kit_for.result (HasKit z c.args.bundle.now)) sizes c.kit_for.ensures.kit

pub returns-clause-takes : goal.returns-clause-takes
returns-clause-takes c =
    let i = c.self.inside in
    let st = state_of i.store i.first_core (grants_in i.files.items) i.libs.items i.history.made in
    let table = c.inodes-inodes.ensures.inodes in
    let count : c.inodes-inodes.result ≡ st.home.core.inodes = omega (arith, table) in
    let sizes = sized_so c.range.result c.inodes-inodes.result c.args.self.now.state c.range.ensures (count ∙ ap (λ (v : State). v.home.core.inodes) (state_is c.self.view_is)) in
    subst (λ z. TakesOne z c.args.spares.now c.kit_for.new.self) sizes c.kit_for.ensures.takes
