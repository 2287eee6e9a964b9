use Rattle.trio_ctl.proofs.Words.{◌-◌, ◌<◌, ◌∙◌, ◌≡◌, None, State, Underway, ap, arith, begun_by, get_or, grants_in, length, state_of, sym}
use Rattle.trio_ctl.proofs.Beginnings.{begins_controlled, begun_place}
use Rattle.trio_ctl.proofs.Views.{state_is, underway_is}
use Rattle.trio_ctl.proofs.registry.Registry.begin.Goals as goal

pub invariant_of-self : goal.invariant_of-self
invariant_of-self c =
    let i = c.self.inside in
    let place = c.args.lib.0 - 1 in
    let u : Underway = record { state = state_of i.store i.first_core (grants_in i.files.items) i.libs.items i.history.made; begun = i.begun.items } in
    let low = c.requires.library.0 in
    let high = c.requires.library.1 in
    let creds : length i.libs.items ≡ length c.args.self.now.state.creds = ap (λ (s : State). length s.creds) (state_is c.self.view_is) in
    let placed = c.self.invariant.placed in
    let within : place < length i.begun.items = omega (arith, low, high, creds, placed) in
    let none : get_or i.begun.items place None ≡ None = sym (begun_place u c.args.lib.0 low) ∙ ap (λ (v : Underway). begun_by v c.args.lib.0) (underway_is c.self.view_is) ∙ c.requires.idle in
    begins_controlled i.store i.first_core i.grants i.files.items i.libs.items i.history c.promise.new.self i.begun.items place c.in-Ok.taken.2 c.self.invariant c.promise.ensures within none
