use Rattle.trio_ctl.proofs.Words.{◌-◌, ◌∙◌, ◌≡◌, Entries, IsControlled, None, Option, Outline, Registered, Some, Underway, ap, arith, begun_by, get_or, grants_in, set, state_of, subst, sym, underway_at}
use Rattle.trio_ctl.proofs.Beginnings.{begun_place, begun_stands, some_promised, stands_there, takes_controlled}
use Rattle.trio_ctl.proofs.Views.{underway_is}
use Rattle.trio_ctl.proofs.registry.Registry.take_begun.Goals as goal

pub withdraw-requires : goal.withdraw-requires
withdraw-requires c =
    let i = c.self.inside in
    let lib = c.args.lib.0 in
    let place = lib - 1 in
    let u : Underway = record { state = state_of i.store i.first_core (grants_in i.files.items) i.libs.items i.history.made; begun = i.begun.items } in
    let seen : begun_by u lib ≡ begun_by (underway_at c.args.self.now) lib = ap (λ (v : Underway). begun_by v lib) (underway_is c.self.view_is) in
    let stands = begun_stands u lib (λ none. c.requires (sym seen ∙ none)) in
    let there : get_or i.begun.items place None ≡ Some c.in-Some.begun = stands_there i.begun.items place c.index_mut.result.now c.take.result c.in-Some.begun stands.1 c.index_mut.ensures.value c.take.ensures.value c.in-Some.is in
    some_promised i.store i.first_core i.grants i.files.items i.libs.items i.history i.begun.items place c.in-Some.begun c.self.invariant stands.1 there

pub invariant_of-self : goal.invariant_of-self
invariant_of-self c =
    let i = c.self.inside in
    let lib = c.args.lib.0 in
    let place = lib - 1 in
    let u : Underway = record { state = state_of i.store i.first_core (grants_in i.files.items) i.libs.items i.history.made; begun = i.begun.items } in
    let seen : begun_by u lib ≡ begun_by (underway_at c.args.self.now) lib = ap (λ (v : Underway). begun_by v lib) (underway_is c.self.view_is) in
    let stands = begun_stands u lib (λ none. c.requires (sym seen ∙ none)) in
    let there : get_or i.begun.items place None ≡ Some c.in-Some.begun = stands_there i.begun.items place c.index_mut.result.now c.take.result c.in-Some.begun stands.1 c.index_mut.ensures.value c.take.ensures.value c.in-Some.is in
    subst (λ (o : Option Outline). IsControlled i.store i.first_core i.grants i.files.items i.libs.items c.withdraw.new.self (set i.begun.items place o)) (sym c.take.ensures.after)
    (takes_controlled i.store i.first_core i.grants i.files.items i.libs.items i.history c.withdraw.new.self i.begun.items place c.in-Some.begun c.self.invariant c.withdraw.ensures.less stands.1 there)

pub returns-clause-begun : goal.returns-clause-begun
returns-clause-begun c =
    let i = c.self.inside in
    let lib = c.args.lib.0 in
    let place = lib - 1 in
    let u : Underway = record { state = state_of i.store i.first_core (grants_in i.files.items) i.libs.items i.history.made; begun = i.begun.items } in
    let seen : begun_by u lib ≡ begun_by (underway_at c.args.self.now) lib = ap (λ (v : Underway). begun_by v lib) (underway_is c.self.view_is) in
    let stands = begun_stands u lib (λ none. c.requires (sym seen ∙ none)) in
    let there : get_or i.begun.items place None ≡ Some c.in-Some.begun = stands_there i.begun.items place c.index_mut.result.now c.take.result c.in-Some.begun stands.1 c.index_mut.ensures.value c.take.ensures.value c.in-Some.is in
    sym seen ∙ begun_place u lib stands.0 ∙ there

pub returns-clause-promised : goal.returns-clause-promised
returns-clause-promised c =
    let i = c.self.inside in
    let lib = c.args.lib.0 in
    let place = lib - 1 in
    let u : Underway = record { state = state_of i.store i.first_core (grants_in i.files.items) i.libs.items i.history.made; begun = i.begun.items } in
    let seen : begun_by u lib ≡ begun_by (underway_at c.args.self.now) lib = ap (λ (v : Underway). begun_by v lib) (underway_is c.self.view_is) in
    let stands = begun_stands u lib (λ none. c.requires (sym seen ∙ none)) in
    let there : get_or i.begun.items place None ≡ Some c.in-Some.begun = stands_there i.begun.items place c.index_mut.result.now c.take.result c.in-Some.begun stands.1 c.index_mut.ensures.value c.take.ensures.value c.in-Some.is in
    let some = some_promised i.store i.first_core i.grants i.files.items i.libs.items i.history i.begun.items place c.in-Some.begun c.self.invariant stands.1 there in
    let less : c.withdraw.new.self.promised ≡ i.history.promised - 1 = ap (λ (e : Entries). e.promised) c.withdraw.ensures.less in
    let was : i.history.promised ≡ c.args.self.now.promised = ap (λ (x : Registered). x.promised) c.self.view_is in
    omega (arith, some, less, was)
