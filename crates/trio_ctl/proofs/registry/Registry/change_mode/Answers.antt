use Rattle.trio_ctl.proofs.Words.{◌∙◌, ◌≡◌, None, Option, Row, State, ap, as_row, grants_in, mode_fault, option_map, row_at, state_of, subst, sym}
use Rattle.trio_ctl.proofs.Moding.{after_is, live_within, moded_controlled, page_there, slot_within}
use Rattle.trio_ctl.proofs.Views.{state_is}
use Rattle.trio_ctl.proofs.registry.Registry.change_mode.Goals as goal

pub put_mode-requires-clause-live : goal.put_mode-requires-clause-live
put_mode-requires-clause-live c =
    let i = c.self.inside in
    let st = state_of i.store i.first_core (grants_in i.files.items) i.libs.items i.history.made in
    let by = c.requires.free.0 in
    let r = as_row c.in-Some.row in
    let live = sym c.row.ensures ∙ ap (option_map as_row) c.in-Some.is in
    let none = subst (λ (o : Option Row). mode_fault st by c.args.ino c.args.mode o ≡ None) live (subst (λ (v : State). mode_fault v by c.args.ino c.args.mode (row_at v.home c.args.ino) ≡ None) (sym (state_is c.self.view_is)) c.requires.free.1) in
    live_within i.store i.first_core i.grants i.files.items i.libs.items i.history i.begun.items c.self.invariant by c.args.ino c.args.mode r live none

pub put_mode-requires-clause-slot : goal.put_mode-requires-clause-slot
put_mode-requires-clause-slot c =
    let i = c.self.inside in
    let st = state_of i.store i.first_core (grants_in i.files.items) i.libs.items i.history.made in
    let by = c.requires.free.0 in
    let r = as_row c.in-Some.row in
    let live = sym c.row.ensures ∙ ap (option_map as_row) c.in-Some.is in
    let none = subst (λ (o : Option Row). mode_fault st by c.args.ino c.args.mode o ≡ None) live (subst (λ (v : State). mode_fault v by c.args.ino c.args.mode (row_at v.home c.args.ino) ≡ None) (sym (state_is c.self.view_is)) c.requires.free.1) in
    slot_within i.store i.first_core i.grants i.files.items i.libs.items i.history i.begun.items c.self.invariant by c.args.ino c.args.mode r live none

pub put_mode-requires-clause-there : goal.put_mode-requires-clause-there
put_mode-requires-clause-there c =
    let i = c.self.inside in
    let st = state_of i.store i.first_core (grants_in i.files.items) i.libs.items i.history.made in
    let by = c.requires.free.0 in
    let r = as_row c.in-Some.row in
    let live = sym c.row.ensures ∙ ap (option_map as_row) c.in-Some.is in
    let none = subst (λ (o : Option Row). mode_fault st by c.args.ino c.args.mode o ≡ None) live (subst (λ (v : State). mode_fault v by c.args.ino c.args.mode (row_at v.home c.args.ino) ≡ None) (sym (state_is c.self.view_is)) c.requires.free.1) in
    page_there i.store i.first_core i.grants i.files.items i.libs.items i.history i.begun.items c.self.invariant by c.args.ino c.args.mode r live none

pub invariant_of-self : goal.invariant_of-self
invariant_of-self c =
    let i = c.self.inside in
    let st = state_of i.store i.first_core (grants_in i.files.items) i.libs.items i.history.made in
    let by = c.requires.free.0 in
    let r = as_row c.in-Some.row in
    let live = sym c.row.ensures ∙ ap (option_map as_row) c.in-Some.is in
    let none = subst (λ (o : Option Row). mode_fault st by c.args.ino c.args.mode o ≡ None) live (subst (λ (v : State). mode_fault v by c.args.ino c.args.mode (row_at v.home c.args.ino) ≡ None) (sym (state_is c.self.view_is)) c.requires.free.1) in
    moded_controlled i.store i.first_core i.grants i.files.items i.libs.items i.history i.begun.items c.self.invariant by c.args.ino c.args.mode r live none c.put_mode.new.store c.enter.new.self c.put_mode.ensures.pages c.put_mode.ensures.rest c.enter.ensures

pub returns-clause-state : goal.returns-clause-state
returns-clause-state c =
    let i = c.self.inside in
    let st = state_of i.store i.first_core (grants_in i.files.items) i.libs.items i.history.made in
    let by = c.requires.free.0 in
    let r = as_row c.in-Some.row in
    let live = sym c.row.ensures ∙ ap (option_map as_row) c.in-Some.is in
    let none = subst (λ (o : Option Row). mode_fault st by c.args.ino c.args.mode o ≡ None) live (subst (λ (v : State). mode_fault v by c.args.ino c.args.mode (row_at v.home c.args.ino) ≡ None) (sym (state_is c.self.view_is)) c.requires.free.1) in
    rw (← (state_is c.self.view_is)) (after_is i.store i.first_core i.grants i.files.items i.libs.items i.history i.begun.items c.self.invariant by c.args.ino c.args.mode r live none c.put_mode.new.store c.enter.new.self c.put_mode.ensures.pages c.put_mode.ensures.rest c.enter.ensures)
