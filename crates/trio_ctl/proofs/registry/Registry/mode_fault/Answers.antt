use Rattle.trio_ctl.proofs.Words.{◌∙◌, ◌≡◌, Option, Row, Some, State, all_back, ap, as_row, find, mode_fault, option_map, row_at, stays_around, subst, sym}
use Rattle.trio_ctl.proofs.Moding.{busy_told, denied_back, free_back, none_told}
use Rattle.trio_ctl.proofs.Views.{state_is}
use Rattle.trio_ctl.proofs.registry.Registry.mode_fault.Goals as goal

pub returns-in-Some-mode_denial : goal.returns-in-Some-mode_denial
returns-in-Some-mode_denial c =
    let s = c.args.self.now.state in
    let r = as_row c.in-Some.row in
    let live = subst (λ (v : State). row_at v.home c.args.ino ≡ Some r) (state_is c.self.view_is) (sym c.row.ensures ∙ ap (option_map as_row) c.in-Some.is) in
    let at = ap (λ (o : Option Row). mode_fault (all_back s c.args.lib c.args.back.now) c.args.lib.0 c.args.ino c.args.mode o) live in
    sym (at ∙ denied_back s c.args.lib c.args.ino c.args.mode c.args.back.now r c.in-Some-mode_denial.fault (sym c.mode_denial.ensures ∙ c.in-Some-mode_denial.is))

pub returns-in-Some-holder_around : goal.returns-in-Some-holder_around
returns-in-Some-holder_around c =
    let s = c.args.self.now.state in
    let r = as_row c.in-Some.row in
    let live = subst (λ (v : State). row_at v.home c.args.ino ≡ Some r) (state_is c.self.view_is) (sym c.row.ensures ∙ ap (option_map as_row) c.in-Some.is) in
    let at = ap (λ (o : Option Row). mode_fault (all_back s c.args.lib c.args.back.now) c.args.lib.0 c.args.ino c.args.mode o) live in
    sym (at ∙ free_back s c.args.lib c.args.ino c.args.mode c.args.back.now r (sym c.mode_denial.ensures ∙ c.in_default-mode_denial.is)
    ∙ busy_told (find (stays_around c.args.lib.0 c.args.ino r.parent c.args.back.now) s.open_grants) c.in-Some-holder_around.holder (sym c.holder_around.ensures ∙ c.in-Some-holder_around.is))

pub returns-in-None : goal.returns-in-None
returns-in-None c =
    let s = c.args.self.now.state in
    let r = as_row c.in-Some.row in
    let live = subst (λ (v : State). row_at v.home c.args.ino ≡ Some r) (state_is c.self.view_is) (sym c.row.ensures ∙ ap (option_map as_row) c.in-Some.is) in
    let at = ap (λ (o : Option Row). mode_fault (all_back s c.args.lib c.args.back.now) c.args.lib.0 c.args.ino c.args.mode o) live in
    sym (at ∙ free_back s c.args.lib c.args.ino c.args.mode c.args.back.now r (sym c.mode_denial.ensures ∙ c.in_default-mode_denial.is)
    ∙ none_told (find (stays_around c.args.lib.0 c.args.ino r.parent c.args.back.now) s.open_grants) (sym c.holder_around.ensures ∙ c.in-None.is))
