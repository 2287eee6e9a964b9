use Rattle.trio_ctl.proofs.Words.{◌∙◌, List, Opened, ap, find, option_map, stays_around, sym}
use Rattle.trio_ctl.proofs.Moding.{holder_around, nobody_around}
use Rattle.trio_ctl.proofs.Views.{state_is}
use Rattle.trio_ctl.proofs.registry.Registry.holder_around.Goals as goal

pub returns-in-Some : goal.returns-in-Some
returns-in-Some c =
    let i = c.self.inside in
    let one = sym (ap (λ (fs : List Opened). option_map (λ (o : Opened). o.key) (find (λ (o : Opened). stays_around c.args.lib.0 c.args.ino c.args.parent c.args.back.now o.grant) fs)) c.deref.ensures.value) ∙ sym c.key_around.ensures ∙ c.in-Some.is in
    rw (← (state_is c.self.view_is)) (c.holder_under.ensures ∙ holder_around i.store i.first_core i.grants i.files.items i.libs.items i.history i.begun.items c.self.invariant c.args.lib.0 c.args.ino c.args.parent c.args.back.now c.in-Some.key one)

pub returns-in-None : goal.returns-in-None
returns-in-None c =
    let i = c.self.inside in
    let none = sym (ap (λ (fs : List Opened). option_map (λ (o : Opened). o.key) (find (λ (o : Opened). stays_around c.args.lib.0 c.args.ino c.args.parent c.args.back.now o.grant) fs)) c.deref.ensures.value) ∙ sym c.key_around.ensures ∙ c.in-None.is in
    rw (← (state_is c.self.view_is)) (nobody_around i.store i.first_core i.grants i.files.items i.libs.items i.history i.begun.items c.self.invariant c.args.lib.0 c.args.ino c.args.parent c.args.back.now none)
