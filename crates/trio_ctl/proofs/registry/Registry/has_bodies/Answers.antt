use Rattle.trio_ctl.proofs.Words.{◌∙◌, ◌≡◌, Bundled, GivenTo, HaveBodies, HoldParts, LibNo, List, Opened, State, ap, bundle_in, is_body_of, list_all, subst, sym}
use Rattle.trio_ctl.proofs.Bodies.{bodies_stand, stand_held}
use Rattle.trio_ctl.proofs.Views.{state_is}
use Rattle.trio_ctl.proofs.registry.Registry.has_bodies.Goals as goal

pub returns-clause-only : goal.returns-clause-only
returns-clause-only c =
    let i = c.self.inside in
    let k = c.args.case.now in
    let test : c.have_bodies.result ≡ list_all (λ h. is_body_of i.files.items k.lib h) k.bundle.holds =
    c.have_bodies.ensures
    ∙ ap (λ (fs : List Opened). list_all (λ h. is_body_of fs c.lib.result h) c.holds.result.now) c.deref.ensures.value
    ∙ ap (λ (l : LibNo). list_all (λ h. is_body_of i.files.items l h) c.holds.result.now) c.lib.ensures
    ∙ ap (λ (hs : List HoldParts). list_all (λ h. is_body_of i.files.items k.lib h) hs) (c.holds.ensures ∙ ap (λ (b : Bundled). b.holds) c.bundle.ensures.bundle) in
    λ on. subst (λ (v : State). HaveBodies v k.bundle.holds) (state_is c.self.view_is)
    (bodies_stand i.store i.first_core i.files.items i.libs.items i.history.made c.self.invariant.stored.kept k.lib k.bundle.holds (sym test ∙ on))

pub returns-clause-each : goal.returns-clause-each
returns-clause-each c =
    let i = c.self.inside in
    let k = c.args.case.now in
    let test : c.have_bodies.result ≡ list_all (λ h. is_body_of i.files.items k.lib h) k.bundle.holds =
    c.have_bodies.ensures
    ∙ ap (λ (fs : List Opened). list_all (λ h. is_body_of fs c.lib.result h) c.holds.result.now) c.deref.ensures.value
    ∙ ap (λ (l : LibNo). list_all (λ h. is_body_of i.files.items l h) c.holds.result.now) c.lib.ensures
    ∙ ap (λ (hs : List HoldParts). list_all (λ h. is_body_of i.files.items k.lib h) hs) (c.holds.ensures ∙ ap (λ (b : Bundled). b.holds) c.bundle.ensures.bundle) in
    λ given bodies. test
    ∙ stand_held i.store i.first_core i.files.items i.libs.items i.history.made c.self.invariant.stored.kept k.lib k.bundle
    (subst (λ (v : State). GivenTo v k.lib.0 (bundle_in k.bundle)) (sym (state_is c.self.view_is)) given)
    (subst (λ (v : State). HaveBodies v k.bundle.holds) (sym (state_is c.self.view_is)) bodies)
