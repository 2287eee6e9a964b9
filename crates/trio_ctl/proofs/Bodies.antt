-- Holds whose bodies are the settled ones, by the open grants.
use Rattle.trio_ctl.proofs.Words.{◌&&◌, ◌==◌, ◌∙◌, ◌≡◌, Bundled, Checkpointed, Creds, GivenTo, HaveBodies, Hold, HoldParts, In, In-list_any, In-map, Kept, LibNo, List, OpenGrant, Opened, Option, State, Store, and_from, and_parts, ap, bundle_in, bytes_eq, bytes_eq-Decides, eq-eqb, eqb-true, grants_in, hold_kind, is_body_of, is_hold, list_all, list_all-In, list_all-each, list_any-In, map-In, settled, settled_body, state_of, sym, true, with_checkpoint, ℕ}
use Rattle.trio_open.specs.inner.Given.{is_held_so}

record IsHeldSo (lib : LibNo) (h : HoldParts) (g : OpenGrant) : Type 0 where
  lib_is : g.lib ≡ lib.0
  kind : g.kind ≡ Hold
  ino : g.ino ≡ h.ino
  body : g.body ≡ h.body

so_from : (lib : LibNo) (h : HoldParts) (g : OpenGrant) → is_held_so lib h g ≡ true → IsHeldSo lib h g
so_from lib h g e =
    let a1 = g.lib == lib.0 in
    let a2 = is_hold g.kind in
    let a3 = g.ino == h.ino in
    let a4 = bytes_eq g.body h.body in
    let p3 = and_parts (a1 && a2 && a3) a4 e in
    let p2 = and_parts (a1 && a2) a3 p3.0 in
    let p1 = and_parts a1 a2 p2.0 in
    record {
      lib_is = eqb-true g.lib lib.0 p1.0;
      kind = hold_kind g.kind p1.1;
      ino = eqb-true g.ino h.ino p2.1;
      body = (bytes_eq-Decides g.body h.body).0 p3.1;
    }

so_back : (lib : LibNo) (h : HoldParts) (g : OpenGrant) → IsHeldSo lib h g → is_held_so lib h g ≡ true
so_back lib h g s =
    let a1 = g.lib == lib.0 in
    let a2 = is_hold g.kind in
    let a3 = g.ino == h.ino in
    let a4 = bytes_eq g.body h.body in
    and_from (a1 && a2 && a3) a4
    (and_from (a1 && a2) a3 (and_from a1 a2 (eq-eqb g.lib lib.0 s.lib_is) (ap is_hold s.kind)) (eq-eqb g.ino h.ino s.ino))
    ((bytes_eq-Decides g.body h.body).1 s.body)

module _ (s : Store) (first : ℕ) (files : List Opened) (creds : List Creds) (made : ℕ) (kept : Kept (state_of s first (grants_in files) creds made)) (lib : LibNo) where
  abbrev st : State
  st = state_of s first (grants_in files) creds made

  abbrev cs : List (Option Checkpointed)
  cs = s.checkpoints.items

  kept_of : (g : OpenGrant) → In g st.open_grants → (o : Opened) × In o files × (g ≡ with_checkpoint cs o.grant)
  kept_of g i =
      let h = map-In (with_checkpoint cs) g (grants_in files) i in
      let o = map-In (λ (o : Opened). o.grant) h.0 files h.1 in
      (o.0, o.1, h.2 ∙ ap (with_checkpoint cs) o.2)

  open_of : (o : Opened) → In o files → In (with_checkpoint cs o.grant) st.open_grants
  open_of o i = In-map (with_checkpoint cs) o.grant (grants_in files) (In-map (λ (o : Opened). o.grant) o files i)

  pub bodies_stand : (holds : List HoldParts) → list_all (λ h. is_body_of files lib h) holds ≡ true → HaveBodies st holds
  bodies_stand holds e h i =
      let o = list_any-In (λ (o : Opened). is_held_so lib h o.grant) files (list_all-In (λ h. is_body_of files lib h) h holds e i) in
      let t = so_from lib h o.0.grant o.2 in
      sym t.body ∙ kept.bodies (with_checkpoint cs o.0.grant) (open_of o.0 o.1) ∙ ap (settled_body (settled st)) t.ino

  pub stand_held : (b : Bundled) → GivenTo st lib.0 (bundle_in b) → HaveBodies st b.holds → list_all (λ h. is_body_of files lib h) b.holds ≡ true
  stand_held b given bodies = list_all-each (λ h. is_body_of files lib h) b.holds
      (λ h i.
      let q = given.holds h.ino (In-map (λ (h : HoldParts). h.ino) h b.holds i) in
      let o = kept_of q.grant q.is_open in
      let stands = kept.bodies q.grant q.is_open in
      In-list_any (λ (o : Opened). is_held_so lib h o.grant) o.0 files o.1 (so_back lib h o.0.grant (record {
        lib_is = sym (ap (λ (x : OpenGrant). x.lib) o.2) ∙ q.lib;
        kind = sym (ap (λ (x : OpenGrant). x.kind) o.2) ∙ q.kind;
        ino = sym (ap (λ (x : OpenGrant). x.ino) o.2) ∙ q.ino;
        body = sym (ap (λ (x : OpenGrant). x.body) o.2) ∙ stands ∙ ap (settled_body (settled st)) q.ino ∙ sym (bodies h i);
      })))
