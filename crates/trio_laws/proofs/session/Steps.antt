-- What leases show holds through the steps of others.
use Rattle.trio_laws.proofs.Words.{◌∙◌, ◌∷◌, ◌≡◌, Agrees, AllStand, Allot, Back, CtlAnswer, Entry, Event, GivenEvent, Grant, GrantKind, HasGrant, HasPlaces, HasStanding, Hold, In, In-map, IsTree, Kept, Leases, LentWhole, NoHoldOnRoot, Node, Nodes, None, OpenGrant, Option, Past, Release, Rights, Row, SetMode, Settle, Sizes, Some, Standing, State, Step, Write, [], and_parts, ap, arith, creds_of, entry_of, eqb-true, event_of, false, inl, inr, is_read, library_of, list_any-In, map-In, node_at, node_by, node_of, nodes_of, one_node, past_of, place_from, place_parts, refl, row_at, settled, some_of, standing_of, subst, sym, writer_of, ℕ}
use Rattle.std.proofs.Common.{map}
use Rattle.trio_laws.specs.Laws.{IsModeSet}
use Rattle.trio_laws.specs.session.Others.{LeasesHold, StepLeavesLeases, MovesLeaveLeases}
use Rattle.trio_laws.proofs.Others.{LeavesTo}
use Rattle.trio_laws.proofs.OtherSteps.{other_step_leaves}
use Rattle.trio_laws.proofs.RowSteps.{every_step_keeps_rows}
use Rattle.trio_laws.proofs.Runs.{step_kept}
use Rattle.trio_laws.proofs.StateFacts.{alone, write_is}
use Rattle.trio_laws.proofs.history.Extends.{Comes'}
use Rattle.trio_laws.proofs.history.Facts.{node_is}
use Rattle.trio_laws.proofs.history.Grows.{step_extends, step_whole}
use Rattle.trio_laws.proofs.history.Isolates.{all_touched, bare, empty, bundle_back, all_marked, no_call}
use Rattle.trio_laws.proofs.history.SettleStep.{settle_within}
use Rattle.trio_laws.proofs.history.StandsTree.{states_are_trees}
use Rattle.trio_laws.proofs.session.Others.{agrees_is_stable, raw_agrees}

-- ---- nodes

module _ (s : State) (k : Kept s) where
  -- a library with a hold has a write grant on the directory
  pub parent_grant : (g : OpenGrant) (r : Row) → In g s.open_grants → g.kind ≡ Hold → row_at s.home g.ino ≡ Some r
      → (p : OpenGrant) × In p s.open_grants × (p.lib ≡ g.lib) × (p.ino ≡ r.parent) × (p.kind ≡ Write)
  parent_grant g r i kind row = search (arith, list_any-In, and_parts, eqb-true, write_is)

  -- the file of an open grant has a node
  pub live_node : (g : OpenGrant) → In g s.open_grants → (r : Row) × (row_at s.home g.ino ≡ Some r) × (node_at (nodes_of s) g.ino ≡ Some (node_of (settled s) g.ino (writer_of s g.ino) r))
  live_node g i =
      let r = some_of (row_at s.home g.ino) (k.live g i) in
      (r.0, r.1, node_is s k g.ino ∙ ap (node_by (settled s) g.ino (writer_of s g.ino)) r.1)

  no_hold : NoHoldOnRoot (map standing_of s.open_grants)
  no_hold h i kind one =
      let tree : IsTree (nodes_of s) = states_are_trees s k in
      let g = map-In standing_of h s.open_grants i in
      let held : g.0.kind ≡ Hold = ap (λ (x : Standing). x.kind) (sym g.2) ∙ kind in
      let ino : g.0.ino ≡ 1 = ap (λ (x : Standing). x.ino) (sym g.2) ∙ one in
      let n = live_node g.0 g.1 in
      let x : Node = node_of (settled s) g.0.ino (writer_of s g.0.ino) n.0 in
      let root : x ≡ tree.root.0 = one_node (node_at (nodes_of s) 1) x tree.root.0 (ap (node_at (nodes_of s)) (sym ino) ∙ n.2) tree.root.1 in
      let p = parent_grant g.0 n.0 g.1 held n.1 in
      let zero' : p.0.ino ≡ 0 = p.3 ∙ ap (λ (y : Node). y.parent) root ∙ tree.root.3 in
      let q = live_node p.0 p.1 in
      let wrong : None ≡ Some (node_of (settled s) p.0.ino (writer_of s p.0.ino) q.0) = sym tree.none ∙ ap (node_at (nodes_of s)) (sym zero') ∙ q.2 in
      absurd (cc wrong)

  module _ (w : LentWhole s) (answer : CtlAnswer) (s' : State) (lib : ℕ) (sizes : Sizes) (root : Rights) (leases : Leases)
      (stand : AllStand (map standing_of s.open_grants) lib leases) (a : Agrees sizes root leases (nodes_of s)) where
    abbrev Then : Type 0
    Then = Agrees sizes root leases (nodes_of s')

    same_nodes : s' ≡ s → Then
    same_nodes e = subst (λ (n : Nodes). Agrees sizes root leases n) (sym (ap nodes_of e)) a

    by_option : (o : Option Entry) (event : Event) → Comes' s event answer s' o → (library_of event ≡ lib → ⊥) → Then
    by_option None event same apart = same_nodes same
    by_option (Some e) event m apart =
        let other : library_of (event_of e) ≡ lib → ⊥ = λ q. apart (ap library_of (sym m.tells) ∙ q) in
        let r = agrees_is_stable s.creds (past_of s) e lib sizes root leases (states_are_trees s k) no_hold m.legal other stand a in
        subst (λ (p : Past). Agrees sizes root leases p.nodes) (sym m.comes) r.0

    agrees_then : (event : Event) → GivenEvent s event → Step s event answer s' → (library_of event ≡ lib → ⊥) → Then
    agrees_then (Grant by ino kind) given step apart =
        by_option (entry_of s (bare empty) (Grant by ino kind) answer) (Grant by ino kind) (step_extends s (bare empty) (Grant by ino kind) answer s' k w tt given step tt) apart
    agrees_then (Allot by pages numbers) given step apart =
        by_option (entry_of s (bare empty) (Allot by pages numbers) answer) (Allot by pages numbers) (step_extends s (bare empty) (Allot by pages numbers) answer s' k w tt given step tt) apart
    agrees_then (Back by ino) given step apart =
        by_option (entry_of s (bare empty) (Back by ino) answer) (Back by ino) (step_extends s (bare empty) (Back by ino) answer s' k w tt given step tt) apart
    agrees_then (Release by b) given step apart =
        by_option (entry_of s (bare b) (Release by b) answer) (Release by b) (step_extends s (bare b) (Release by b) answer s' k w tt given step (bundle_back b, all_marked s by b)) apart
    agrees_then (Settle by b) given (inl does) apart =
        raw_agrees (nodes_of s) (map standing_of s.open_grants) lib sizes root leases (states_are_trees s k) stand a (creds_of s by) by (nodes_of s') apart no_hold
        (settle_within s s' k (step_kept s s' (Settle by b) answer k given (inl does)) w by b (all_touched b) (bundle_back b) (all_marked s by b) given.0 does.2 does.3)
    agrees_then (Settle by b) given (inr none) apart = same_nodes none.2
    agrees_then (SetMode by ino mode) given step apart =
        by_option (entry_of s (bare empty) (SetMode by ino mode) answer) (SetMode by ino mode)
        (step_extends s (bare empty) (SetMode by ino mode) answer s' k w tt given step (λ said is. no_call s (creds_of s by) ino mode said)) apart

-- ---- grants

standing_then : (s s' : State) (lib n : ℕ) → LeavesTo s s' lib → HasStanding (map standing_of s.open_grants) lib n → HasStanding (map standing_of s'.open_grants) lib n
standing_then s s' lib n l h =
    let g = map-In standing_of h.grant s.open_grants h.among in
    let q = l.grants g.0 g.1 (ap (λ (x : Standing). x.lib) (sym g.2) ∙ h.of) in
    record {
      grant = standing_of q.0;
      among = In-map standing_of q.0 s'.open_grants q.1;
      of = ap (λ (x : OpenGrant). x.lib) (sym q.2) ∙ ap (λ (x : Standing). x.lib) (sym g.2) ∙ h.of;
      on = ap (λ (x : OpenGrant). x.ino) (sym q.2) ∙ ap (λ (x : Standing). x.ino) (sym g.2) ∙ h.on;
    }

-- ---- places

-- a change of mode leaves the place
moded_place : (s : State) (event : Event) (n : ℕ) (r : Row) (after : Option Row) → IsModeSet s event n r after → (q : Row) × (after ≡ Some q) × (q.parent ≡ r.parent) × (q.page ≡ r.page) × (q.slot ≡ r.slot)
moded_place s event n r after m = search arith

unread : (kind : GrantKind) → kind ≡ Write → is_read kind ≡ false
unread kind e = ap is_read e

module _ (s : State) (k : Kept s) (event : Event) (answer : CtlAnswer) (s' : State) (given : GivenEvent s event) (step : Step s event answer s')
    (lib : ℕ) (apart : library_of event ≡ lib → ⊥) where
  -- nobody else holds what lies in a directory that is lent
  not_held : (n : ℕ) (r : Row) → row_at s.home n ≡ Some r → HasStanding (map standing_of s.open_grants) lib r.parent → HasGrant s (library_of event) n Hold → ⊥
  not_held n r row mine held = search (arith, parent_grant, map-In, alone, unread)

  places_then : (sizes : Sizes) (leases : Leases) → AllStand (map standing_of s.open_grants) lib leases → HasPlaces sizes leases s.home.rows → HasPlaces sizes leases s'.home.rows
  places_then sizes leases stand places f l i j =
      let n : ℕ = l.entry.ino in
      let r = place_parts f.ino l.page l.slot (row_at s.home n) (places f l i j) in
      elim (every_step_keeps_rows s event answer s' n r.0 k given step r.1) [
        | inl same ↦ place_from f.ino l.page l.slot (row_at s'.home n) r.0 same r.2 r.3 r.4
        | inr goes ↦
            elim goes [
              | inl held ↦ absurd (not_held n r.0 r.1 (subst (HasStanding (map standing_of s.open_grants) lib) (sym r.2) (stand.files f i)) held.0)
              | inr moded ↦ search (arith, moded_place, place_from)
            ]
      ]

-- ---- all of it

pub step_leaves_leases : StepLeavesLeases
step_leaves_leases s event answer s' lib sizes root leases k w given step apart h =
    let l = other_step_leaves s s' lib event answer k given step apart in
    record {
      stand = record { files = λ f i. standing_then s s' lib f.ino l (h.stand.files f i); holds = λ g i. standing_then s s' lib g.ino l (h.stand.holds g i) };
      agrees = agrees_then s k w answer s' lib sizes root leases h.stand h.agrees event given step apart;
      places = places_then s k event answer s' given step lib apart sizes leases h.stand h.places;
    }

pub moves_leave_leases : MovesLeaveLeases
moves_leave_leases s [] lib sizes root leases k w trace others h = h
moves_leave_leases s (m ∷ moves) lib sizes root leases k w trace others h =
    let k0 : Kept m.before = subst Kept (sym trace.0) k in
    let w0 : LentWhole m.before = subst LentWhole (sym trace.0) w in
    let h0 = subst (λ (x : State). LeasesHold x lib sizes root leases) (sym trace.0) h in
    let h' = step_leaves_leases m.before m.event m.answer m.after lib sizes root leases k0 w0 trace.1 trace.2 (others m (inl refl)) h0 in
    moves_leave_leases m.after moves lib sizes root leases (step_kept m.before m.after m.event m.answer k0 trace.1 trace.2)
    (step_whole m.before k0 m.event m.answer m.after trace.2 w0) trace.3 (λ x i. others x (inr i)) h'
