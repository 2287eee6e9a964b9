-- What a settle comes to, and that the history allows it.
use Rattle.trio_laws.proofs.Words.{◌&&◌, ◌∙◌, ◌≡◌, Beside, Bundle, Case, Creds, DeskSeen, Done, Ends, GrantKind, HasGrant, Hold, Image, In, IsForeign, IsJudgeable, IsMoment, KeepsRights, LegalCalls, List, NoMemory, Nodes, OpenGrant, Parcel, Read, Ready, Settle, Settled, Shown, SparesOthers, Standing, State, Step, Write, Written, and_parts, ap, arith, batch_nodes, bundle_of, case_of, cases_eq, creds_of, eq-eqb, eqb, eqb-true, false, false_from_ne_true, false≢true, inl, inr, is_accepted, is_others, is_read, is_some, list_any-In, list_any-map, map, map-In, next, nodes_of, not, not_from_true, proposed, proposed_pick, refl, row_at, row_at_is, settled, standing_of, subst, sym, true, within_some, ℕ}
use Rattle.std.specs.Prelude.{None}
use Rattle.trio_laws.proofs.Survivors.{unheld_row}
use Rattle.trio_laws.proofs.judgement.Taking.{fit, sound}
use Rattle.trio_onetree.proofs.Lengths.{IsNumbered, batch_length}
use Rattle.trio_laws.proofs.history.Grows.{history_grows}
use Rattle.trio_laws.proofs.history.WithNode.{nodes_long, nodes_same}
use Rattle.trio_laws.proofs.StateFacts.{alone}
use Rattle.trio_laws.specs.session.Settles.{SettleEndsInCalls, SettleIsRecorded, ReadyIsLegal, PlacesStay}
use Rattle.trio_laws.proofs.history.StandsTree.{states_are_trees}
use Rattle.trio_laws.proofs.session.AcceptedShown.{accepted_is_shown}
use Rattle.trio_laws.proofs.session.Spares.{shown_spares}
use Rattle.trio_laws.proofs.session.Accepting.{closed_hold, written_grant, among, replies_then, shown_then, tree_then}

settled_end : (s s' : State) (lib : ℕ) (b : Bundle) → Step s (Settle lib b) Settled s' → (is_accepted (settled s) (creds_of s lib) b ≡ true) × Ends s lib b (next (settled s) b) s'
settled_end s s' lib b (inl d) = (d.2, d.3)
settled_end s s' lib b (inr n) = absurd (let wrong : Settled ≡ NoMemory = n.1 in cc)

-- each file that the calls make has one of the numbers that there are
numbered : (s : State) (desk : DeskSeen) (b : Parcel) (back : List Shown) (calls : List Done) → IsMoment s desk b back → Ready desk b back calls → (d : Done) → In d calls → IsNumbered (nodes_of s) d
numbered s desk b back calls m ready d i =
    elim (cases_eq d.made 0) [
      | inl none ↦ inl none
      | inr made ↦
          let out = m.judgeable.given.numbers d.made (ready.made d i made) in
          let below = within_some s.numbers_out d.made (ap is_some out) in
          let places = m.judgeable.kept.numbers_placed in
          let long = nodes_long s in
          inr (omega (arith, below, places, long))
    ]

pub settle_ends_in_calls : SettleEndsInCalls
settle_ends_in_calls s s' desk b back calls m ready step =
    let lib : ℕ = desk.lib.0 in
    let e = settled_end s s' lib (bundle_of b) step in
    let after : Nodes = batch_nodes desk.creds calls (nodes_of s) in
    let long = nodes_long s in
    let long' = nodes_long s' in
    let many : s'.home.core.inodes ≡ s.home.core.inodes = ap (λ (i : Image). i.core.inodes) e.1.settles in
    let same = batch_length (nodes_of s) desk.creds calls (states_are_trees s m.judgeable.kept) (replies_then s desk b back calls m ready) (numbered s desk b back calls m ready) in
    nodes_same (nodes_of s') after (omega (arith, long, long', many, same))
    (λ n. accepted_is_shown s s' lib (bundle_of b) m.judgeable e.0 e.1 n ∙ sym ((shown_then s desk b back calls m ready).each n))

read_is : (k : GrantKind) → is_read k ≡ true → k ≡ Read
read_is k e = search (arith, false≢true)

module _ (s : State) (lib : ℕ) (b : Bundle) (j : IsJudgeable s lib b) where
  -- two grants on one file of which one is no read grant are one
  not_both : (n : ℕ) (g : OpenGrant) (kind : GrantKind) (h : HasGrant s lib n kind) → is_read kind ≡ false → In g s.open_grants → g.ino ≡ n → (g.lib ≡ lib → ⊥) → ⊥
  not_both n g kind h quiet i ino other = search (arith, alone)

  foreign_by : (n : ℕ) → is_others (map standing_of s.open_grants) lib n ≡ true → IsForeign (case_of (settled s) (creds_of s lib) b) n
  foreign_by n o =
      let g = list_any-In (λ (x : OpenGrant). not (eqb x.lib lib) && eqb x.ino n) s.open_grants (sym (list_any-map standing_of (λ (x : Standing). not (eqb x.lib lib) && eqb x.ino n) s.open_grants) ∙ o) in
      let p = and_parts (not (eqb g.0.lib lib)) (eqb g.0.ino n) g.2 in
      let ino : g.0.ino ≡ n = eqb-true g.0.ino n p.1 in
      let other : g.0.lib ≡ lib → ⊥ = λ e. false≢true (sym (not_from_true (eqb g.0.lib lib) (eq-eqb g.0.lib lib e)) ∙ p.0) in (
        λ w. not_both n g.0 Write (written_grant s lib b j n w) refl g.1 ino other,
        λ h. not_both n g.0 Hold (j.given.holds n h) refl g.1 ino other,
      )

pub ready_is_legal : ReadyIsLegal
ready_is_legal s desk b back calls m ready none =
    let lib : ℕ = desk.lib.0 in
    let after : Creds → Nodes = λ c. batch_nodes c calls (nodes_of s) in
    let c : Case = case_of (settled s) (creds_of s lib) (bundle_of b) in
    let t = shown_spares c (nodes_of s) (after desk.creds) (states_are_trees s m.judgeable.kept) (tree_then s desk b back calls m ready) (among s lib (bundle_of b) m.judgeable) (shown_then s desk b back calls m ready) in
    let spares : SparesOthers (map standing_of s.open_grants) lib (nodes_of s) (after desk.creds) = λ n x e o. t.1 n x e (foreign_by s lib (bundle_of b) m.judgeable n o) in
    record {
      done = subst (λ k. LegalCalls k (nodes_of s) calls) m.creds (replies_then s desk b back calls m ready);
      reads = λ g i mine.
          let h = map-In standing_of g s.open_grants i in
          ap (λ (x : Standing). is_read x.kind) h.2
          ∙ false_from_ne_true (is_read h.0.kind) (λ y. none h.0 h.1 (sym (ap (λ (x : Standing). x.lib) h.2) ∙ mine) (read_is h.0.kind y));
      rights = subst (λ k. KeepsRights (nodes_of s) (after k)) m.creds t.0;
      others = subst (λ k. SparesOthers (map standing_of s.open_grants) lib (nodes_of s) (after k)) m.creds spares;
    }

pub settle_is_recorded : SettleIsRecorded
settle_is_recorded r s' desk b back calls h i mine m ready none is marked step =
    let s : State = r.state in
    let lib : ℕ = desk.lib.0 in
    let x : Beside = record { handed = h; calls = calls; call = None } in
    let legal : LegalCalls (creds_of s lib) (nodes_of s) calls = subst (λ k. LegalCalls k (nodes_of s) calls) m.creds (replies_then s desk b back calls m ready) in
    let ends : nodes_of s' ≡ batch_nodes (creds_of s lib) calls (nodes_of s) =
    settle_ends_in_calls s s' desk b back calls m ready step ∙ ap (λ k. batch_nodes k calls (nodes_of s)) m.creds in
    history_grows r x (Settle lib (bundle_of b)) Settled s' i mine (m.judgeable.given, none) step (is, marked, legal, ends)

pub places_stay : PlacesStay
places_stay s s' lib b j acc ends directory n r foreign row parent =
    let unheld : In n b.holds → ⊥ = λ i. foreign.0 (subst (λ k. In k (map (λ (w : Written). w.ino) b.writes)) parent (closed_hold s lib b j n r i row)) in
    ap (λ (x : Image). row_at x n) ends.settles
    ∙ row_at_is (proposed (settled s) b) (proposed_pick (settled s) b) (fit s lib b j acc) (sound s lib b j acc) (next (settled s) b) (record { rows = refl; owners = refl }) n
    ∙ unheld_row s j.kept lib (creds_of s lib) b j.given acc n r row unheld
