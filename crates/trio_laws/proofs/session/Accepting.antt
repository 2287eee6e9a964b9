-- What is ready is accepted.
use Rattle.trio_laws.proofs.Words.{◌∙◌, ◌≡◌, ArePossible, Bundle, Case, Creds, DeskSeen, Done, HasGrant, Held, HoldParts, Image, In, In-map, IsAmong, IsJudgeable, IsMoment, IsTree, LegalCalls, List, Parcel, Ready, Row, Shown, Shows, Some, State, WasHeld, Write, Written, and_from, ap, arith, batch_nodes, bundle_of, case_of, creds_of, ino_numbers, is_some, listing, map, map-In, map-map, meets_edges, meets_rules, node_by, nodes_of, parcel_case, row_at, settled, settled_body, subst, sym, tree_stays_through, true, writer_of, ℕ}
use Rattle.std.specs.Prelude.{IsTrue}
use Rattle.trio_desk.specs.Ready.{HasNone}
use Rattle.trio_laws.proofs.judgement.Allowing.{rules_allow}
use Rattle.trio_laws.specs.session.Settles.{ReadyIsAccepted}
use Rattle.trio_laws.proofs.session.Edges.{edges_follow}
use Rattle.trio_laws.proofs.session.Starts.{map-each}
use Rattle.trio_laws.proofs.history.StandsTree.{states_are_trees}
use Rattle.trio_laws.proofs.session.Rows.{rows_many, rows_say}
use Rattle.trio_laws.proofs.history.Facts.{node_is}
use Rattle.trio_laws.proofs.judgement.CaseFacts.{held_apart, held_parent, held_row, new_dead, written_find}

module _ (s : State) (lib : ℕ) (b : Bundle) (j : IsJudgeable s lib b) where
  abbrev case' : Case
  case' = case_of (settled s) (creds_of s lib) b

  pub written_grant : (n : ℕ) → In n (map (λ (w : Written). w.ino) b.writes) → HasGrant s lib n Write
  written_grant n i =
      let w = map-In (λ (w : Written). w.ino) n b.writes i in
      let g = j.given.writes w.0 w.1 in
      record { grant = g.grant; is_open = g.is_open; lib = g.lib; kind = g.kind; ino = g.ino ∙ sym w.2 }

  pub closed_hold : (n : ℕ) (r : Row) → In n b.holds → row_at s.home n ≡ Some r → In r.parent (map (λ (w : Written). w.ino) b.writes)
  closed_hold n r i e =
      let w = written_find s lib b j r.parent (held_parent s lib b j n r i e) in
      subst (λ k. In k (map (λ (x : Written). x.ino) b.writes)) w.2 (In-map (λ (x : Written). x.ino) w.0 b.writes w.1)

  -- the bundle stands among the rows and nodes of the state
  pub among : IsAmong case' (nodes_of s)
  among = record {
    same = rows_say s j.kept;
    written = λ n i. (let g = written_grant n i in subst (λ k. IsTrue (is_some (row_at s.home k))) g.ino (j.kept.live g.grant g.is_open));
    held = λ n i. ap is_some (held_row s lib b j n i).1;
    apart = λ n i k. (let w = map-In (λ (x : Written). x.ino) n b.writes k in held_apart s lib b j n i w.0 w.1 (sym w.2));
    closed = closed_hold;
    new = new_dead s lib b j;
  }

-- ---- the case of what is handed in is that of the state

abbrev held_in : HoldParts → Held
held_in h = record { ino = h.ino; body = h.body }

abbrev held_at : Image → ℕ → Held
held_at image n = record { ino = n; body = settled_body image n }

module _ (s : State) (desk : DeskSeen) (b : Parcel) (back : List Shown) (calls : List Done) (m : IsMoment s desk b back) (ready : Ready desk b back calls) where
  abbrev lib : ℕ
  lib = desk.lib.0

  abbrev creds : Creds
  creds = desk.creds

  body_of_hold : (h : HoldParts) → WasHeld s h → h.body ≡ settled_body (settled s) h.ino
  body_of_hold h w = w.body ∙ (m.judgeable.kept.bodies w.grant w.is_open) ∙ ap (settled_body (settled s)) w.ino

  lent_bodies : map held_in b.holds ≡ map (held_at (settled s)) (bundle_of b).holds
  lent_bodies = search (arith, map-each, body_of_hold, map-map)

  case_same : parcel_case desk.sizes creds s.home.rows b ≡ case_of (settled s) (creds_of s lib) (bundle_of b)
  case_same = search (arith, lent_bodies)

  pub none_new : HasNone (nodes_of s) (ino_numbers b.inodes)
  none_new n i =
      node_is s m.judgeable.kept n ∙ ap (node_by (settled s) n (writer_of s n)) (new_dead s lib (bundle_of b) m.judgeable n i)

  possible : ArePossible desk b back (nodes_of s) s.home.rows
  possible = record { tree = states_are_trees s m.judgeable.kept; agrees = m.agrees; none = none_new; same = rows_say s m.judgeable.kept; places = m.places }

  pub replies_then : LegalCalls creds (nodes_of s) calls
  replies_then = (ready.comes (nodes_of s) s.home.rows possible).0

  pub shown_then : Shows (case_of (settled s) (creds_of s lib) (bundle_of b)) (nodes_of s) (batch_nodes creds calls (nodes_of s))
  shown_then =
      subst (λ c. Shows c (nodes_of s) (batch_nodes creds calls (nodes_of s))) case_same
      (ready.comes (nodes_of s) s.home.rows possible).1

  pub tree_then : IsTree (batch_nodes creds calls (nodes_of s))
  tree_then = tree_stays_through (nodes_of s) creds calls (states_are_trees s m.judgeable.kept) replies_then

  pub rules_met : meets_rules (case_of (settled s) (creds_of s lib) (bundle_of b)) ≡ true
  rules_met =
      let c : Case = case_of (settled s) (creds_of s lib) (bundle_of b) in
      let t = shown_then in
      let edges : meets_edges (listing c) c.rows ≡ true = edges_follow c (nodes_of s) _ (states_are_trees s m.judgeable.kept) tree_then (among s lib (bundle_of b) m.judgeable) t (rows_many s m.judgeable.kept) in
      search (arith, and_from)

pub ready_is_accepted : ReadyIsAccepted
ready_is_accepted s desk b back calls m ready =
    rules_allow s desk.lib.0 (bundle_of b) m.judgeable (rules_met s desk b back calls m ready)
