-- What open grants lent is true through every step.
use Rattle.trio_laws.proofs.Words.{◌&&◌, ◌∙◌, ◌∷◌, ◌≡◌, Allot, Back, Bool, Bundle, CtlAnswer, Directory, Does, Ends, Entry, Event, GivenEvent, GivenTo, Grant, GrantFault, GrantKind, HasFile, HasHeld, HasPlaces, HasRights, HasRightsOf, HasStanding, Hold, HoldParts, Image, In, In-cases, In-is_among, In-map, IsAccepted, IsRefused, IsTree, KeepsRights, Kept, LentWhole, List, ModeFault, Node, Nodes, None, OpenGrant, Option, Parted, Release, ReleaseEnd, ReplaysFrom, Row, SetMode, Settle, Shown, Some, State, Step, Write, Written, [], allots, and_parts, answer_of, ap, arith, both_ways, bundle_handed, cases_eq, creds_of, eqb, eqb-true, event_of, excludes_kind, false, false_from_ne_true, filter-In, free_numbers, free_pages, given_back, grant_fault, granted_to, grants_after, inl, inr, is_accepted, is_among, is_among-not, is_in_bundle, is_place_of, is_read, is_some, is_write, is_written, lent_part, logged, map, mode_fault, moded_nodes, moded_to, next, node_at, node_by, nodes_of, not, not-true, opened, opens, parent_in, parted_hold, place_from, place_parts, refl, refused_image, row_at, settled, some_one, standing_of, stands_on, start, subst, sym, take, true, writer_of, ℕ}
use Rattle.trio_laws.specs.session.Grants.{IsHoldOf, IsLeaseOf, LendsPages}
use Rattle.trio_laws.specs.session.Lent.{LeasesStayTrue, LentIsTrue, LentStaysTrue, StepKeepsLent, StepKeepsRoot, lease_of, root_of, sizes_of}
use Rattle.trio_laws.proofs.Bundles.{Closed, closed_unparted, outside_unheld, outside_unwritten, unparted_all, unwritten_finds, written_from}
use Rattle.trio_laws.proofs.Cases.{after_allot, after_no_grant, after_no_mode}
use Rattle.trio_laws.proofs.Grants.{excluded_none}
use Rattle.trio_laws.proofs.Modes.{may_change}
use Rattle.trio_laws.proofs.Runs.{start_kept, step_kept}
use Rattle.trio_laws.proofs.StateFacts.{write_is}
use Rattle.trio_laws.proofs.history.AcceptedStep.{outside_same, within}
use Rattle.trio_laws.proofs.history.AllotStep.{allot_nodes}
use Rattle.trio_laws.proofs.history.BackStep.{back_nodes}
use Rattle.trio_laws.proofs.history.Facts.{find_none, live, node_is}
use Rattle.trio_laws.proofs.history.GrantNodes.{grant_nodes}
use Rattle.trio_laws.proofs.history.Grows.{step_whole}
use Rattle.trio_laws.proofs.history.Isolates.{all_marked, all_touched, bare, bundle_back, empty, isolated}
use Rattle.trio_laws.proofs.history.ModeNodes.{mode_nodes, row_else, row_here}
use Rattle.trio_laws.proofs.history.ModeStep.{none_on}
use Rattle.trio_laws.proofs.history.RefusedStep.{rights_same, unwritten_same}
use Rattle.trio_laws.proofs.history.StandsTree.{states_are_trees}
use Rattle.trio_laws.proofs.history.Whole.{lent_member}
use Rattle.trio_laws.proofs.session.Leases.{holds_show, leases_show, rights_are}
use Rattle.trio_laws.proofs.session.Moments.{step_sizes}
use Rattle.trio_laws.proofs.session.Others.{IsSpared, SameEntries, file_on, held_on, has_rights, keep_entries, moded_entries, moded_else, moded_spares, owner_not_root}
use Rattle.trio_laws.proofs.session.Settling.{places_stay}
use Rattle.trio_laws.proofs.session.Steps.{live_node}

-- ---- the root

module _ (s : State) (k : Kept s) where
  -- its rights are those of its node
  pub root_is : HasRights (root_of s) (node_at (nodes_of s) 1)
  root_is =
      let tree : IsTree (nodes_of s) = states_are_trees s k in
      let l = live s k 1 tree.root.0 tree.root.1 in
      rights_are s k 1 l.row l.at 1 Directory s.home.core.root refl (sym tree.root.2 ∙ ap (λ (x : Node). x.kind) l.before) refl

same_rights : (x : Node) (o o' : Option Node) → o' ≡ o → o ≡ Some x → HasRightsOf x o'
same_rights x o o' same e = subst (HasRightsOf x) (sym (same ∙ e)) (refl, refl, refl, refl)

root_stays : (s : State) (k : Kept s) (w : LentWhole s) (event : Event) (answer : CtlAnswer) (s' : State) → GivenEvent s event → Step s event answer s' → root_of s' ≡ root_of s
root_stays s k w event answer s' given step =
    let k' : Kept s' = step_kept s s' event answer k given step in
    let tree : IsTree (nodes_of s) = states_are_trees s k in
    let tree' : IsTree (nodes_of s') = states_are_trees s' k' in
    let keeps : (x : Node) → node_at (nodes_of s) 1 ≡ Some x → HasRightsOf x (node_at (nodes_of s') 1) = search (arith, isolated, owner_not_root, same_rights, moded_else) in
    let then : HasRights (root_of s) (node_at (nodes_of s') 1) = has_rights (root_of s) (node_at (nodes_of s) 1) (node_at (nodes_of s') 1) keeps (root_is s k) in
    let both : Some (root_of s') ≡ Some (root_of s) = sym (root_is s' k') ∙ then in
    cc both

pub step_keeps_root : StepKeepsRoot
step_keeps_root s event answer s' k w given step = search (arith, step_sizes, root_stays)

-- ---- what a step leaves of a file

-- the file is spared, the rights of its entries too, and what lies in it has its place
record Stays (s s' : State) (n : ℕ) : Type 0 where
  pub spared : IsSpared (nodes_of s) (nodes_of s') n
  pub entries : SameEntries (nodes_of s) (nodes_of s') n
  pub places : (m page slot : ℕ) → is_place_of n page slot (row_at s.home m) ≡ true → is_place_of n page slot (row_at s'.home m) ≡ true

same_stays : (s s' : State) → nodes_of s' ≡ nodes_of s → s'.home.rows ≡ s.home.rows → (n : ℕ) → Stays s s' n
same_stays s s' nodes rows n = search (arith, same_rights)

-- a grant that was open, but for its checkpoint, on a file that stays
record WasOpen (s s' : State) (g : OpenGrant) : Type 0 where
  pub grant : OpenGrant
  pub is_open : In grant s.open_grants
  pub same : lent_part g ≡ lent_part grant
  pub stays : Stays s s' grant.ino

lease_was : (g h : OpenGrant) (f : Shown) → lent_part g ≡ lent_part h → IsLeaseOf g f → IsLeaseOf h f
lease_was g h f e l = search arith

hold_was : (g h : OpenGrant) (p : HoldParts) → lent_part g ≡ lent_part h → IsHoldOf g p → IsHoldOf h p
hold_was g h p e l = search arith

-- what was lent is true of such a grant still
module _ (s s' : State) (sizes : sizes_of s' ≡ sizes_of s) (t : LentIsTrue s) (g : OpenGrant) (w : WasOpen s s' g) where
  file_then : (f : Shown) → LendsPages g.kind → IsLeaseOf g f → HasFile (sizes_of s') (nodes_of s') f × HasPlaces (sizes_of s') (lease_of f) s'.home.rows
  file_then f lends l =
      let was : IsLeaseOf w.grant f = lease_was g w.grant f w.same l in
      let held = t.files w.grant f w.is_open (subst LendsPages (ap (λ (x : OpenGrant). x.kind) w.same) lends) was in
      let q : Stays s s' f.ino = subst (Stays s s') (sym was.ino) w.stays in (
        subst (λ z. HasFile z (nodes_of s') f) (sym sizes) (file_on (nodes_of s) (nodes_of s') (sizes_of s) f q.spared q.entries held.0),
        subst (λ z. HasPlaces z (lease_of f) s'.home.rows) (sym sizes) (places q held.1),
      )
    where
      places : Stays s s' f.ino → HasPlaces (sizes_of s) (lease_of f) s.home.rows → HasPlaces (sizes_of s) (lease_of f) s'.home.rows
      places q p e l (inr none) j = absurd none
      places q p e l (inl same) j =
          let S : Shown → Type 0 = λ x. Stays s s' x.ino in
          let q' : Stays s s' e.ino = subst S (sym same) q in
          q'.places l.entry.ino l.page l.slot (p e l (inl same) j)

  held_then : (h : HoldParts) → g.kind ≡ Hold → IsHoldOf g h → HasHeld (nodes_of s') h
  held_then h kind l =
      let was : IsHoldOf w.grant h = hold_was g w.grant h w.same l in
      let held = t.holds w.grant h w.is_open (ap (λ (x : OpenGrant). x.kind) (sym w.same) ∙ kind) was in
      let q : Stays s s' h.ino = subst (Stays s s') (sym was.ino) w.stays in
      held_on (nodes_of s) (nodes_of s') h q.spared held

all_then : (s s' : State) → sizes_of s' ≡ sizes_of s → LentIsTrue s → ((g : OpenGrant) → In g s'.open_grants → WasOpen s s' g) → LentIsTrue s'
all_then s s' sizes t was = record {
  files = λ g f i lends l. file_then s s' sizes t g (was g i) f lends l;
  holds = λ g h i kind l. held_then s s' sizes t g (was g i) h kind l;
}

-- a step that leaves nodes and rows, and opens no grant
same_then : (s s' : State) → sizes_of s' ≡ sizes_of s → nodes_of s' ≡ nodes_of s → s'.home.rows ≡ s.home.rows → ((g : OpenGrant) → In g s'.open_grants → In g s.open_grants) → LentIsTrue s → LentIsTrue s'
same_then s s' sizes nodes rows fewer t =
    all_then s s' sizes t (λ g i. record { grant = g; is_open = fewer g i; same = refl; stays = same_stays s s' nodes rows g.ino })

-- ---- a grant

excludes_write : (kind : GrantKind) (mine : Bool) → LendsPages kind → excludes_kind kind Write mine ≡ true
excludes_write kind mine lends = search arith

no_writer : (s : State) (lib ino : ℕ) (kind : GrantKind) → LendsPages kind → grant_fault s lib ino kind ≡ None → writer_of s ino ≡ None
no_writer s lib ino kind lends e =
    find_none (λ (g : OpenGrant). eqb g.ino ino && is_write g.kind) s.open_grants
    (λ g i.
    false_from_ne_true (eqb g.ino ino && is_write g.kind)
    (λ y.
    let p = and_parts (eqb g.ino ino) (is_write g.kind) y in
    let out = excluded_none s lib ino kind e g i (eqb-true g.ino ino p.0) in
    both_ways (excludes_kind kind g.kind (eqb g.lib lib)) out (ap (λ t. excludes_kind kind t (eqb g.lib lib)) (write_is g.kind p.1) ∙ excludes_write kind (eqb g.lib lib) lends)))

opened_then : (s : State) (k : Kept s) (lib ino : ℕ) (kind : GrantKind) (r : Row) → grant_fault s lib ino kind ≡ None → row_at s.home ino ≡ Some r → LentIsTrue s → LentIsTrue (opens s (opened s lib ino kind r))
opened_then s k lib ino kind r e row t = record {
  files =
      λ g f i lends l. elim (In-cases g s.open_grants (opened s lib ino kind r ∷ []) i) [
        | inl old ↦ file_then s (opens s (opened s lib ino kind r)) refl t g (was g old) f lends l
        | inr new ↦
            elim new [
              | inl same ↦
                  let lends' : LendsPages kind = subst (λ (x : OpenGrant). LendsPages x.kind) same lends in
                  let l' : IsLeaseOf (opened s lib ino kind r) f = subst (λ (x : OpenGrant). IsLeaseOf x f) same l in
                  let shown = leases_show s lib ino kind r (sizes_of s) f k row lends' (no_writer s lib ino kind lends' e) refl l' in
                  (subst (λ (ns : Nodes). HasFile (sizes_of s) ns f) (sym nodes) shown.0, shown.1)
              | inr none ↦ absurd none
            ]
      ];
  holds =
      λ g h i held l. elim (In-cases g s.open_grants (opened s lib ino kind r ∷ []) i) [
        | inl old ↦ held_then s (opens s (opened s lib ino kind r)) refl t g (was g old) h held l
        | inr new ↦
            elim new [
              | inl same ↦
                  let kind' : kind ≡ Hold = ap (λ (x : OpenGrant). x.kind) (sym same) ∙ held in
                  let l' : IsHoldOf (opened s lib ino Hold r) h = subst (λ q. IsHoldOf (opened s lib ino q r) h) kind' (subst (λ (x : OpenGrant). IsHoldOf x h) same l) in
                  subst (λ (ns : Nodes). HasHeld ns h) (sym nodes) (holds_show s lib ino r h k row l')
              | inr none ↦ absurd none
            ]
      ];
}
  where
    nodes : nodes_of (opens s (opened s lib ino kind r)) ≡ nodes_of s
    nodes = grant_nodes s k lib ino kind r e row

    was : (g : OpenGrant) → In g s.open_grants → WasOpen s (opens s (opened s lib ino kind r)) g
    was g i = record { grant = g; is_open = i; same = refl; stays = same_stays s (opens s (opened s lib ino kind r)) nodes refl g.ino }

grant_then : (s : State) (k : Kept s) (lib ino : ℕ) (kind : GrantKind) (f : Option GrantFault) (o : Option Row) → grant_fault s lib ino kind ≡ f → row_at s.home ino ≡ o → LentIsTrue s → LentIsTrue (granted_to s lib ino kind f o).after
grant_then s k lib ino kind (Some fault) o e row t = after_no_grant LentIsTrue s fault t (same_then s (logged s) refl refl refl (λ g i. i) t)
grant_then s k lib ino kind None None e row t = t
grant_then s k lib ino kind None (Some r) e row t = opened_then s k lib ino kind r e row t

-- ---- a change of mode

module _ (s : State) (k : Kept s) (lib ino mode : ℕ) (r : Row) (row : row_at s.home ino ≡ Some r) (e : mode_fault s lib ino mode (Some r) ≡ None) where
  abbrev moded : State
  moded = (moded_to s ino mode None).after

  place_then : (n m page slot : ℕ) → is_place_of n page slot (row_at s.home m) ≡ true → is_place_of n page slot (row_at moded.home m) ≡ true
  place_then n m page slot at =
      let may = may_change s lib ino mode r e in
      elim (cases_eq m ino) [
        | inr differ ↦ ap (is_place_of n page slot) (row_else s k ino mode r row may.small may.other may.free m differ) ∙ at
        | inl same ↦
            ap (λ j. is_place_of n page slot (row_at moded.home j)) same
            ∙ ap (is_place_of n page slot) (row_here s k ino mode r row may.small may.other may.free)
            ∙ ap (is_place_of n page slot) (sym row) ∙ ap (λ j. is_place_of n page slot (row_at s.home j)) (sym same) ∙ at
      ]

  moded_stays : (g : OpenGrant) → In g s.open_grants → Stays s moded g.ino
  moded_stays g i =
      let may = may_change s lib ino mode r e in
      let nodes : nodes_of moded ≡ moded_nodes ino mode (nodes_of s) = mode_nodes s k ino mode r row may.small may.other may.free in
      let x = bare empty in
      let free : stands_on (map standing_of s.open_grants) ino ≡ false = none_on s k lib ino mode x ino (λ h j. (may.free h j).0) in
      let directory : stands_on (map standing_of s.open_grants) (parent_in (node_at (nodes_of s) ino)) ≡ false =
      ap (λ o. stands_on (map standing_of s.open_grants) (parent_in o)) (node_is s k ino ∙ ap (node_by (settled s) ino (writer_of s ino)) row)
      ∙ none_on s k lib ino mode x r.parent (λ h j. (may.free h j).1) in
      let mine : HasStanding (map standing_of s.open_grants) g.lib g.ino = record { grant = standing_of g; among = In-map standing_of g s.open_grants i; of = refl; on = refl } in
      let spared : IsSpared (nodes_of s) (nodes_of moded) g.ino =
      subst (λ ns. IsSpared (nodes_of s) ns g.ino) (sym nodes) (moded_spares (nodes_of s) (map standing_of s.open_grants) g.lib ino mode free directory g.ino mine) in
      let entries : SameEntries (nodes_of s) (nodes_of moded) g.ino =
      subst (λ ns. SameEntries (nodes_of s) ns g.ino) (sym nodes) (moded_entries (nodes_of s) (map standing_of s.open_grants) g.lib ino mode free directory g.ino mine) in
      record { spared = spared; entries = entries; places = place_then g.ino }

mode_then : (s : State) (k : Kept s) (lib ino mode : ℕ) (o : Option Row) (f : Option ModeFault) → row_at s.home ino ≡ o → mode_fault s lib ino mode o ≡ f → LentIsTrue s → LentIsTrue (moded_to s ino mode f).after
mode_then s k lib ino mode o (Some fault) row e t = after_no_mode LentIsTrue s fault t (same_then s (logged s) refl refl refl (λ g i. i) t)
mode_then s k lib ino mode None None row e t = absurd cc
mode_then s k lib ino mode (Some r) None row e t =
    all_then s (moded_to s ino mode None).after refl t (λ g i. record { grant = g; is_open = i; same = refl; stays = moded_stays s k lib ino mode r row e g i })

-- ---- the end of a bundle

-- a grant that stays open is on no file of the bundle
record IsOutside (s : State) (b : Bundle) (n : ℕ) : Type 0 where
  pub unwritten : is_written b n ≡ false
  pub unheld : is_among n b.holds ≡ false
  pub node : (x : Node) × (node_at (nodes_of s) n ≡ Some x)

module _ (s s' : State) (k : Kept s) (k' : Kept s') (w : LentWhole s) (lib : ℕ) (b : Bundle) (given : GivenTo s lib b) where
  outside : (g : OpenGrant) → In g (grants_after s lib b) → In g s.open_grants × IsOutside s b g.ino
  outside g i =
      let f = filter-In (λ (x : OpenGrant). not (is_in_bundle lib b x)) g s.open_grants i in
      let out : is_in_bundle lib b g ≡ false = not-true (is_in_bundle lib b g) f.1 in
      let n = live_node s k g f.0 in (
        f.0,
        record {
          unwritten = ap is_some (unwritten_finds b g.ino (outside_unwritten s k lib b given g f.0 out));
          unheld = is_among-not g.ino b.holds (outside_unheld s k lib b given g f.0 out);
          node = (node_of_row n.0 n.2);
        },
      )
    where
      node_of_row : {x : Node} (r : Row) → node_at (nodes_of s) g.ino ≡ Some x → (x : Node) × (node_at (nodes_of s) g.ino ≡ Some x)
      node_of_row r e = (_, e)

  -- by what is known of each file outside
  ended_then : (image : Image) → Ends s lib b image s' → ((n : ℕ) → IsOutside s b n → Stays s s' n) → sizes_of s' ≡ sizes_of s → LentIsTrue s → LentIsTrue s'
  ended_then image ends stays sizes t =
      all_then s s' sizes t
      (λ g i.
      let h = lent_member s'.open_grants (grants_after s lib b) g ends.grants i in
      let o = outside h.0 h.1 in
      record { grant = h.0; is_open = o.0; same = h.2; stays = stays h.0.ino o.1 })

  -- ---- one that is refused

  refused_stays : Ends s lib b (refused_image (settled s) b) s' → parted_hold s lib b ≡ None → LentWhole s' → (n : ℕ) → IsOutside s b n → Stays s s' n
  refused_stays ends closed w' n o =
      let h = all_touched b in
      let G : Bundle → Type 0 = λ c. GivenTo s lib c in
      let given' : GivenTo s lib (bundle_handed h) = subst G (sym (bundle_back b)) given in
      let C : Bundle → Type 0 = λ c. Closed s lib c in
      let closed' : Closed s lib (bundle_handed h) = subst C (sym (bundle_back b)) (closed_unparted s lib b closed) in
      let E : Bundle → Type 0 = λ c. Ends s lib c (refused_image (settled s) c) s' in
      let ends' : Ends s lib (bundle_handed h) (refused_image (settled s) (bundle_handed h)) s' = subst E (sym (bundle_back b)) ends in
      let rights : (m : ℕ) (x : Node) → node_at (nodes_of s) m ≡ Some x → HasRightsOf x (node_at (nodes_of s') m) =
      rights_same s s' k k' w w' lib h given' closed' ends' (all_marked s lib b) in
      let keeps : KeepsRights (nodes_of s) (nodes_of s') = λ m x y e e'. subst (HasRightsOf x) e' (rights m x e) in
      let content = unwritten_same s s' k k' w w' lib h given' closed' ends' (all_marked s lib b) n (ap (λ c. is_written c n) (bundle_back b) ∙ o.unwritten) in
      let spared : IsSpared (nodes_of s) (nodes_of s') n = record { rights = λ x e. rights n x e; content = content } in
      record {
        spared = spared;
        entries = keep_entries (nodes_of s) (nodes_of s') keeps n spared;
        places = λ m page slot e. ap (λ (i : Image). is_place_of n page slot (row_at i m)) ends.settles ∙ e;
      }

  -- ---- one that is accepted

  accepted_stays : is_accepted (settled s) (creds_of s lib) b ≡ true → Ends s lib b (next (settled s) b) s' → parted_hold s lib b ≡ None → (n : ℕ) → IsOutside s b n → Stays s s' n
  accepted_stays acc ends closed n o =
      let h = all_touched b in
      let G : Bundle → Type 0 = λ c. GivenTo s lib c in
      let given' : GivenTo s lib (bundle_handed h) = subst G (sym (bundle_back b)) given in
      let A : Bundle → Type 0 = λ c. is_accepted (settled s) (creds_of s lib) c ≡ true in
      let acc' : is_accepted (settled s) (creds_of s lib) (bundle_handed h) ≡ true = subst A (sym (bundle_back b)) acc in
      let E : Bundle → Type 0 = λ c. Ends s lib c (next (settled s) c) s' in
      let ends' : Ends s lib (bundle_handed h) (next (settled s) (bundle_handed h)) s' = subst E (sym (bundle_back b)) ends in
      let same = outside_same s s' k k' w lib h given' acc' ends' (all_marked s lib b) n o.node.0 o.node.1 (ap (λ c. is_written c n) (bundle_back b) ∙ o.unwritten) (ap (λ (c : Bundle). is_among n c.holds) (bundle_back b) ∙ o.unheld) in
      let within' = within s s' k k' w lib h given' acc' ends' (all_marked s lib b) in
      let spared : IsSpared (nodes_of s) (nodes_of s') n = record { rights = λ x e. subst (λ y. HasRightsOf y (node_at (nodes_of s') n)) (some_one (node_at (nodes_of s) n) o.node.0 x o.node.1 e) same.0; content = same.1 } in
      record {
        spared = spared;
        entries = keep_entries (nodes_of s) (nodes_of s') within'.rights n spared;
        places =
            λ m page slot e. (let q = place_parts n page slot (row_at s.home m) e in
            let there = places_stay s s' lib b (record { kept = k; given = given; closed = closed }) acc ends n m q.0 foreign q.1 q.2 in
            place_from n page slot (row_at s'.home m) q.0 there q.2 q.3 q.4);
      }
    where
      foreign : (In n (map (λ (x : Written). x.ino) b.writes) → ⊥) × (In n b.holds → ⊥)
      foreign = (λ i. both_ways (is_written b n) o.unwritten (written_from b n i), λ i. both_ways (is_among n b.holds) o.unheld (In-is_among n b.holds i))

release_then : (s s' : State) (k : Kept s) (k' : Kept s') (w : LentWhole s) (w' : LentWhole s') (lib : ℕ) (b : Bundle) (answer : CtlAnswer) → GivenTo s lib b → sizes_of s' ≡ sizes_of s → ReleaseEnd s lib b answer s' → LentIsTrue s → LentIsTrue s'
release_then s s' k k' w w' lib b answer given sizes (Parted n p a same) t = subst LentIsTrue (sym same) t
release_then s s' k k' w w' lib b answer given sizes (IsAccepted p y a ends) t =
    ended_then s s' k k' w lib b given (next (settled s) b) ends (accepted_stays s s' k k' w lib b given y ends p) sizes t
release_then s s' k k' w w' lib b answer given sizes (IsRefused p n why a tells ends) t =
    ended_then s s' k k' w lib b given (refused_image (settled s) b) ends (refused_stays s s' k k' w lib b given ends p w') sizes t

-- ---- each step

does_then : (s s' : State) (k : Kept s) (k' : Kept s') (w : LentWhole s) (w' : LentWhole s') (event : Event) (answer : CtlAnswer) → GivenEvent s event → sizes_of s' ≡ sizes_of s → Does s event answer s' → LentIsTrue s → LentIsTrue s'
does_then s s' k k' w w' (Grant lib ino kind) answer given sizes d t =
    subst LentIsTrue (sym d.1) (grant_then s k lib ino kind (grant_fault s lib ino kind) (row_at s.home ino) refl refl t)
does_then s s' k k' w w' (Allot lib count many) answer given sizes d t =
    subst LentIsTrue (sym d.1)
    (after_allot LentIsTrue s lib count many (same_then s (logged s) refl refl refl (λ g i. i) t)
    (same_then s (allots s lib (take count (free_pages s)) (take many (free_numbers s))) refl (allot_nodes s k lib count many) refl (λ g i. i) t))
does_then s s' k k' w w' (Back lib ino) answer given sizes d t =
    subst LentIsTrue (sym d.1)
    (same_then s (given_back s lib ino) refl (back_nodes s k lib ino given) refl (λ g i. (filter-In (λ (x : OpenGrant). not (eqb x.lib lib && eqb x.ino ino && is_read x.kind)) g s.open_grants i).0) t)
does_then s s' k k' w w' (Release lib b) answer given sizes d t = release_then s s' k k' w w' lib b answer given sizes d t
does_then s s' k k' w w' (Settle lib b) answer given sizes d t =
    ended_then s s' k k' w lib b given.0 (next (settled s) b) d.3 (accepted_stays s s' k k' w lib b given.0 d.2 d.3 (unparted_all s k lib b d.1)) sizes t
does_then s s' k k' w w' (SetMode lib ino mode) answer given sizes d t =
    subst LentIsTrue (sym d.1) (mode_then s k lib ino mode (row_at s.home ino) (mode_fault s lib ino mode (row_at s.home ino)) refl refl t)

pub step_keeps_lent : StepKeepsLent
step_keeps_lent s event answer s' k w given (inl does) t =
    does_then s s' k (step_kept s s' event answer k given (inl does)) w (step_whole s k event answer s' (inl does) w) event answer given
    (step_keeps_root s event answer s' k w given (inl does)).0 does t
step_keeps_lent s event answer s' k w given (inr none) t = subst LentIsTrue (sym none.2) t

-- ---- whole logs

lent_from : (s : State) (log : List Entry) (s' : State) → Kept s → LentWhole s → LentIsTrue s → ReplaysFrom s log s' → LentIsTrue s'
lent_from s [] s' k w t r = subst LentIsTrue (sym r) t
lent_from s (e ∷ es) s' k w t r =
    lent_from r.0 es s' (step_kept s r.0 (event_of e) (answer_of e) k r.2 r.3) (step_whole s k (event_of e) (answer_of e) r.0 r.3 w)
    (step_keeps_lent s (event_of e) (answer_of e) r.0 k w r.2 r.3 t) r.4

pub lent_stays_true : LentStaysTrue
lent_stays_true image creds log s fit v whole r =
    lent_from (start image creds) log s (start_kept image creds fit v whole) (λ g x i j. absurd i) (record { files = λ g f i. absurd i; holds = λ g h i. absurd i }) r

-- ---- all that a library has out

pub leases_stay_true : LeasesStayTrue
leases_stay_true s lib leases k t out = record {
  stand = record {
    files = λ f i. (let o = out.files f i in record { grant = standing_of o.grant; among = In-map standing_of o.grant s.open_grants o.is_open; of = o.lib; on = sym o.lease.ino });
    holds = λ h i. (let o = out.holds h i in record { grant = standing_of o.grant; among = In-map standing_of o.grant s.open_grants o.is_open; of = o.lib; on = sym o.hold.ino });
  };
  agrees = record {
    root_is = root_is s k;
    files = λ f i. (let o = out.files f i in (t.files o.grant f o.is_open o.lends o.lease).0);
    holds = λ h i. (let o = out.holds h i in t.holds o.grant h o.is_open o.kind o.hold);
  };
  places = λ f l i j. (let o = out.files f i in (t.files o.grant f o.is_open o.lends o.lease).1 f l (inl refl) j);
}
