-- What a session shows of a file that was met, and that it is met still after leases.
use Rattle.trio_walk.proofs.Words.{◌++◌, ◌||◌, ◌∙◌, ◌∷◌, ◌≡◌, AboveIsOpen, ArePossible, Bool, Creds, DeskSeen, Directory, Done, HoldLease, HoldParts, In-right, IsMet, IsMetIn, Kind, Lease, LentFile, List, MadeFile, MayLookIn, MayWalk, Met, Mode, Need, Node, Nodes, None, Ok, Option, ReadLease, Rights, RightsAre, Row, SessionSeen, Shown, Some, ToRead, TookLeases, Write, WriteLease, [], ancestors, ap, batch_nodes, body_in, body_refuses, body_shown, cond, enter, eqb, eqb-true, false, false≢true, find, find-In, find-append, gives_met, held_file, inl, inr, is_some, kind_shown, lacks, lent_files, made_file, mapped, node_at, not, open_kind, option_map, option_map_or, option_or, permits, read_file, refl, rights_at, rights_in, rights_of, rights_rows, root_met, row_in, row_permits, subst, suc, sym, true, with_lease, with_leases, written_file, zero, ℕ}
use Rattle.trio_walk.specs.declared.met.Rights as shown_rights
use Rattle.trio_walk.specs.Walks.{IsHad}
use Rattle.trio_walk.specs.inner.Steps.{refuses}
use Rattle.trio_walk.proofs.Denials.{row_is}
use Rattle.trio_walk.proofs.Leased.{ByLease, ByMade, IsOpened, opened}
use Rattle.trio_walk.proofs.Looking.{rights_now, tree_now}
use Rattle.trio_walk.proofs.Possible.{calls_same, made_same, possible_before}

-- ---- after leases

module _ (desk desk' : DeskSeen) (s s' : SessionSeen) (more : List Lease) (took : TookLeases s more s')
    (sizes : desk'.sizes ≡ desk.sizes) (root : desk'.root ≡ desk.root) (creds : desk'.creds ≡ desk.creds) where
  -- what is so of the nodes that a session shows is so still
  pub shown_still : (P : Creds → Nodes → Type 0) (nodes : Nodes) → P desk.creds (batch_nodes desk.creds s.calls nodes) → P desk'.creds (batch_nodes desk'.creds s'.calls nodes)
  shown_still P nodes h =
      let F : Creds → List Done → Type 0 = λ k cs. P k (batch_nodes k cs nodes) in
      subst (λ k. F k s'.calls) (sym creds) (subst (λ cs. F desk.creds cs) (sym (calls_same desk desk' s s' more took)) h)

  made_still : (n : ℕ) → made_file s' n ≡ made_file s n
  made_still n = ap (λ l. find (λ (m : MadeFile). eqb m.ino n) l) (made_same desk desk' s s' more took)

  -- a file that was met is met still
  pub met_there : (shown : Bool) (m : Met) (nodes : Nodes) → IsMet shown s nodes (batch_nodes desk.creds s.calls nodes) desk.creds m → IsMet shown s' nodes (batch_nodes desk'.creds s'.calls nodes) desk'.creds m
  met_there shown m nodes met =
      let t = shown_still (λ k now. IsMet shown s nodes now k m) nodes met in
      record {
        after = t.after;
        there_now = t.there_now;
        kind = t.kind;
        rights = t.rights;
        known = t.known;
        live = elim (t.live) [ inl made ↦ inl (ap is_some (made_still m.ino) ∙ made) | inr l ↦ inr l ];
      }

  pub met_still : (shown : Bool) (m : Met) → IsMetIn shown desk s m → IsMetIn shown desk' s' m
  met_still shown m met = record {
    root = met.root;
    met = λ nodes rows p. met_there shown m nodes (met.met nodes rows (possible_before desk desk' s s' more took nodes rows sizes root p));
  }

-- ---- rights that are known

module _ (shown : Bool) (s : SessionSeen) (nodes now : Nodes) (creds : Creds) (m : Met) (t : IsMet shown s nodes now creds m) (need : Need) where
  -- they are the node's, and give what those do
  pub gives_known : (r : shown_rights.Rights) → m.rights ≡ Some r → permits creds t.after.kind t.after.mode t.after.uid t.after.gid need ≡ gives_met creds m need
  gives_known r e =
      let are : RightsAre (Some r) t.after = subst (λ o. RightsAre o t.after) e t.rights in
      let same : rights_of t.after ≡ record { kind = m.kind; mode = r.mode; uid = r.uid; gid = r.gid } =
      ap (λ k. record { kind = k; mode = t.after.mode; uid = t.after.uid; gid = t.after.gid }) t.kind
      ∙ ap (λ (q : Mode). record { kind = m.kind; mode = q; uid = t.after.uid; gid = t.after.gid }) are.0
      ∙ ap (λ q. record { kind = m.kind; mode = r.mode; uid = q; gid = t.after.gid }) are.1
      ∙ ap (λ q. record { kind = m.kind; mode = r.mode; uid = r.uid; gid = q }) are.2 in
      ap (λ (q : Rights). permits creds q.kind q.mode q.uid q.gid need) same
      ∙ sym (ap (λ o. option_map_or (λ (q : shown_rights.Rights). permits creds m.kind q.mode q.uid q.gid need) o true) e)

  pub lacks_known : (r : shown_rights.Rights) → m.rights ≡ Some r → lacks creds need t.after ≡ not (gives_met creds m need)
  lacks_known r e = ap not (gives_known r e)

-- ---- bodies

-- the kind of some rights
kind_in : (r q : Rights) → r ≡ q → r.kind ≡ q.kind
kind_in r q e = ap (λ (z : Rights). z.kind) e

-- rights of a directory by a body of its kind
as_directory : (x : Node) (kind : Kind) (b : List ℕ) → x.kind ≡ Directory → rights_of x ≡ rights_in kind b → rights_of x ≡ rights_in Directory b
as_directory x kind b dir e = e ∙ ap (λ k. rights_in k b) (sym (kind_in (rights_of x) (rights_in kind b) e) ∙ dir)

module _ (desk : DeskSeen) (s : SessionSeen) (may : MayWalk desk s) (nodes : Nodes) (rows : List (Option Row)) (p : ArePossible desk s.parcel s.reads nodes rows)
    (n : ℕ) (y : Node) (at : node_at (batch_nodes desk.creds s.calls nodes) n ≡ Some y) (dir : y.kind ≡ Directory) where
  -- a body that was lent says the node's rights
  lent_says : (k : ℕ) → k ≡ n → (kind : Kind) (b : List ℕ) → option_map rights_of (node_at nodes k) ≡ Some (rights_in kind b) → rights_of y ≡ rights_in Directory b
  lent_says k e kind b h =
      let x = mapped rights_of (node_at nodes k) (rights_in kind b) h in
      let same : rights_of y ≡ rights_of x.0 = rights_now desk s may nodes rows p n x.0 y (ap (node_at nodes) (sym e) ∙ x.1) at in
      as_directory y kind b dir (same ∙ x.2)

  -- and so does the one that the session shows
  pub body_says : (b : List ℕ) → body_shown s n ≡ Some b → rights_of y ≡ rights_in Directory b
  body_says b h = by_open (open_kind s n) refl
    where
      shown_by : (o : Option Kind) → open_kind s n ≡ o
          → body_shown s n ≡ option_or (option_map (λ k. body_in s n) o) (option_or (option_map (λ (f : Shown). f.body) (read_file s n)) (option_map (λ (k : HoldParts). k.body) (held_file s n)))
      shown_by o e = ap (λ q. option_or (option_map (λ k. body_in s n) q) (option_or (option_map (λ (f : Shown). f.body) (read_file s n)) (option_map (λ (k : HoldParts). k.body) (held_file s n)))) e

      by_held : (o : Option HoldParts) → held_file s n ≡ o → option_map (λ (k : HoldParts). k.body) o ≡ Some b → rights_of y ≡ rights_in Directory b
      by_held None e q = (let wrong : None ≡ Some b = q in absurd (cc wrong))
      by_held (Some k) e q =
          let i = find-In (λ (z : HoldParts). eqb z.ino n) s.parcel.holds k e in
          let same : Some k.body ≡ Some b = q in
          let is : k.body ≡ b = cc same in
          subst (λ z. rights_of y ≡ rights_in Directory z) is (lent_says k.ino (eqb-true k.ino n i.1) k.kind k.body (p.agrees.holds k i.0).rights)

      by_read : (o : Option Shown) → read_file s n ≡ o → option_or (option_map (λ (f : Shown). f.body) o) (option_map (λ (k : HoldParts). k.body) (held_file s n)) ≡ Some b → rights_of y ≡ rights_in Directory b
      by_read None e q = by_held (held_file s n) refl q
      by_read (Some f) e q =
          let i = find-In (λ (z : Shown). eqb z.ino n) s.reads f e in
          let same : Some f.body ≡ Some b = q in
          let is : f.body ≡ b = cc same in
          subst (λ z. rights_of y ≡ rights_in Directory z) is (lent_says f.ino (eqb-true f.ino n i.1) f.kind f.body (p.agrees.files f (In-right f (lent_files s.parcel.writes) s.reads i.0)).rights)

      by_kind : (k : Kind) → open_kind s n ≡ Some k → k ≡ Directory
      by_kind k e =
          let has = may.kinds n k e nodes rows p in
          let same : Some y.kind ≡ Some k = sym (ap (option_map (λ (x : Node). x.kind)) at) ∙ has in
          sym (cc same) ∙ dir

      by_open : (o : Option Kind) → open_kind s n ≡ o → rights_of y ≡ rights_in Directory b
      by_open None e = by_read (read_file s n) refl (sym (shown_by None e) ∙ h)
      by_open (Some k) e =
          let is_dir : k ≡ Directory = by_kind k e in
          let o = may.sees n (e ∙ ap Some is_dir) nodes rows p in
          let one : Some (rights_of y) ≡ Some (rights_in Directory (body_in s n)) = sym (ap (option_map rights_of) at) ∙ o.rights in
          let same : Some (body_in s n) ≡ Some b = sym (shown_by (Some k) e) ∙ h in
          let is : body_in s n ≡ b = cc same in
          let are : rights_of y ≡ rights_in Directory (body_in s n) = cc one in
          are ∙ ap (rights_in Directory) is

  -- a directory that the session has shows a body
  body_there : kind_shown s n ≡ Some Directory → (b : List ℕ) × (body_shown s n ≡ Some b)
  body_there h = by_open (open_kind s n) refl
    where
      by_read : open_kind s n ≡ None → (o : Option Shown) → read_file s n ≡ o → (b : List ℕ) × (body_shown s n ≡ Some b)
      by_read e None f =
          let wrong : None ≡ Some Directory = sym (ap (λ q. option_or q (option_map (λ (z : Shown). z.kind) (read_file s n))) e ∙ ap (option_map (λ (z : Shown). z.kind)) f) ∙ h in absurd (cc wrong)
      by_read e (Some f) g = (
        f.body,
        ap (λ q. option_or (option_map (λ k. body_in s n) q) (option_or (option_map (λ (z : Shown). z.body) (read_file s n)) (option_map (λ (k : HoldParts). k.body) (held_file s n)))) e
            ∙ ap (λ q. option_or (option_map (λ (z : Shown). z.body) q) (option_map (λ (k : HoldParts). k.body) (held_file s n))) g,
      )

      by_open : (o : Option Kind) → open_kind s n ≡ o → (b : List ℕ) × (body_shown s n ≡ Some b)
      by_open None e = by_read e (read_file s n) refl
      by_open (Some k) e = (
        body_in s n,
        ap (λ q. option_or (option_map (λ z. body_in s n) q) (option_or (option_map (λ (f : Shown). f.body) (read_file s n)) (option_map (λ (z : HoldParts). z.body) (held_file s n)))) e,
      )

  -- so the rights that it shows of it are the node's
  pub body_lacks : kind_shown s n ≡ Some Directory → (creds : Creds) (need : Need) → body_refuses s creds need n ≡ lacks creds need y
  body_lacks h creds need =
      let b = body_there h in
      ap (λ o. option_map_or (λ z. refuses creds need (rights_at z)) o false) b.1
      ∙ ap (λ (q : Rights). not (permits creds q.kind q.mode q.uid q.gid need)) (sym (body_says b.0 b.1))

-- ---- the root

module _ (desk : DeskSeen) (s : SessionSeen) (may : MayWalk desk s) (nodes : Nodes) (rows : List (Option Row)) (p : ArePossible desk s.parcel s.reads nodes rows) where
  known_by : (o : Option (List ℕ)) → (is_some o || false) ≡ is_some (option_map rights_at o)
  known_by None = refl
  known_by (Some b) = refl

  root_rights : (y : Node) → node_at (batch_nodes desk.creds s.calls nodes) 1 ≡ Some y → y.kind ≡ Directory → (o : Option (List ℕ)) → body_shown s 1 ≡ o → RightsAre (option_map rights_at o) y
  root_rights y at dir None e = tt
  root_rights y at dir (Some b) e =
      let are : rights_of y ≡ rights_in Directory b = body_says desk s may nodes rows p 1 y at dir b e in
      (ap (λ (z : Rights). z.mode) are, ap (λ (z : Rights). z.uid) are, ap (λ (z : Rights). z.gid) are)

  pub root_is_met : IsMet (is_some (body_shown s 1)) s nodes (batch_nodes desk.creds s.calls nodes) desk.creds (root_met s)
  root_is_met =
      let t = tree_now desk s may nodes rows p in
      record {
        after = t.root.0;
        there_now = t.root.1;
        kind = t.root.2;
        rights = root_rights t.root.0 t.root.1 t.root.2 (body_shown s 1) refl;
        known = known_by (body_shown s 1);
        live = inr (record {
          node = p.tree.root.0;
          there = p.tree.root.1;
          same = rights_now desk s may nodes rows p 1 p.tree.root.0 t.root.0 p.tree.root.1 t.root.1;
          above = root_above;
        });
      }
    where
      root_above : AboveIsOpen nodes desk.creds 1
      root_above zero = refl
      root_above (suc steps) =
          let rr : List (Option Row) = rights_rows nodes in
          let A : ℕ → List ℕ = λ q. cond (eqb q 0) [] (ancestors rr steps (row_in rr q) ++ q ∷ []) in
          ap (λ l. find (λ k. not (row_permits desk.creds ToRead (row_in rr k))) l) (ap (ancestors rr (suc steps)) (row_is nodes 1 p.tree.root.0 p.tree.root.1) ∙ ap A p.tree.root.3)

-- ---- directories that are had

-- a file that is open is open still
open_one : (s : SessionSeen) (n : ℕ) (kind : Kind) (lease : Lease) → open_kind s n ≡ Some kind → open_kind (with_lease s lease) n ≡ Some kind
open_one s n kind (ReadLease f) e = e
open_one s n kind (HoldLease h) e = e
open_one s n kind (WriteLease f) e = by (opened s n kind e)
  where
    by : IsOpened s n kind → open_kind (with_lease s (WriteLease f)) n ≡ Some kind
    by (ByMade m h k) = ap (λ o. option_or (option_map (λ (x : MadeFile). x.kind) o) (option_map (λ (x : Shown). x.kind) (written_file (with_lease s (WriteLease f)) n))) h ∙ ap Some k
    by (ByLease g none h k) =
        let p : LentFile → Bool = λ (x : LentFile). eqb x.stands.ino n in
        let there : find p (s.parcel.writes ++ f ∷ []) ≡ Some g = find-append p s.parcel.writes (f ∷ []) ∙ ap (λ o. option_or o (find p (f ∷ []))) h in
        ap (λ o. option_or (option_map (λ (x : MadeFile). x.kind) o) (option_map (λ (x : Shown). x.kind) (written_file (with_lease s (WriteLease f)) n))) none
        ∙ ap (λ o. option_map (λ (x : Shown). x.kind) (option_map (λ (x : LentFile). x.stands) o)) there ∙ ap Some k

open_many : (more : List Lease) (s : SessionSeen) (n : ℕ) (kind : Kind) → open_kind s n ≡ Some kind → open_kind (with_leases s more) n ≡ Some kind
open_many [] s n kind e = e
open_many (lease ∷ more) s n kind e = open_many more (with_lease s lease) n kind (open_one s n kind lease e)

-- so it is after leases that were taken
pub open_still : (s s' : SessionSeen) (more : List Lease) (n : ℕ) (kind : Kind) → TookLeases s more s' → open_kind s n ≡ Some kind → open_kind s' n ≡ Some kind
open_still s s' more n kind took e = ap (λ (x : SessionSeen). open_kind x n) took.same ∙ open_many more s n kind e

-- and a directory that is had for writing is had still
pub had_still : (s s' : SessionSeen) (more : List Lease) (dir : ℕ) → TookLeases s more s' → IsHad s dir Write → IsHad s' dir Write
had_still s s' more dir took had =
    let opens = opened_kind (open_kind s dir) refl in
    let open' : open_kind s' dir ≡ Some Directory = open_still s s' more dir Directory took opens in
    record {
      served = ap is_some open';
      directory = ap (λ o. option_or o (option_map (λ (f : Shown). f.kind) (read_file s' dir))) open';
      indexed = took.indexed dir had.indexed;
    }
  where
    opened_kind : (o : Option Kind) → open_kind s dir ≡ o → open_kind s dir ≡ Some Directory
    opened_kind (Some k) e = e ∙ sym (ap (λ o. option_or o (option_map (λ (f : Shown). f.kind) (read_file s dir))) e) ∙ had.directory
    opened_kind None e = (let wrong : false ≡ true = sym (ap is_some e) ∙ had.served in absurd (false≢true wrong))

-- one that may be looked in still may
pub look_still : (desk desk' : DeskSeen) (s s' : SessionSeen) (more : List Lease) (dir : ℕ) → TookLeases s more s' → desk'.sizes ≡ desk.sizes → desk'.root ≡ desk.root → desk'.creds ≡ desk.creds
    → MayLookIn desk s dir → MayLookIn desk' s' dir
look_still desk desk' s s' more dir took sizes root creds look = record {
  gives = λ nodes rows p.
      shown_still desk desk' s s' more took sizes root creds (λ k now. enter now k ToRead dir ≡ Ok dir) nodes
      (look.gives nodes rows (possible_before desk desk' s s' more took nodes rows sizes root p));
  above = λ nodes rows p.
      elim (look.above nodes rows (possible_before desk desk' s s' more took nodes rows sizes root p)) [
        | inl made ↦ inl (ap is_some (made_still desk desk' s s' more took sizes root creds dir) ∙ made)
        | inr open' ↦ inr (subst (λ k. AboveIsOpen nodes k dir) (sym creds) open')
      ];
}
