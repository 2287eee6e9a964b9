-- How a directory is entered.
use Rattle.trio_walk.proofs.Words.{◌++◌, ◌∙◌, ◌∷◌, ◌≡◌, ◌≢◌, ArePossible, Ask, At, Bool, Busy, BusyGrant, Call, Creds, Denied, DeniedGrant, DeskSeen, Directory, EndsBy, Entered, Enters, Err, Grant, GrantKind, HasCause, HasMet, Hold, HoldLease, Holder, In, In-left, In-map, IsMet, IsMetIn, Lease, List, MayTake, MayWalk, Met, Need, Needed, NoGrantMemory, NoMemory, Node, Nodes, None, NotDir, NotLent, Ok, Option, Read, ReadLease, Reply, Result, Rights, Row, SessionSeen, Some, TakenAs, ToRead, ToWrite, Told, Took, WalkEnd, Way, Write, WriteLease, [], ap, append-nil, asked, batch_nodes, body_refuses, cond, denies, enter, enter_node, entered_needs, false, false≢true, gives_met, here, inl, inr, is_directory, is_some, kind_for, kind_lent, kind_shown, lacks, map, need_of, node_at, not, one_need, option_map, option_map_or, or-false, permits, refl, rights_of, served_by, serves, some_one, subst, sym, true, with_lease, with_leases, ℕ}
use Rattle.std.specs.Prelude.{◌&&◌}
use Rattle.trio_nodes.specs.declared.call.Reply as reply
use Rattle.trio_walk.specs.declared.met.Rights as shown_rights
use Rattle.trio_walk.proofs.Denials.{reads_too}
use Rattle.trio_walk.proofs.Looking.{rights_now, tree_now}
use Rattle.trio_walk.proofs.Meeting.{body_lacks, lacks_known, met_still}
use Rattle.trio_walk.proofs.Possible.{same_seen}

abbrev Reached : Type 0
Reached = Result ℕ reply.Reply

-- one need is asked where nothing serves it
pub asked-one : (s : SessionSeen) (n : ℕ) (kind : GrantKind) → asked (served_by s) (record { ino = n; kind = kind } ∷ []) ≡ one_need s n kind
asked-one s n kind = ap (λ b. cond b [] (record { ino = n; kind = kind } ∷ [])) (or-false (serves s n kind))

-- no directory is entered to be held
pub never_hold : (need : Need) → kind_for need ≢ Hold
never_hold ToRead e = (let h : Read ≡ Hold = e in cc h)
never_hold ToWrite e = (let h : Write ≡ Hold = e in cc h)

module _ (need : Need) (shown : Bool) (x : SessionSeen) (nodes now : Nodes) (creds : Creds) (m : Met) (t : IsMet shown x nodes now creds m) (s : SessionSeen) where
  abbrev n1 : Needed
  n1 = record { ino = m.ino; kind = kind_for need }

  -- what comes of entering it
  enter_is : enter now creds need m.ino ≡ cond {A = Reached} (not (is_directory m.kind)) (Err NotDir) (cond {A = Reached} (lacks creds need t.after) (Err Denied) (Ok m.ino))
  enter_is =
      ap (enter_node creds need m.ino) t.there_now
      ∙ ap (λ k. cond {A = Reached} (not (is_directory k)) (Err NotDir) (cond {A = Reached} (lacks creds need t.after) (Err Denied) (Ok m.ino))) t.kind

  asks_by : (r : Reached) → enter now creds need m.ino ≡ r → asked (served_by s) (here shown need now creds m.ino) ≡ asked (served_by s) (entered_needs shown m.ino (kind_for need) r (λ d. []))
  asks_by r e = ap (λ q. asked (served_by s) (entered_needs shown m.ino (kind_for need) q (λ d. []))) e

  pub not_directory : is_directory m.kind ≡ false → Enters shown need now creds s m.ino (Err (Reply NotDir)) []
  not_directory k =
      let e : enter now creds need m.ino ≡ Err NotDir =
      enter_is ∙ ap (λ q. cond {A = Reached} (not q) (Err NotDir) (cond {A = Reached} (lacks creds need t.after) (Err Denied) (Ok m.ino))) k in
      (e, asks_by (Err NotDir) e)

  module _ (dir : m.kind ≡ Directory) where
    pub enter_dir : (b : Bool) → lacks creds need t.after ≡ b → enter now creds need m.ino ≡ cond {A = Reached} b (Err Denied) (Ok m.ino)
    enter_dir b e =
        enter_is
        ∙ ap (λ q. cond {A = Reached} (not (is_directory q)) (Err NotDir) (cond {A = Reached} (lacks creds need t.after) (Err Denied) (Ok m.ino))) dir
        ∙ ap (λ q. cond {A = Reached} q (Err Denied) (Ok m.ino)) e

    -- entered: the grant is needed
    pub asks_entered : lacks creds need t.after ≡ false → asked (served_by s) (here shown need now creds m.ino) ≡ one_need s m.ino (kind_for need)
    asks_entered e = asks_by (Ok m.ino) (enter_dir false e) ∙ asked-one s m.ino (kind_for need)

    -- so it is where no lease shows the rights
    pub asks_unknown : m.rights ≡ None → (b : Bool) → lacks creds need t.after ≡ b → asked (served_by s) (here shown need now creds m.ino) ≡ one_need s m.ino (kind_for need)
    asks_unknown u false e = asks_entered e
    asks_unknown u true e =
        asks_by (Err Denied) (enter_dir true e)
        ∙ ap (λ q. asked (served_by s) (cond q [] (n1 ∷ []))) (t.known ∙ ap is_some u)
        ∙ asked-one s m.ino (kind_for need)

    -- refused by what is known: no grant
    pub asks_refused : is_some m.rights ≡ true → lacks creds need t.after ≡ true → asked (served_by s) (here shown need now creds m.ino) ≡ []
    asks_refused k e = asks_by (Err Denied) (enter_dir true e) ∙ ap (λ q. asked (served_by s) (cond q [] (n1 ∷ []))) (t.known ∙ k)

    -- where what is known gives it, the grant is needed
    pub asks_allowed : gives_met creds m need ≡ true → asked (served_by s) (here shown need now creds m.ino) ≡ one_need s m.ino (kind_for need)
    asks_allowed g = by m.rights refl
      where
        by : (o : Option shown_rights.Rights) → m.rights ≡ o → asked (served_by s) (here shown need now creds m.ino) ≡ one_need s m.ino (kind_for need)
        by (Some r) e = asks_entered (lacks_known shown x nodes now creds m t need r e ∙ ap not g)
        by None e = asks_unknown e (lacks creds need t.after) refl

-- what is known refuses only where it is known
known_some : (creds : Creds) (m : Met) (need : Need) → gives_met creds m need ≡ false → (o : Option shown_rights.Rights) → m.rights ≡ o → (r : shown_rights.Rights) × (m.rights ≡ Some r)
known_some creds m need g (Some r) e = (r, e)
known_some creds m need g None e =
    let wrong : true ≡ false = sym (ap (λ o. option_map_or (λ (q : shown_rights.Rights). permits creds m.kind q.mode q.uid q.gid need) o true) e) ∙ g in
    absurd (false≢true (sym wrong))

-- a directory that gives what is needed gives reading
gives_reading : (creds : Creds) (need : Need) (y : Node) → y.kind ≡ Directory → lacks creds need y ≡ false → lacks creds ToRead y ≡ false
gives_reading creds ToRead y dir l = l
gives_reading creds ToWrite y dir l = by (permits creds y.kind y.mode y.uid y.gid ToWrite) refl l
  where
    by : (b : Bool) → permits creds y.kind y.mode y.uid y.gid ToWrite ≡ b → not b ≡ false → lacks creds ToRead y ≡ false
    by false e q = absurd (false≢true (sym q))
    by true e q =
        let writes : permits creds Directory y.mode y.uid y.gid ToWrite ≡ true = ap (λ k. permits creds k y.mode y.uid y.gid ToWrite) (sym dir) ∙ e in
        ap (λ k. not (permits creds k y.mode y.uid y.gid ToRead)) dir ∙ ap not (reads_too creds y.mode y.uid y.gid writes)

-- ---- what is taken for reading

-- read leases leave the parcel
leave_parcel : (s : SessionSeen) (more : List Lease) → ((l : Lease) → In l more → kind_lent l ≡ Read) → (with_leases s more).parcel ≡ s.parcel
leave_parcel s [] reads = refl
leave_parcel s (ReadLease f ∷ more) reads = leave_parcel (with_lease s (ReadLease f)) more (λ l i. reads l (inr i))
leave_parcel s (WriteLease f ∷ more) reads = absurd (let wrong : Write ≡ Read = reads (WriteLease f) (inl refl) in cc wrong)
leave_parcel s (HoldLease h ∷ more) reads = absurd (let wrong : Hold ≡ Read = reads (HoldLease h) (inl refl) in cc wrong)

-- and so does a file that is taken for reading
took_reading : {D : Type 0} (called : D → Ask → Told → D → Type 0) (seen : D → DeskSeen) (d : D) (s : SessionSeen) (m : Met) (kind : GrantKind) (result : Result Bool WalkEnd) (d' : D) (s' : SessionSeen)
    → kind ≡ Read → Took called seen d s m kind result d' s' → s'.parcel ≡ s.parcel
took_reading called seen d s m kind result d' s' is k = ap (λ (q : SessionSeen). q.parcel) k.way.took.same ∙ leave_parcel s k.more (of result k.taken)
  where
    needed : (l : Lease) → In (need_of l) (one_need s m.ino kind) → kind_lent l ≡ Read
    needed l i = by (serves s m.ino kind) i
      where
        by : (b : Bool) → In (need_of l) (cond b [] (record { ino = m.ino; kind = kind } ∷ [])) → kind_lent l ≡ Read
        by true j = absurd j
        by false (inl e) = ap (λ (n : Needed). n.kind) e ∙ is
        by false (inr j) = absurd j

    of : (r : Result Bool WalkEnd) → TakenAs (seen d) s m kind k.more k.last r s' → (l : Lease) → In l k.more → kind_lent l ≡ Read
    of (Ok true) t l i = needed l (subst (λ q. In (need_of l) q) (sym t.1) (In-map need_of l k.more i))
    of (Ok false) t l i = absurd (subst (λ q. In l q) t.0 i)
    of (Err (Busy h)) t l i = absurd (subst (λ q. In l q) t.0 i)
    of (Err NoMemory) t l i =
        needed l (subst (λ q. In (need_of l) q) (sym t.3) (In-left (need_of l) (map need_of k.more ++ t.0) t.1 (In-left (need_of l) (map need_of k.more) t.0 (In-map need_of l k.more i))))
    of (Err (At n)) t l i = absurd t
    of (Err (Reply r)) t l i = absurd t

-- ---- entering

module _ {D : Type 0} (called : D → Ask → Told → D → Type 0) (seen : D → DeskSeen) (d : D) (s : SessionSeen) (m : Met) (need : Need) (may : MayWalk (seen d) s) (met : HasMet (seen d) s m) where
  -- nothing was done
  stood : Way called seen d s [] [] d s
  stood = record { made = refl; took = record { same = refl; indexed = λ n i. i }; as_lent = λ f i. absurd i; lends = same_seen (seen d); busy = λ n kind holder i. absurd i; lib = refl; sizes = refl; root = refl; creds = refl; others = λ n kind holder i. absurd i }

  pub file_entered : is_directory m.kind ≡ false → Entered called seen d s m need (Err (Reply NotDir)) d s
  file_entered k = record {
    more = [];
    last = [];
    needs = [];
    way = stood;
    may = may;
    ends = (tt, inl (refl, refl));
    has = tt;
    reading = λ e. refl;
    busy = λ n kind holder i. absurd i;
    enters = λ shown nodes rows p t. not_directory need shown s nodes (batch_nodes (seen d).creds s.calls nodes) (seen d).creds m t s k;
  }

  pub denied_entered : m.kind ≡ Directory → gives_met (seen d).creds m need ≡ false → Entered called seen d s m need (Err (Reply Denied)) d s
  denied_entered dir g = record {
    more = [];
    last = [];
    needs = [];
    way = stood;
    may = may;
    ends = (tt, inl (refl, refl));
    has = tt;
    reading = λ e. refl;
    busy = λ n kind holder i. absurd i;
    enters = λ shown nodes rows p t.
        let now : Nodes = batch_nodes (seen d).creds s.calls nodes in
        let r = known_some (seen d).creds m need g m.rights refl in
        let l : lacks (seen d).creds need t.after ≡ true = lacks_known shown s nodes now (seen d).creds m t need r.0 r.1 ∙ ap not g in
        (enter_dir need shown s nodes now (seen d).creds m t s dir true l, asks_refused need shown s nodes now (seen d).creds m t s dir (ap is_some r.1) l);
  }

  -- what is taken may be
  pub may_take : gives_met (seen d).creds m need ≡ true → MayTake (seen d) s m (kind_for need)
  may_take g = by need g
    where
      by : (k : Need) → gives_met (seen d).creds m k ≡ true → MayTake (seen d) s m (kind_for k)
      by ToRead h = h
      by ToWrite h = h

  module _ (dir : m.kind ≡ Directory) (g : gives_met (seen d).creds m need ≡ true) (d' : D) (s' : SessionSeen) where
    abbrev n2 : Needed
    n2 = record { ino = m.ino; kind = kind_for need }

    module _ (result : Result Bool WalkEnd) (k : Took called seen d s m (kind_for need) result d' s') where
      g' : gives_met (seen d').creds m need ≡ true
      g' = ap (λ c. gives_met c m need) k.way.creds ∙ g

      met' : IsMetIn met.0 (seen d') s' m
      met' = met_still (seen d) (seen d') s s' k.more k.way.took k.way.sizes k.way.root k.way.creds met.0 m met.1

      -- the grant is asked
      asks_it : (shown : Bool) (nodes : Nodes) → IsMet shown s' nodes (batch_nodes (seen d').creds s'.calls nodes) (seen d').creds m
          → asked (served_by s) (here shown need (batch_nodes (seen d').creds s'.calls nodes) (seen d').creds m.ino) ≡ one_need s m.ino (kind_for need)
      asks_it shown nodes t = asks_allowed need shown s' nodes (batch_nodes (seen d').creds s'.calls nodes) (seen d').creds m t s dir g'

    -- it is had: its body says whether it may be entered
    module _ (k : Took called seen d s m (kind_for need) (Ok true) d' s') where
      directory : kind_shown s' m.ino ≡ Some Directory
      directory = k.taken.2.of_kind (never_hold need) ∙ ap Some dir

      lacks_by : (b : Bool) → body_refuses s' (seen d').creds need m.ino ≡ b → (shown : Bool) (nodes : Nodes) (rows : List (Option Row)) → ArePossible (seen d') s'.parcel s'.reads nodes rows
          → (t : IsMet shown s' nodes (batch_nodes (seen d').creds s'.calls nodes) (seen d').creds m) → lacks (seen d').creds need t.after ≡ b
      lacks_by b e shown nodes rows p t =
          sym (body_lacks (seen d') s' k.may nodes rows p m.ino t.after t.there_now (t.kind ∙ dir) directory (seen d').creds need) ∙ e

      -- it gives what is needed in each state that is possible
      abbrev Permits : Type 0
      Permits =
          (shown : Bool) (nodes : Nodes) (rows : List (Option Row)) → ArePossible (seen d') s'.parcel s'.reads nodes rows
          → (t : IsMet shown s' nodes (batch_nodes (seen d').creds s'.calls nodes) (seen d').creds m) → lacks (seen d').creds need t.after ≡ false

      entered_where : Permits → Entered called seen d s m need (Ok tt) d' s'
      entered_where permits_it = record {
        more = k.more;
        last = k.last;
        needs = [];
        way = k.way;
        may = k.may;
        ends = (k.taken.0, refl);
        has = (
          record { served = k.taken.2.served; directory = directory; indexed = k.taken.2.indexed directory },
          record {
            gives = λ nodes rows p.
                let t = (met' (Ok true) k).met nodes rows p in
                let l = gives_reading (seen d').creds need t.after (t.kind ∙ dir) (permits_it met.0 nodes rows p t) in
                enter_dir ToRead met.0 s' nodes (batch_nodes (seen d').creds s'.calls nodes) (seen d').creds m t s dir false l;
            above = λ nodes rows p.
                let t = (met' (Ok true) k).met nodes rows p in
                elim (t.live) [ inl made ↦ inl made | inr l ↦ inr l.above ];
          },
        );
        reading = λ e. took_reading called seen d s m (kind_for need) (Ok true) d' s' (ap kind_for e) k;
        busy = λ n kind holder i. absurd (subst (λ l. In {X = Call} (record { ask = Grant n kind; told = NotLent (BusyGrant holder) }) l) k.taken.0 i);
        enters = λ shown nodes rows p t. (
          enter_dir need shown s' nodes (batch_nodes (seen d').creds s'.calls nodes) (seen d').creds m t s dir false (permits_it shown nodes rows p t),
          asks_it (Ok true) k shown nodes t ∙ k.taken.1 ∙ sym (append-nil (map need_of k.more)),
        );
      }

      -- by the rights that were known, or else by its body
      pub entered_either : (not (is_some m.rights) && body_refuses s' (seen d').creds need m.ino) ≡ false → Entered called seen d s m need (Ok tt) d' s'
      entered_either e = by m.rights refl e
        where
          by : (o : Option shown_rights.Rights) → m.rights ≡ o → (not (is_some o) && body_refuses s' (seen d').creds need m.ino) ≡ false → Entered called seen d s m need (Ok tt) d' s'
          by None is q = entered_where (lacks_by false q)
          by (Some r) is q = entered_where (λ shown nodes rows p t. lacks_known shown s' nodes (batch_nodes (seen d').creds s'.calls nodes) (seen d').creds m t need r is ∙ ap not (g' (Ok true) k))

      pub refused_then : body_refuses s' (seen d').creds need m.ino ≡ true → Entered called seen d s m need (Err (Reply Denied)) d' s'
      refused_then e = record {
        more = k.more;
        last = k.last;
        needs = [];
        way = k.way;
        may = k.may;
        ends = (tt, inl (k.taken.0, refl));
        has = tt;
        reading = λ e. took_reading called seen d s m (kind_for need) (Ok true) d' s' (ap kind_for e) k;
        busy = λ n kind holder i. absurd (subst (λ l. In {X = Call} (record { ask = Grant n kind; told = NotLent (BusyGrant holder) }) l) k.taken.0 i);
        enters = λ shown nodes rows p t. (
          enter_dir need shown s' nodes (batch_nodes (seen d').creds s'.calls nodes) (seen d').creds m t s dir true (lacks_by true e shown nodes rows p t),
          asks_it (Ok true) k shown nodes t ∙ k.taken.1 ∙ sym (append-nil (map need_of k.more)),
        );
      }

    -- the root denies it
    module _ (k : Took called seen d s m (kind_for need) (Ok false) d' s') where
      root_denies : (q : Need) → denies (seen d).creds (seen d).root (kind_for q) ≡ not (permits (seen d).creds (seen d).root.kind (seen d).root.mode (seen d).root.uid (seen d).root.gid q)
      root_denies ToRead = refl
      root_denies ToWrite = refl

      pub root_refused : Entered called seen d s m need (Err (Reply Denied)) d' s'
      root_refused =
          let number : m.ino ≡ 1 = k.taken.3 in
          record {
            more = k.more;
            last = k.last;
            needs = record { ino = 1; kind = kind_for need } ∷ [];
            way = k.way;
            may = k.may;
            ends = (tt, inr (kind_for need, refl, k.taken.1, refl));
            has = tt;
            reading = λ e. took_reading called seen d s m (kind_for need) (Ok false) d' s' (ap kind_for e) k;
            busy = λ n kind holder i. absurd (not_busy n kind holder (subst (λ l. In {X = Call} (record { ask = Grant n kind; told = NotLent (BusyGrant holder) }) l) k.taken.1 i));
            enters = λ shown nodes rows p t.
                let now : Nodes = batch_nodes (seen d').creds s'.calls nodes in
                let l : lacks (seen d').creds need t.after ≡ true = root_lacks shown nodes rows p t in (
                  enter_dir need shown s' nodes now (seen d').creds m t s dir true l,
                  asks_it (Ok false) k shown nodes t ∙ k.taken.2 ∙ sym (ap (λ q. map need_of q ++ record { ino = 1; kind = kind_for need } ∷ []) k.taken.0),
                );
          }
        where
          not_busy : (n : ℕ) (kind : GrantKind) (holder : Holder) → In {X = Call} (record { ask = Grant n kind; told = NotLent (BusyGrant holder) }) (record { ask = Grant 1 (kind_for need); told = NotLent (DeniedGrant 1) } ∷ []) → ⊥
          not_busy n kind holder (inr i) = i
          not_busy n kind holder (inl e) = (let told : NotLent (BusyGrant holder) ≡ NotLent (DeniedGrant 1) = ap (λ (c : Call). c.told) e in let wrong : BusyGrant holder ≡ DeniedGrant 1 = cc told in cc wrong)

          root_lacks : (shown : Bool) (nodes : Nodes) (rows : List (Option Row)) → ArePossible (seen d') s'.parcel s'.reads nodes rows
              → (t : IsMet shown s' nodes (batch_nodes (seen d').creds s'.calls nodes) (seen d').creds m) → lacks (seen d').creds need t.after ≡ true
          root_lacks shown nodes rows p t =
              let number : m.ino ≡ 1 = k.taken.3 in
              let y = tree_now (seen d') s' k.may nodes rows p in
              let same : t.after ≡ y.root.0 = some_one (node_at (batch_nodes (seen d').creds s'.calls nodes) 1) t.after y.root.0 (ap (node_at (batch_nodes (seen d').creds s'.calls nodes)) (sym number) ∙ t.there_now) y.root.1 in
              let kept : rights_of y.root.0 ≡ rights_of p.tree.root.0 = rights_now (seen d') s' k.may nodes rows p 1 p.tree.root.0 y.root.0 p.tree.root.1 y.root.1 in
              let said : Some (rights_of p.tree.root.0) ≡ Some (seen d').root = sym (ap (option_map rights_of) p.tree.root.1) ∙ p.agrees.root_is in
              let root : rights_of t.after ≡ (seen d).root = ap rights_of same ∙ kept ∙ cc said ∙ k.way.root in
              ap (λ (q : Rights). not (permits (seen d').creds q.kind q.mode q.uid q.gid need)) root
              ∙ ap (λ c. not (permits c (seen d).root.kind (seen d).root.mode (seen d).root.uid (seen d).root.gid need)) k.way.creds
              ∙ sym (root_denies need) ∙ k.taken.5

    -- it is busy, or there is no memory
    pub broken_off : (end : WalkEnd) → Took called seen d s m (kind_for need) (Err end) d' s' → Entered called seen d s m need (Err end) d' s'
    broken_off (Busy h) k = record {
      more = k.more;
      last = k.last;
      needs = n2 ∷ [];
      way = k.way;
      may = k.may;
      ends = (tt, (m.ino, kind_for need, k.taken.1, refl));
      has = tt;
      reading = λ e. took_reading called seen d s m (kind_for need) (Err (Busy h)) d' s' (ap kind_for e) k;
      busy = λ n kind holder i. busy_by n kind holder (subst (λ l. In {X = Call} (record { ask = Grant n kind; told = NotLent (BusyGrant holder) }) l) k.taken.1 i) k.taken.3;
      enters = λ shown nodes rows p t. ([], asks_it (Err (Busy h)) k shown nodes t ∙ k.taken.2 ∙ sym (ap (λ q. (map need_of q ++ n2 ∷ []) ++ []) k.taken.0));
    }
      where
        busy_by : (n : ℕ) (kind : GrantKind) (holder : Holder) → In {X = Call} (record { ask = Grant n kind; told = NotLent (BusyGrant holder) }) (record { ask = Grant m.ino (kind_for need); told = NotLent (BusyGrant h) } ∷ [])
            → HasCause (seen d) m.ino (kind_for need) (BusyGrant h) → (n ≡ m.ino) × (kind ≡ kind_for need) × HasCause (seen d) m.ino (kind_for need) (BusyGrant holder)
        busy_by n kind holder (inr i) c = absurd i
        busy_by n kind holder (inl e) c =
            let asked_is : Grant n kind ≡ Grant m.ino (kind_for need) = ap (λ (q : Call). q.ask) e in
            let told : NotLent (BusyGrant holder) ≡ NotLent (BusyGrant h) = ap (λ (q : Call). q.told) e in
            let same : BusyGrant holder ≡ BusyGrant h = cc told in
            (cc asked_is, cc asked_is, subst (λ f. HasCause (seen d) m.ino (kind_for need) f) (sym same) c)
    broken_off NoMemory k = record {
      more = k.more;
      last = k.last;
      needs = k.taken.0;
      way = k.way;
      may = k.may;
      ends = (tt, k.taken.2);
      has = tt;
      reading = λ e. took_reading called seen d s m (kind_for need) (Err NoMemory) d' s' (ap kind_for e) k;
      busy = λ n kind holder i. absurd (not_busy n kind holder k.last k.taken.0 k.taken.2 i);
      enters = λ shown nodes rows p t. (k.taken.1, asks_it (Err NoMemory) k shown nodes t ∙ k.taken.3);
    }
      where
        not_busy : (n : ℕ) (kind : GrantKind) (holder : Holder) (last : List Call) (needs : List Needed) → EndsBy NoMemory last needs → In {X = Call} (record { ask = Grant n kind; told = NotLent (BusyGrant holder) }) last → ⊥
        not_busy n kind holder last needs (inl e) i = subst (λ l. In {X = Call} (record { ask = Grant n kind; told = NotLent (BusyGrant holder) }) l) e.0 i
        not_busy n kind holder last needs (inr e) i =
            elim (subst (λ l. In {X = Call} (record { ask = Grant n kind; told = NotLent (BusyGrant holder) }) l) e.2 i) [
              | inr none ↦ none
              | inl q ↦ (let told : NotLent (BusyGrant holder) ≡ NotLent NoGrantMemory = ap (λ (c : Call). c.told) q in let wrong : BusyGrant holder ≡ NoGrantMemory = cc told in cc wrong)
            ]
    broken_off (Reply r) k = absurd k.taken
    broken_off (At n) k = absurd k.taken
