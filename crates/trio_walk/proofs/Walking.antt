-- A walk, name by name.
use Rattle.trio_walk.proofs.Words.{◌++◌, ◌+◌, ◌<◌, ◌||◌, ◌∙◌, ◌∷◌, ◌≡◌, ◌≢◌, ◌⊎◌, ArePossible, Ask, At, Bool, Busy, BusyGrant, Call, Creds, DeskSeen, EndsBy, Entered, Enters, Err, Grant, GrantKind, Hold, HoldLease, HoldParts, Holder, In, In-cases, In-left, In-map, IsMetIn, IsOwnBusy, Lease, List, LooksUp, MayWalk, Met, Need, Needed, NoMemory, Nodes, None, NotFound, NotLent, Ok, Option, Path, ReadLease, Reply, Result, Row, SessionSeen, Shown, Some, Told, TookLeases, WalkEnd, Walked, Walks, Way, WriteLease, [], and_then, ap, append-nil, append_assoc, arith, asked, asked_beside, batch_nodes, body_shown, drop, enter, entered_needs, file_of, find_named, get_or, here, hold_numbers, inl, inr, into_needs, is_some, kind_for, kind_lent, length, list_any, map, map-append, need_at, need_of, needs_from, reached_by, refl, root_met, served_by, serves, serves_need, subst, suc, sym, take, take-suc, walk, walk_from, walk_needs, with_lease, with_leases, ℕ}
use Rattle.std.proofs.Common.{◌≤◌}
use Rattle.std.proofs.Math.ListN.{drop_of_length-le}
use Rattle.trio_nodes.specs.declared.call.Reply as reply
use Rattle.trio_walk.specs.Walks.{InAllShown, IsStopped, WalksInto}
use Rattle.trio_walk.specs.inner.Steps.{EnteringEnds}
use Rattle.trio_walk.proofs.Agreeing.{IsAt, IsNeedAt, asked_beside-In, asked_beside-append, in_order, need_one, walk_at, walk_need}
use Rattle.trio_walk.proofs.Entering.{never_hold}
use Rattle.trio_walk.proofs.Looking.{may_but, tree_now}
use Rattle.trio_walk.proofs.Meeting.{met_still, root_is_met, shown_still}
use Rattle.trio_walk.proofs.Possible.{moment_possible, possible_before, same_seen, way_after}
use Rattle.trio_walk.proofs.Stepping.{AreNumbered, asked_after, asked_here, err_needs, first_asked, later, lost, needs_are, needs_lost, needs_onward, onward, served_more, stopped}

abbrev Reached : Type 0
Reached = Result ℕ reply.Reply

-- ---- what is the session's own

-- a lease that is had is an old one, or one of those that were taken
read_had : (more : List Lease) (s : SessionSeen) (n : ℕ) → In n (map (λ (f : Shown). f.ino) (with_leases s more).reads) → In n (map (λ (f : Shown). f.ino) s.reads) ⊎ ((f : Shown) × In (ReadLease f) more × (f.ino ≡ n))
read_had [] s n i = inl i
read_had (lease ∷ more) s n i = by (λ x j. read_had more x n j) lease i
  where
    by_later : (l : Lease) → In n (map (λ (f : Shown). f.ino) (with_lease s l).reads) ⊎ ((f : Shown) × In (ReadLease f) more × (f.ino ≡ n))
        → (In n (map (λ (f : Shown). f.ino) (with_lease s l).reads) → In n (map (λ (f : Shown). f.ino) s.reads) ⊎ ((f : Shown) × In (ReadLease f) (l ∷ more) × (f.ino ≡ n)))
        → In n (map (λ (f : Shown). f.ino) s.reads) ⊎ ((f : Shown) × In (ReadLease f) (l ∷ more) × (f.ino ≡ n))
    by_later l (inl a) old = old a
    by_later l (inr b) old = inr (b.0, inr b.1, b.2)

    by : ((x : SessionSeen) → In n (map (λ (f : Shown). f.ino) (with_leases x more).reads) → In n (map (λ (f : Shown). f.ino) x.reads) ⊎ ((f : Shown) × In (ReadLease f) more × (f.ino ≡ n)))
        → (l : Lease) → In n (map (λ (f : Shown). f.ino) (with_leases (with_lease s l) more).reads)
        → In n (map (λ (f : Shown). f.ino) s.reads) ⊎ ((f : Shown) × In (ReadLease f) (l ∷ more) × (f.ino ≡ n))
    by again (WriteLease f) j = by_later (WriteLease f) (again (with_lease s (WriteLease f)) j) (λ a. inl a)
    by again (HoldLease h) j = by_later (HoldLease h) (again (with_lease s (HoldLease h)) j) (λ a. inl a)
    by again (ReadLease f) j = by_later (ReadLease f) (again (with_lease s (ReadLease f)) j) (λ a.
        elim (In-cases n (map (λ (g : Shown). g.ino) s.reads) (f.ino ∷ []) (subst (λ l. In n l) (map-append (λ (g : Shown). g.ino) s.reads (f ∷ [])) a)) [
          | inl o ↦ inl o
          | inr (inl e) ↦ inr (f, inl refl, sym e)
          | inr (inr none) ↦ absurd none
        ])

held_had : (more : List Lease) (s : SessionSeen) (n : ℕ) → In n (hold_numbers (with_leases s more).parcel.holds) → In n (hold_numbers s.parcel.holds) ⊎ ((h : HoldParts) × In (HoldLease h) more × (h.ino ≡ n))
held_had [] s n i = inl i
held_had (lease ∷ more) s n i = by (λ x j. held_had more x n j) lease i
  where
    by_later : (l : Lease) → In n (hold_numbers (with_lease s l).parcel.holds) ⊎ ((h : HoldParts) × In (HoldLease h) more × (h.ino ≡ n))
        → (In n (hold_numbers (with_lease s l).parcel.holds) → In n (hold_numbers s.parcel.holds) ⊎ ((h : HoldParts) × In (HoldLease h) (l ∷ more) × (h.ino ≡ n)))
        → In n (hold_numbers s.parcel.holds) ⊎ ((h : HoldParts) × In (HoldLease h) (l ∷ more) × (h.ino ≡ n))
    by_later l (inl a) old = old a
    by_later l (inr b) old = inr (b.0, inr b.1, b.2)

    by : ((x : SessionSeen) → In n (hold_numbers (with_leases x more).parcel.holds) → In n (hold_numbers x.parcel.holds) ⊎ ((h : HoldParts) × In (HoldLease h) more × (h.ino ≡ n)))
        → (l : Lease) → In n (hold_numbers (with_leases (with_lease s l) more).parcel.holds)
        → In n (hold_numbers s.parcel.holds) ⊎ ((h : HoldParts) × In (HoldLease h) (l ∷ more) × (h.ino ≡ n))
    by again (WriteLease f) j = by_later (WriteLease f) (again (with_lease s (WriteLease f)) j) (λ a. inl a)
    by again (ReadLease f) j = by_later (ReadLease f) (again (with_lease s (ReadLease f)) j) (λ a. inl a)
    by again (HoldLease h) j = by_later (HoldLease h) (again (with_lease s (HoldLease h)) j) (λ a.
        elim (In-cases n (hold_numbers s.parcel.holds) (h.ino ∷ []) (subst (λ l. In n l) (map-append (λ (g : HoldParts). g.ino) s.parcel.holds (h ∷ [])) a)) [
          | inl o ↦ inl o
          | inr (inl e) ↦ inr (h, inl refl, sym e)
          | inr (inr none) ↦ absurd none
        ])

-- where each lease that was taken on a file is of the kind that is asked, what keeps it busy is older
pub own_older : (s s' : SessionSeen) (more : List Lease) (n : ℕ) (kind : GrantKind) → TookLeases s more s' → kind ≢ Hold → ((l : Lease) → In l more → file_of l ≡ n → kind_lent l ≡ kind) → IsOwnBusy s' n kind → IsOwnBusy s n kind
own_older s s' more n kind took unheld same busy =
    elim (busy.has) [
      | inl r ↦
          elim (read_had more s n (subst (λ (x : SessionSeen). In n (map (λ (f : Shown). f.ino) x.reads)) took.same r.0)) [
            | inl o ↦ record { has = inl (o, r.1) }
            | inr x ↦ absurd (r.1 (sym (same (ReadLease x.0) x.1 x.2)))
          ]
      | inr (inl w) ↦ absurd (unheld w.1)
      | inr (inr h) ↦
          elim (held_had more s n (subst (λ (x : SessionSeen). In n (hold_numbers x.parcel.holds)) took.same h)) [
            | inl o ↦ record { has = inr (inr o) }
            | inr x ↦ absurd (unheld (sym (same (HoldLease x.0) x.1 x.2)))
          ]
    ]

-- ---- how far a walk has come

-- in nodes that the session shows, after some names
pub record StepAt (shown : Bool) (s0 : SessionSeen) (writes : List Path) (path : Path) (i : ℕ) (more : List Lease) (at : ℕ) (creds : Creds) (now : Nodes) : Type 0 where
  pub walks : walk_from now creds writes (take i path) at (drop i path) ≡ walk now creds writes path
  pub asks :
      asked (served_by s0) (walk_needs now creds shown writes path)
      ≡ map need_of more ++ asked_beside (served_by s0) (map need_of more) (needs_from now creds shown writes (take i path) at (drop i path))
  pub names : List (List ℕ)
  pub is_at : IsAt now names at
  pub passed : in_order names ≡ take i path

pub record OnWay {D : Type 0} (called : D → Ask → Told → D → Type 0) (seen : D → DeskSeen) (d0 : D) (s0 : SessionSeen) (writes : List Path) (path : Path) (i : ℕ) (d : D) (s : SessionSeen) (at : Met) : Type 0 where
  pub more : List Lease
  pub way : Way called seen d0 s0 more [] d s
  pub may : MayWalk (seen d) s
  pub met : IsMetIn (is_some (body_shown s0 1)) (seen d) s at
  pub steps : InAllShown (seen d) s (StepAt (is_some (body_shown s0 1)) s0 writes path i more at.ino (seen d).creds)
  pub reading : writes ≡ [] → s.parcel ≡ s0.parcel

-- leases that were asked of a walk are of the kinds of its needs
pub kinds_agree : (desk : DeskSeen) (s s0 : SessionSeen) (may : MayWalk desk s) (shown : Bool) (writes : List Path) (path : Path) (more : List Lease) (n : ℕ) (kind : GrantKind)
    (nodes : Nodes) (rows : List (Option Row)) → ArePossible desk s.parcel s.reads nodes rows
    → (rest : List Needed) → asked (served_by s0) (walk_needs (batch_nodes desk.creds s.calls nodes) desk.creds shown writes path) ≡ map need_of more ++ rest
    → IsNeedAt (batch_nodes desk.creds s.calls nodes) desk.creds shown writes (record { ino = n; kind = kind })
    → (l : Lease) → In l more → file_of l ≡ n → kind_lent l ≡ kind
kinds_agree desk s s0 may shown writes path more n kind nodes rows p rest asks at l i e =
    let now : Nodes = batch_nodes desk.creds s.calls nodes in
    let ns : List Needed = walk_needs now desk.creds shown writes path in
    let among : In (need_of l) (asked (served_by s0) ns) = subst (λ q. In (need_of l) q) (sym asks) (In-left (need_of l) (map need_of more) rest (In-map need_of l more i)) in
    let needed = walk_need now desk.creds shown writes path (need_of l) (asked_beside-In (served_by s0) ns [] (need_of l) among) in
    need_one now desk.creds shown writes (tree_now desk s may nodes rows p) (need_of l) (record { ino = n; kind = kind }) needed at e

-- ---- steps

regroup : (m1 m2 : List Lease) (need : List Needed) → map need_of m1 ++ (map need_of m2 ++ need) ≡ map need_of (m1 ++ m2) ++ need
regroup m1 m2 need = sym (append_assoc (map need_of m1) (map need_of m2) need) ∙ ap (λ q. q ++ need) (sym (map-append need_of m1 m2))

regroup_more : (m1 m2 : List Lease) (need rest tail : List Needed) → map need_of m1 ++ (((map need_of m2 ++ need) ++ rest) ++ tail) ≡ (map need_of (m1 ++ m2) ++ need) ++ (rest ++ tail)
regroup_more m1 m2 need rest tail =
    ap (λ q. map need_of m1 ++ q) (append_assoc (map need_of m2 ++ need) rest tail)
    ∙ sym (append_assoc (map need_of m1) (map need_of m2 ++ need) (rest ++ tail))
    ∙ ap (λ q. q ++ (rest ++ tail)) (regroup m1 m2 need)

-- the leases of a way stand by their numbers
pub way_numbered : {D : Type 0} (called : D → Ask → Told → D → Type 0) (seen : D → DeskSeen) (d d' : D) (s s' : SessionSeen) (more : List Lease) (last : List Call) → Way called seen d s more last d' s' → AreNumbered more
way_numbered called seen d d' s s' more last way f i = ap (λ (x : Shown). x.ino) (way.as_lent f i)

module _ {D : Type 0} (called : D → Ask → Told → D → Type 0) (seen : D → DeskSeen) (d0 : D) (s0 : SessionSeen) (writes : List Path) (path : Path) where
  abbrev shown : Bool
  shown = is_some (body_shown s0 1)

  pub begins : MayWalk (seen d0) s0 → OnWay called seen d0 s0 writes path 0 d0 s0 (root_met s0)
  begins may = record {
    more = [];
    way = record { made = refl; took = record { same = refl; indexed = λ n i. i }; as_lent = λ f i. absurd i; lends = same_seen (seen d0); busy = λ n kind holder i. absurd i; lib = refl; sizes = refl; root = refl; creds = refl; others = λ n kind holder i. absurd i };
    may = may;
    met = record { root = λ u. refl; met = λ nodes rows p. root_is_met (seen d0) s0 may nodes rows p };
    steps = λ nodes rows p. record { walks = refl; asks = refl; names = []; is_at = refl; passed = refl };
    reading = λ none. refl;
  }

  module _ (i : ℕ) (d : D) (s : SessionSeen) (at : Met) (o : OnWay called seen d0 s0 writes path i d s at) where
    pub ends_at : length path ≤ i → Walked called seen d0 s0 (Walks (seen d) s0 writes path (At at.ino)) (At at.ino) d s
    ends_at le = record {
      more = o.more;
      last = [];
      need = [];
      way = o.way;
      ends = (refl, refl);
      shown = λ nodes rows p.
          let st = o.steps nodes rows p in
          let now : Nodes = batch_nodes (seen d).creds s.calls nodes in
          let none : drop i path ≡ [] = drop_of_length-le path le in
          record {
            walks = sym st.walks ∙ ap (walk_from now (seen d).creds writes (take i path) at.ino) none;
            asks =
                st.asks ∙ ap (λ q. map need_of o.more ++ asked_beside (served_by s0) (map need_of o.more) (needs_from now (seen d).creds shown writes (take i path) at.ino q)) none;
          };
    }

    abbrev need : Need
    need = need_at writes (take i path)

    module _ (lt : i < length path) (z : List ℕ) (d' : D) (s' : SessionSeen) where
      -- what was so when the step began is so of the desk and the session as they are then
      again : (more : List Lease) (last : List Call) → Way called seen d s more last d' s' → (nodes : Nodes) (rows : List (Option Row)) → ArePossible (seen d') s'.parcel s'.reads nodes rows
          → StepAt (is_some (body_shown s0 1)) s0 writes path i o.more at.ino (seen d').creds (batch_nodes (seen d').creds s'.calls nodes)
      again more last w nodes rows p =
          shown_still (seen d) (seen d') s s' more w.took w.sizes w.root w.creds (λ k now. StepAt (is_some (body_shown s0 1)) s0 writes path i o.more at.ino k now) nodes
          (o.steps nodes rows (possible_before (seen d) (seen d') s s' more w.took nodes rows w.sizes w.root p))

      met_then : (more : List Lease) (last : List Call) → Way called seen d s more last d' s' → IsMetIn (is_some (body_shown s0 1)) (seen d') s' at
      met_then more last w = met_still (seen d) (seen d') s s' more w.took w.sizes w.root w.creds (is_some (body_shown s0 1)) at o.met

      -- one way more
      module _ (result : Result (Unit {0}) WalkEnd) (e : Entered called seen d s at need result d' s') where
        older : (n : ℕ) (kind : GrantKind) (holder : Holder) → In {X = Call} (record { ask = Grant n kind; told = NotLent (BusyGrant holder) }) e.last → IsOwnBusy s n kind → IsOwnBusy s0 n kind
        older n kind holder j busy =
            let b = e.busy n kind holder j in
            let c = b.2.moment in
            let p = moment_possible (seen d) s o.may.on c in
            let st = o.steps c.nodes c.rows p in
            let here_at : IsNeedAt (batch_nodes (seen d).creds s.calls c.nodes) (seen d).creds shown writes (record { ino = at.ino; kind = kind_for need }) =
            record { names = st.names; at = st.is_at; kind = ap (λ q. kind_for (need_at writes q)) (sym st.passed) } in
            let agree : (l : Lease) → In l o.more → file_of l ≡ at.ino → kind_lent l ≡ kind_for need = kinds_agree (seen d) s s0 o.may shown writes path o.more at.ino (kind_for need) c.nodes c.rows p
            (asked_beside (served_by s0) (map need_of o.more) (needs_from (batch_nodes (seen d).creds s.calls c.nodes) (seen d).creds shown writes (take i path) at.ino (drop i path))) st.asks here_at in
            let same : IsOwnBusy s at.ino (kind_for need) = subst (λ q. IsOwnBusy s q (kind_for need)) b.0 (subst (λ q. IsOwnBusy s n q) b.1 busy) in
            let old : IsOwnBusy s0 at.ino (kind_for need) = own_older s0 s o.more at.ino (kind_for need) o.way.took (never_hold need) agree same in
            subst (λ q. IsOwnBusy s0 q kind) (sym b.0) (subst (λ q. IsOwnBusy s0 at.ino q) (sym b.1) old)

        way_then : Way called seen d0 s0 (o.more ++ e.more) e.last d' s'
        way_then = way_after called seen d0 d d' s0 s s' o.more e.more e.last o.way e.way older

        serve : serves s at.ino (kind_for need) ≡ (serves s0 at.ino (kind_for need) || list_any (serves_need (record { ino = at.ino; kind = kind_for need })) (map need_of o.more))
        serve = served_more s0 s o.more o.way.took (way_numbered called seen d0 d s0 s o.more [] o.way) at.ino (kind_for need)

      module _ (end : WalkEnd) (e : Entered called seen d s at need (Err end) d' s') where
        -- a walk that is broken off has asked the first of its needs
        off : (now : Nodes) (creds : Creds) (st : StepAt (is_some (body_shown s0 1)) s0 writes path i o.more at.ino creds now)
            → (rest : List Needed) × (asked (served_by s) (here (is_some (body_shown s0 1)) need now creds at.ino) ≡ (map need_of e.more ++ e.needs) ++ rest)
            → (rest : List Needed) × (asked (served_by s0) (walk_needs now creds (is_some (body_shown s0 1)) writes path) ≡ (map need_of (o.more ++ e.more) ++ e.needs) ++ rest)
        off now creds st en =
            let r0 : Reached = enter now creds need at.ino in
            let F : ℕ → List Needed = later now creds shown writes path i at.ino z lt in
            let M : List Needed = map need_of o.more in
            let fa = first_asked shown at.ino (kind_for need) s0 s M (serve (Err end) e) r0 F in (
              en.0 ++ fa.0,
              st.asks
                  ∙ ap (λ q. M ++ q)
                  (ap (asked_beside (served_by s0) M) (needs_are now creds shown writes path i at.ino z lt) ∙ fa.1 ∙ ap (λ q. q ++ fa.0) (asked_here shown at.ino (kind_for need) s0 s M (serve (Err end) e) r0 ∙ en.1))
                  ∙ regroup_more o.more e.more e.needs en.0 fa.0,
            )

        broken : (nodes : Nodes) (st : StepAt (is_some (body_shown s0 1)) s0 writes path i o.more at.ino (seen d').creds (batch_nodes (seen d').creds s'.calls nodes)) (q : WalkEnd)
            → Enters (is_some (body_shown s0 1)) need (batch_nodes (seen d').creds s'.calls nodes) (seen d').creds s at.ino (Err q) (map need_of e.more ++ e.needs)
            → Walks (seen d') s0 writes path q (map need_of (o.more ++ e.more) ++ e.needs) (batch_nodes (seen d').creds s'.calls nodes)
        broken nodes st (At n) en = absurd en
        broken nodes st (Reply r) en =
            let now : Nodes = batch_nodes (seen d').creds s'.calls nodes in
            let creds : Creds = (seen d').creds in
            let r0 : Reached = enter now creds need at.ino in
            let F : ℕ → List Needed = later now creds shown writes path i at.ino z lt in
            let M : List Needed = map need_of o.more in
            let same : entered_needs shown at.ino (kind_for need) r0 F ≡ entered_needs shown at.ino (kind_for need) r0 (λ k. []) =
            ap (λ x. entered_needs shown at.ino (kind_for need) x F) en.0 ∙ err_needs shown at.ino (kind_for need) r F ∙ sym (ap (λ x. entered_needs shown at.ino (kind_for need) x (λ k. [])) en.0) in
            record {
              walks = sym st.walks ∙ stopped now creds shown writes path i at.ino z lt r en.0;
              asks =
                  st.asks
                  ∙ ap (λ q. M ++ q)
                  (ap (asked_beside (served_by s0) M) (needs_are now creds shown writes path i at.ino z lt ∙ same) ∙ asked_here shown at.ino (kind_for need) s0 s M (serve (Err end) e) r0 ∙ en.1)
                  ∙ regroup o.more e.more e.needs;
            }
        broken nodes st (Busy h) en = record { walks = tt; asks = off (batch_nodes (seen d').creds s'.calls nodes) (seen d').creds st en }
        broken nodes st NoMemory en = record { walks = tt; asks = off (batch_nodes (seen d').creds s'.calls nodes) (seen d').creds st en }

        pub stopped_walk : Walked called seen d0 s0 (Walks (seen d') s0 writes path end) end d' s'
        stopped_walk = record {
          more = o.more ++ e.more;
          last = e.last;
          need = e.needs;
          way = way_then (Err end) e;
          ends = e.ends.1;
          shown = λ nodes rows p. broken nodes (again e.more e.last e.way nodes rows p) end (e.enters shown nodes rows p ((met_then e.more e.last e.way).met nodes rows p));
        }

      module _ (e : Entered called seen d s at need (Ok tt) d' s') (k : ℕ) where
        abbrev s2 : SessionSeen
        s2 = record s' { finds = k }

        way_on : Way called seen d0 s0 (o.more ++ e.more) [] d' (record s' { finds = k })
        way_on =
            let w : Way called seen d0 s0 (o.more ++ e.more) [] d' s' = subst (λ l. Way called seen d0 s0 (o.more ++ e.more) l d' s') e.ends.0 (way_then (Ok tt) e) in
            record {
              made = w.made;
              took = record { same = ap (λ (x : SessionSeen). record x { finds = k }) w.took.same; indexed = w.took.indexed };
              as_lent = w.as_lent;
              lends = w.lends;
              busy = w.busy;
              lib = w.lib;
              sizes = w.sizes;
              root = w.root;
              creds = w.creds;
              others = w.others;
            }

        module _ (nodes : Nodes) (rows : List (Option Row)) (p : ArePossible (seen d') s'.parcel s'.reads nodes rows) where
          abbrev nw : Nodes
          nw = batch_nodes (seen d').creds s'.calls nodes

          st : StepAt (is_some (body_shown s0 1)) s0 writes path i o.more at.ino (seen d').creds (batch_nodes (seen d').creds s'.calls nodes)
          st = again e.more e.last e.way nodes rows p

          entering : Enters (is_some (body_shown s0 1)) need (batch_nodes (seen d').creds s'.calls nodes) (seen d').creds s at.ino (Ok tt) (map need_of e.more ++ e.needs)
          entering = e.enters shown nodes rows p ((met_then e.more e.last e.way).met nodes rows p)

          -- the grant of the directory is asked, or served
          those : asked (served_by s) (record { ino = at.ino; kind = kind_for need } ∷ []) ≡ map need_of e.more
          those =
              sym (ap (λ x. asked (served_by s) (entered_needs shown at.ino (kind_for need) x (λ q. []))) entering.0) ∙ entering.1
              ∙ ap (λ q. map need_of e.more ++ q) e.ends.1 ∙ append-nil (map need_of e.more)

          -- the name isn't there
          lost_at : find_named (batch_nodes (seen d').creds s'.calls nodes) at.ino (get_or path i z) ≡ None → Walks (seen d') s0 writes path (Reply NotFound) (map need_of (o.more ++ e.more) ++ []) (batch_nodes (seen d').creds s'.calls nodes)
          lost_at q = record {
            walks = sym st.walks ∙ lost nw (seen d').creds shown writes path i at.ino z lt at.ino entering.0 q;
            asks =
                st.asks
                ∙ ap (λ v. map need_of o.more ++ v)
                (ap (asked_beside (served_by s0) (map need_of o.more)) (needs_lost nw (seen d').creds shown writes path i at.ino z lt at.ino entering.0 q)
                ∙ asked_after shown at.ino (kind_for need) s0 s (map need_of o.more) (serve (Ok tt) e) [] (map need_of e.more) those)
                ∙ regroup o.more e.more [];
          }

          -- it is: the walk goes on there
          goes_on : (child : ℕ) → find_named (batch_nodes (seen d').creds s'.calls nodes) at.ino (get_or path i z) ≡ Some child
              → StepAt (is_some (body_shown s0 1)) s0 writes path (i + 1) (o.more ++ e.more) child (seen d').creds (batch_nodes (seen d').creds s'.calls nodes)
          goes_on child q =
              let ns : List Needed = needs_from nw (seen d').creds shown writes (take (i + 1) path) child (drop (i + 1) path) in
              let M : List Needed = map need_of o.more in
              let E : List Needed = map need_of e.more in
              record {
                walks = onward nw (seen d').creds shown writes path i at.ino z lt at.ino child entering.0 q ∙ st.walks;
                asks =
                    st.asks
                    ∙ ap (λ v. M ++ v)
                    (ap (asked_beside (served_by s0) M) (needs_onward nw (seen d').creds shown writes path i at.ino z lt at.ino child entering.0 q)
                    ∙ asked_after shown at.ino (kind_for need) s0 s M (serve (Ok tt) e) ns E those)
                    ∙ sym (append_assoc M E (asked_beside (served_by s0) (M ++ E) ns))
                    ∙ ap (λ v. v ++ asked_beside (served_by s0) v ns) (sym (map-append need_of o.more e.more));
                names = get_or path i z ∷ st.names;
                is_at = (at.ino, st.is_at, q);
                passed = ap (λ l. l ++ get_or path i z ∷ []) st.passed ∙ sym (take-suc path i z lt) ∙ ap (λ j. take j path) (let w : suc i ≡ i + 1 = omega arith in w);
              }

        pub missed_walk : LooksUp (seen d') (record s' { finds = k }) at.ino (get_or path i z) None → Walked called seen d0 s0 (Walks (seen d') s0 writes path (Reply NotFound)) (Reply NotFound) d' (record s' { finds = k })
        missed_walk none = record {
          more = o.more ++ e.more;
          last = [];
          need = [];
          way = way_on;
          ends = inl (refl, refl);
          shown = λ nodes rows p. lost_at nodes rows p (none nodes rows p);
        }

        pub found_walk : (child : Met) → LooksUp (seen d') (record s' { finds = k }) at.ino (get_or path i z) (Some child) → OnWay called seen d0 s0 writes path (i + 1) d' (record s' { finds = k }) child
        found_walk child l = record {
          more = o.more ++ e.more;
          way = way_on;
          may = may_but (seen d') s' s'.indexed k s'.room e.may;
          met = l.0 shown;
          steps = λ nodes rows p. goes_on nodes rows p child.ino (l.1 nodes rows p);
          reading = λ none. e.reading (ap (λ ws. need_at ws (take i path)) none) ∙ o.reading none;
        }

-- ---- into a directory

-- where it ends, by how the directory is entered
abbrev pub ended : Met → Result (Unit {0}) WalkEnd → WalkEnd
ended m (Ok done) = At m.ino
ended m (Err end) = end

regroup_two : (m1 m2 : List Lease) (need rest : List Needed) → map need_of m1 ++ ((map need_of m2 ++ need) ++ rest) ≡ (map need_of (m1 ++ m2) ++ need) ++ rest
regroup_two m1 m2 need rest = sym (append_assoc (map need_of m1) (map need_of m2 ++ need) rest) ∙ ap (λ q. q ++ rest) (regroup m1 m2 need)

module _ {D : Type 0} (called : D → Ask → Told → D → Type 0) (seen : D → DeskSeen) (d0 : D) (s0 : SessionSeen) (writes : List Path) (path : Path) where
  -- what a walk into a directory asks, by where the walk to it comes
  into_by : (creds : Creds) (now : Nodes) (shown : Bool) (r : Reached) → walk now creds writes path ≡ r
      → asked (served_by s0) (into_needs now creds shown writes path)
      ≡ asked (served_by s0) (walk_needs now creds shown writes path)
      ++ asked_beside (served_by s0) (asked (served_by s0) (walk_needs now creds shown writes path)) (reached_by r (λ n. here shown (need_at writes path) now creds n))
  into_by creds now shown r e =
      ap (λ q. asked (served_by s0) (walk_needs now creds shown writes path ++ reached_by q (λ n. here shown (need_at writes path) now creds n))) e
      ∙ asked_beside-append (served_by s0) (walk_needs now creds shown writes path) (reached_by r (λ n. here shown (need_at writes path) now creds n)) []

  -- a walk that is refused enters nothing
  module _ (d : D) (s : SessionSeen) (end : WalkEnd) (w : Walked called seen d0 s0 (Walks (seen d) s0 writes path end) end d s) where
    further : (now : Nodes) (these : List Needed) → (rest : List Needed) × (asked (served_by s0) (walk_needs now (seen d).creds (is_some (body_shown s0 1)) writes path) ≡ these ++ rest)
        → (rest : List Needed) × (asked (served_by s0) (into_needs now (seen d).creds (is_some (body_shown s0 1)) writes path) ≡ these ++ rest)
    further now these x =
        let r : Reached = walk now (seen d).creds writes path in
        let front : List Needed = asked (served_by s0) (walk_needs now (seen d).creds (is_some (body_shown s0 1)) writes path) in
        let tail : List Needed = asked_beside (served_by s0) front (reached_by r (λ n. here (is_some (body_shown s0 1)) (need_at writes path) now (seen d).creds n)) in
        (x.0 ++ tail, into_by (seen d).creds now (is_some (body_shown s0 1)) r refl ∙ ap (λ l. l ++ tail) x.1 ∙ append_assoc these x.0 tail)

    into_stopped : (now : Nodes) (q : WalkEnd) (these : List Needed) → IsStopped q → Walks (seen d) s0 writes path q these now → WalksInto (seen d) s0 writes path q these now
    into_stopped now (At n) these is x = absurd is
    into_stopped now (Reply r) these is x = record {
      walks = ap (λ z. and_then z (enter now (seen d).creds (need_at writes path))) x.walks;
      asks = into_by (seen d).creds now (is_some (body_shown s0 1)) (Err r) x.walks ∙ append-nil (asked (served_by s0) (walk_needs now (seen d).creds (is_some (body_shown s0 1)) writes path)) ∙ x.asks;
    }
    into_stopped now (Busy h) these is x = record { walks = tt; asks = further now these x.asks }
    into_stopped now NoMemory these is x = record { walks = tt; asks = further now these x.asks }

    pub stopped_before : IsStopped end → Walked called seen d0 s0 (WalksInto (seen d) s0 writes path end) end d s
    stopped_before is = record {
      more = w.more;
      last = w.last;
      need = w.need;
      way = w.way;
      ends = w.ends;
      shown = λ nodes rows p. into_stopped (batch_nodes (seen d).creds s.calls nodes) end (map need_of w.more ++ w.need) is (w.shown nodes rows p);
    }

  -- one that comes to it enters it
  module _ (d : D) (s : SessionSeen) (m : Met) (w : Walked called seen d0 s0 (Walks (seen d) s0 writes path (At m.ino)) (At m.ino) d s) (may : MayWalk (seen d) s) (met : IsMetIn (is_some (body_shown s0 1)) (seen d) s m)
      (d' : D) (s' : SessionSeen) (result : Result (Unit {0}) WalkEnd) (e : Entered called seen d s m (need_at writes path) result d' s') where
    abbrev own_need : Need
    own_need = need_at writes path

    abbrev sh : Bool
    sh = is_some (body_shown s0 1)

    way_to : Way called seen d0 s0 w.more [] d s
    way_to = subst (λ l. Way called seen d0 s0 w.more l d s) w.ends.0 w.way

    -- where it came, and what was asked
    abbrev CameTo : Creds → Nodes → Type 0
    CameTo k now = (walk now k writes path ≡ Ok m.ino) × (asked (served_by s0) (walk_needs now k (is_some (body_shown s0 1)) writes path) ≡ map need_of w.more)

    came : (nodes : Nodes) (rows : List (Option Row)) → ArePossible (seen d) s.parcel s.reads nodes rows → CameTo (seen d).creds (batch_nodes (seen d).creds s.calls nodes)
    came nodes rows p = (let x = w.shown nodes rows p in (x.walks, x.asks ∙ ap (λ l. map need_of w.more ++ l) w.ends.1 ∙ append-nil (map need_of w.more)))

    older_into : (n : ℕ) (kind : GrantKind) (holder : Holder) → In {X = Call} (record { ask = Grant n kind; told = NotLent (BusyGrant holder) }) e.last → IsOwnBusy s n kind → IsOwnBusy s0 n kind
    older_into n kind holder j busy =
        let b = e.busy n kind holder j in
        let c = b.2.moment in
        let p = moment_possible (seen d) s may.on c in
        let now : Nodes = batch_nodes (seen d).creds s.calls c.nodes in
        let x = came c.nodes c.rows p in
        let at = walk_at now (seen d).creds sh writes path m.ino x.0 in
        let here_at : IsNeedAt now (seen d).creds sh writes (record { ino = m.ino; kind = kind_for own_need }) = record { names = at.0; at = at.1; kind = ap (λ q. kind_for (need_at writes q)) (sym at.2) } in
        let agree : (l : Lease) → In l w.more → file_of l ≡ m.ino → kind_lent l ≡ kind_for own_need =
        kinds_agree (seen d) s s0 may sh writes path w.more m.ino (kind_for own_need) c.nodes c.rows p [] (x.1 ∙ sym (append-nil (map need_of w.more))) here_at in
        let same : IsOwnBusy s m.ino (kind_for own_need) = subst (λ q. IsOwnBusy s q (kind_for own_need)) b.0 (subst (λ q. IsOwnBusy s n q) b.1 busy) in
        let old : IsOwnBusy s0 m.ino (kind_for own_need) = own_older s0 s w.more m.ino (kind_for own_need) way_to.took (never_hold own_need) agree same in
        subst (λ q. IsOwnBusy s0 q kind) (sym b.0) (subst (λ q. IsOwnBusy s0 m.ino q) (sym b.1) old)

    way_into : Way called seen d0 s0 (w.more ++ e.more) e.last d' s'
    way_into = way_after called seen d0 d d' s0 s s' w.more e.more e.last way_to e.way older_into

    -- what is asked of it all
    all_asked : (creds : Creds) (now : Nodes) → CameTo creds now → asked (served_by s0) (into_needs now creds (is_some (body_shown s0 1)) writes path) ≡ map need_of w.more ++ asked (served_by s) (here (is_some (body_shown s0 1)) own_need now creds m.ino)
    all_asked creds now x =
        let serve = served_more s0 s w.more way_to.took (way_numbered called seen d0 d s0 s w.more [] way_to) m.ino (kind_for own_need) in
        into_by creds now sh (Ok m.ino) x.0
        ∙ ap (λ g. g ++ asked_beside (served_by s0) g (here sh own_need now creds m.ino)) x.1
        ∙ ap (λ g. map need_of w.more ++ g) (asked_here sh m.ino (kind_for own_need) s0 s (map need_of w.more) serve (enter now creds own_need m.ino))

    into : (now : Nodes) → CameTo (seen d').creds now → (r : Result (Unit {0}) WalkEnd) → Enters (is_some (body_shown s0 1)) own_need now (seen d').creds s m.ino r (map need_of e.more ++ e.needs)
        → WalksInto (seen d') s0 writes path (ended m r) (map need_of (w.more ++ e.more) ++ e.needs) now
    into now x (Ok done) en = record {
      walks = ap (λ z. and_then z (enter now (seen d').creds own_need)) x.0 ∙ en.0;
      asks = all_asked (seen d').creds now x ∙ ap (λ g. map need_of w.more ++ g) en.1 ∙ regroup w.more e.more e.needs;
    }
    into now x (Err (Reply q)) en = record {
      walks = ap (λ z. and_then z (enter now (seen d').creds own_need)) x.0 ∙ en.0;
      asks = all_asked (seen d').creds now x ∙ ap (λ g. map need_of w.more ++ g) en.1 ∙ regroup w.more e.more e.needs;
    }
    into now x (Err (At n)) en = absurd en
    into now x (Err (Busy h)) en = record { walks = tt; asks = (en.0, all_asked (seen d').creds now x ∙ ap (λ g. map need_of w.more ++ g) en.1 ∙ regroup_two w.more e.more e.needs en.0) }
    into now x (Err NoMemory) en = record { walks = tt; asks = (en.0, all_asked (seen d').creds now x ∙ ap (λ g. map need_of w.more ++ g) en.1 ∙ regroup_two w.more e.more e.needs en.0) }

    into_ends : (r : Result (Unit {0}) WalkEnd) → EnteringEnds r e.last e.needs → EndsBy (ended m r) e.last e.needs
    into_ends (Ok done) q = q
    into_ends (Err end) q = q.1

    pub walked_into : Walked called seen d0 s0 (WalksInto (seen d') s0 writes path (ended m result)) (ended m result) d' s'
    walked_into = record {
      more = w.more ++ e.more;
      last = e.last;
      need = e.needs;
      way = way_into;
      ends = into_ends result e.ends;
      shown = λ nodes rows p.
          into (batch_nodes (seen d').creds s'.calls nodes)
          (shown_still (seen d) (seen d') s s' e.more e.way.took e.way.sizes e.way.root e.way.creds (λ k now. CameTo k now) nodes
          (came nodes rows (possible_before (seen d) (seen d') s s' e.more e.way.took nodes rows e.way.sizes e.way.root p)))
          result
          (e.enters sh nodes rows p ((met_still (seen d) (seen d') s s' e.more e.way.took e.way.sizes e.way.root e.way.creds sh m met).met nodes rows p));
    }

    pub met_into : IsMetIn (is_some (body_shown s0 1)) (seen d') s' m
    met_into = met_still (seen d) (seen d') s s' e.more e.way.took e.way.sizes e.way.root e.way.creds sh m met
