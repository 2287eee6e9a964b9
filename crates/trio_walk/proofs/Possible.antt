-- What stays true as a session takes more leases, and its desk goes on.
use Rattle.trio_walk.proofs.Words.{◌++◌, ◌∙◌, ◌∷◌, ◌≡◌, AboveIsOpen, ArePossible, Ask, BusyGrant, Call, Calls, DeskSeen, Grant, GrantKind, HasFile, HasRights, Hold, HoldLease, HoldParts, Holder, In, In-cases, In-left, In-right, IsFreshLease, IsLeaseFor, IsLentNow, IsOn, IsOwnBusy, Lease, LentFile, LibNo, LibOut, List, Node, Nodes, NotLent, Option, Parcel, Read, ReadLease, Room, Row, SameBut, SameSeen, SessionSeen, Shown, Sizes, Some, Told, TookLeases, Way, Write, WriteLease, [], ap, append_assoc, batch_nodes, entries_shown, false, file_of, files_out, flat_map, hold_numbers, inl, inr, kind_lent, lent_call, lent_files, map, map-append, node_at, numbers_of_file, option_map, pages_out, refl, serves, subst, sym, with_lease, with_leases, ℕ}
use Rattle.trio_desk.specs.Out.{OutAlike, with_lease as out_with}
use Rattle.trio_desk.specs.Refusals.{HasMoment}
use Rattle.trio_laws.proofs.session.Again.{possible_with_less}
use Rattle.trio_walk.specs.Walks.{Lends}

-- ---- what is possible

between : (x : Shown) (xs ys zs : List Shown) → In x (xs ++ zs) → In x ((xs ++ ys) ++ zs)
between x xs ys zs i = elim (In-cases x xs zs i) [ inl a ↦ In-left x (xs ++ ys) zs (In-left x xs ys a) | inr b ↦ In-right x (xs ++ ys) zs b ]

behind : (x : Shown) (xs ys zs : List Shown) → In x (xs ++ ys) → In x (xs ++ (ys ++ zs))
behind x xs ys zs i = elim (In-cases x xs ys i) [ inl a ↦ In-left x xs (ys ++ zs) a | inr b ↦ In-right x xs (ys ++ zs) (In-left x ys zs b) ]

-- with one lease less
pub possible_one : (desk : DeskSeen) (s : SessionSeen) (lease : Lease) (nodes : Nodes) (rows : List (Option Row))
    → ArePossible desk (with_lease s lease).parcel (with_lease s lease).reads nodes rows → ArePossible desk s.parcel s.reads nodes rows
possible_one desk s (WriteLease f) nodes rows p =
    possible_with_less desk s.parcel (with_lease s (WriteLease f)).parcel s.reads s.reads
    (λ x i. subst (λ l. In x (l ++ s.reads)) (sym (map-append (λ (y : LentFile). y.lent) s.parcel.writes (f ∷ []))) (between x (lent_files s.parcel.writes) (f.lent ∷ []) s.reads i))
    (λ k i. i) (λ n i. i) nodes rows p
possible_one desk s (ReadLease f) nodes rows p =
    possible_with_less desk s.parcel s.parcel s.reads (s.reads ++ f ∷ []) (λ x i. behind x (lent_files s.parcel.writes) s.reads (f ∷ []) i) (λ k i. i) (λ n i. i) nodes rows p
possible_one desk s (HoldLease h) nodes rows p =
    possible_with_less desk s.parcel (with_lease s (HoldLease h)).parcel s.reads s.reads (λ x i. i) (λ k i. In-left k s.parcel.holds (h ∷ []) i) (λ n i. i) nodes rows p

possible_many : (desk : DeskSeen) (more : List Lease) (s : SessionSeen) (nodes : Nodes) (rows : List (Option Row))
    → ArePossible desk (with_leases s more).parcel (with_leases s more).reads nodes rows → ArePossible desk s.parcel s.reads nodes rows
possible_many desk [] s nodes rows p = p
possible_many desk (lease ∷ more) s nodes rows p = possible_one desk s lease nodes rows (possible_many desk more (with_lease s lease) nodes rows p)

-- at another desk of the same image
pub possible_desk : (desk desk' : DeskSeen) (b : Parcel) (back : List Shown) (nodes : Nodes) (rows : List (Option Row))
    → desk'.sizes ≡ desk.sizes → desk'.root ≡ desk.root → ArePossible desk' b back nodes rows → ArePossible desk b back nodes rows
possible_desk desk desk' b back nodes rows sizes root p = record {
  tree = p.tree;
  agrees = record {
    root_is = subst (λ r. HasRights r (node_at nodes 1)) root p.agrees.root_is;
    files = λ f i. subst (λ z. HasFile z nodes f) sizes (p.agrees.files f i);
    holds = p.agrees.holds;
  };
  none = p.none;
  same = p.same;
  places = λ f l i e. p.places f l i (subst (λ z. In l (entries_shown z f)) (sym sizes) e);
}

-- ---- what leases leave

-- the same library, calls, files that were made, allotted pages and numbers, and indexes
pub record Stays (s s' : SessionSeen) : Type 0 where
  pub lib : s'.lib ≡ s.lib
  pub calls : s'.calls ≡ s.calls
  pub made : s'.made ≡ s.made
  pub indexed : s'.indexed ≡ s.indexed
  pub pages : s'.parcel.pages ≡ s.parcel.pages
  pub inodes : s'.parcel.inodes ≡ s.parcel.inodes

stays_one : (s : SessionSeen) (lease : Lease) → Stays s (with_lease s lease)
stays_one s (WriteLease f) = record { lib = refl; calls = refl; made = refl; indexed = refl; pages = refl; inodes = refl }
stays_one s (ReadLease f) = record { lib = refl; calls = refl; made = refl; indexed = refl; pages = refl; inodes = refl }
stays_one s (HoldLease h) = record { lib = refl; calls = refl; made = refl; indexed = refl; pages = refl; inodes = refl }

pub stays_many : (more : List Lease) (s : SessionSeen) → Stays s (with_leases s more)
stays_many [] s = record { lib = refl; calls = refl; made = refl; indexed = refl; pages = refl; inodes = refl }
stays_many (lease ∷ more) s =
    let a = stays_one s lease in
    let b = stays_many more (with_lease s lease) in
    record { lib = b.lib ∙ a.lib; calls = b.calls ∙ a.calls; made = b.made ∙ a.made; indexed = b.indexed ∙ a.indexed; pages = b.pages ∙ a.pages; inodes = b.inodes ∙ a.inodes }

-- room, indexes and look-ups change nothing of what leases make
leases_but : (more : List Lease) (x : SessionSeen) (i : List ℕ) (k : ℕ) (r : Room) → with_leases (record x { indexed = i; finds = k; room = r }) more ≡ record (with_leases x more) { indexed = i; finds = k; room = r }
leases_but [] x i k r = refl
leases_but (WriteLease f ∷ more) x i k r = leases_but more (with_lease x (WriteLease f)) i k r
leases_but (ReadLease f ∷ more) x i k r = leases_but more (with_lease x (ReadLease f)) i k r
leases_but (HoldLease h ∷ more) x i k r = leases_but more (with_lease x (HoldLease h)) i k r

leases_append : (more1 more2 : List Lease) (s : SessionSeen) → with_leases s (more1 ++ more2) ≡ with_leases (with_leases s more1) more2
leases_append [] more2 s = refl
leases_append (lease ∷ more1) more2 s = leases_append more1 more2 (with_lease s lease)

module _ (desk desk' : DeskSeen) (s s' : SessionSeen) (more : List Lease) (took : TookLeases s more s') where
  pub possible_before : (nodes : Nodes) (rows : List (Option Row)) → desk'.sizes ≡ desk.sizes → desk'.root ≡ desk.root
      → ArePossible desk' s'.parcel s'.reads nodes rows → ArePossible desk s.parcel s.reads nodes rows
  possible_before nodes rows sizes root p =
      possible_many desk more s nodes rows
      (possible_desk desk desk' (with_leases s more).parcel (with_leases s more).reads nodes rows sizes root
      (subst (λ (x : SessionSeen). ArePossible desk' x.parcel x.reads nodes rows) took.same p))

  pub calls_same : s'.calls ≡ s.calls
  calls_same = ap (λ (x : SessionSeen). x.calls) took.same ∙ (stays_many more s).calls

  pub made_same : s'.made ≡ s.made
  made_same = ap (λ (x : SessionSeen). x.made) took.same ∙ (stays_many more s).made

  pub lib_same : s'.lib ≡ s.lib
  lib_same = ap (λ (x : SessionSeen). x.lib) took.same ∙ (stays_many more s).lib

-- all that is out is in hand: so the nodes of a moment are possible
pub moment_possible : (desk : DeskSeen) (s : SessionSeen) → IsOn desk s → (m : HasMoment desk) → ArePossible desk s.parcel s.reads m.nodes m.rows
moment_possible desk s on m =
    let files : lent_files s.parcel.writes ++ s.reads ≡ desk.out.writes ++ desk.out.reads =
    ap (λ w. w ++ s.reads) (sym on.out.writes) ∙ ap (λ r. desk.out.writes ++ r) (sym on.out.reads) in
    record {
      tree = m.tree;
      agrees = record {
        root_is = m.agrees.root_is;
        files = λ f i. m.agrees.files f (subst (λ xs. In f xs) files i);
        holds = λ h i. m.agrees.holds h (subst (λ xs. In h xs) (sym on.out.holds) i);
      };
      none = λ n i. m.none n ((on.out.numbers n).1 i);
      same = m.same;
      places = λ f l i e. m.places f l (subst (λ xs. In f xs) files i) e;
    }

-- ---- what is taken

-- a session that took these leases, and perhaps indexes and room
pub took_of : (s s' : SessionSeen) (more : List Lease) → SameBut (with_leases s more) s' → TookLeases s more s'
took_of s s' more b =
    let x : SessionSeen = with_leases s more in
    let H : ℕ → SessionSeen = λ q. record x { indexed = s'.indexed; finds = q; room = s'.room } in
    record {
      same = b.same ∙ ap H (sym (ap (λ (y : SessionSeen). y.finds) b.same));
      indexed = λ n i. b.indexed n (subst (λ l. In n l) (sym (stays_many more s).indexed) i);
    }

-- one after the other
pub took_more : (s s1 s2 : SessionSeen) (more1 more2 : List Lease) → TookLeases s more1 s1 → TookLeases s1 more2 s2 → TookLeases s (more1 ++ more2) s2
took_more s s1 s2 more1 more2 a b =
    let H : SessionSeen → SessionSeen = λ x. record x { indexed = s2.indexed; finds = s2.finds; room = s2.room } in
    record {
      same =
          b.same
          ∙ ap (λ (x : SessionSeen). H (with_leases x more2)) a.same
          ∙ ap H (leases_but more2 (with_leases s more1) s1.indexed s1.finds s1.room)
          ∙ ap H (sym (leases_append more1 more2 s));
      indexed = λ n i. b.indexed n (a.indexed n i);
    }

-- ---- leases, one after another

-- room, indexes and look-ups change nothing of a lease that was lent
lent_but : (desk desk' : DeskSeen) (x : SessionSeen) (i : List ℕ) (k : ℕ) (r : Room) (lease : Lease) → IsLentNow desk (record x { indexed = i; finds = k; room = r }) lease desk' → IsLentNow desk x lease desk'
lent_but desk desk' x i k r lease l = record {
  seen = l.seen;
  fresh = l.fresh;
  on = on_but lease l.on;
  unserved = unserved_but (kind_lent lease) l.unserved;
  listed = λ h e. (let q = l.listed h e in record { directory = q.directory; opens = q.opens; lists = q.lists });
  above = l.above;
}
  where
    on_but : (y : Lease) → IsOn desk' (with_lease (record x { indexed = i; finds = k; room = r }) y) → IsOn desk' (with_lease x y)
    on_but (WriteLease f) o = record { lib = o.lib; creds = o.creds; out = o.out; writes = o.writes; reads = o.reads; core = o.core }
    on_but (ReadLease f) o = record { lib = o.lib; creds = o.creds; out = o.out; writes = o.writes; reads = o.reads; core = o.core }
    on_but (HoldLease h) o = record { lib = o.lib; creds = o.creds; out = o.out; writes = o.writes; reads = o.reads; core = o.core }

    unserved_but : (q : GrantKind) → serves (record x { indexed = i; finds = k; room = r }) (file_of lease) q ≡ false → serves x (file_of lease) q ≡ false
    unserved_but Read e = e
    unserved_but Write e = e
    unserved_but Hold e = e

lends_but : (more : List Lease) (desk desk' : DeskSeen) (x : SessionSeen) (i : List ℕ) (k : ℕ) (r : Room) → Lends desk (record x { indexed = i; finds = k; room = r }) more desk' → Lends desk x more desk'
lends_but [] desk desk' x i k r l = l
lends_but (WriteLease f ∷ more) desk desk' x i k r l = (l.0, lent_but desk l.0 x i k r (WriteLease f) l.1, lends_but more l.0 desk' (with_lease x (WriteLease f)) i k r l.2)
lends_but (ReadLease f ∷ more) desk desk' x i k r l = (l.0, lent_but desk l.0 x i k r (ReadLease f) l.1, lends_but more l.0 desk' (with_lease x (ReadLease f)) i k r l.2)
lends_but (HoldLease h ∷ more) desk desk' x i k r l = (l.0, lent_but desk l.0 x i k r (HoldLease h) l.1, lends_but more l.0 desk' (with_lease x (HoldLease h)) i k r l.2)

-- the same is out
files_alike : (a b : LibOut) → OutAlike a b → (n : ℕ) → In n (files_out a) → In n (files_out b)
files_alike a b o n i =
    let F : List Shown → List Shown → List HoldParts → List ℕ = λ w r h. map (λ (x : Shown). x.ino) w ++ map (λ (x : Shown). x.ino) r ++ hold_numbers h in
    subst (λ l. In n l) (ap (λ w. F w a.reads a.holds) o.writes ∙ ap (λ r. F b.writes r a.holds) o.reads ∙ ap (F b.writes b.reads) o.holds) i

pages_alike : (a b : LibOut) → OutAlike a b → (n : ℕ) → In n (pages_out a) → In n (pages_out b)
pages_alike a b o n i =
    elim (In-cases n (flat_map numbers_of_file a.writes) a.pages i) [
      | inl w ↦ In-left n (flat_map numbers_of_file b.writes) b.pages (subst (λ l. In n (flat_map numbers_of_file l)) o.writes w)
      | inr p ↦ In-right n (flat_map numbers_of_file b.writes) b.pages ((o.pages n).0 p)
    ]

alike_back : (a b : LibOut) → OutAlike a b → OutAlike b a
alike_back a b o = record { writes = sym o.writes; reads = sym o.reads; holds = sym o.holds; pages = λ n. ((o.pages n).1, (o.pages n).0); numbers = λ n. ((o.numbers n).1, (o.numbers n).0) }

alike_then : (a b c : LibOut) → OutAlike a b → OutAlike b c → OutAlike a c
alike_then a b c o p = record {
  writes = o.writes ∙ p.writes;
  reads = o.reads ∙ p.reads;
  holds = o.holds ∙ p.holds;
  pages = λ n. (λ i. (p.pages n).0 ((o.pages n).0 i), λ i. (o.pages n).1 ((p.pages n).1 i));
  numbers = λ n. (λ i. (p.numbers n).0 ((o.numbers n).0 i), λ i. (o.numbers n).1 ((p.numbers n).1 i));
}

lent_alike : (a b : LibOut) → OutAlike a b → (lease : Lease) → OutAlike (out_with a lease) (out_with b lease)
lent_alike a b o (WriteLease f) = record { writes = ap (λ l. l ++ f.lent ∷ []) o.writes; reads = o.reads; holds = o.holds; pages = o.pages; numbers = o.numbers }
lent_alike a b o (ReadLease f) = record { writes = o.writes; reads = ap (λ l. l ++ f ∷ []) o.reads; holds = o.holds; pages = o.pages; numbers = o.numbers }
lent_alike a b o (HoldLease h) = record { writes = o.writes; reads = o.reads; holds = ap (λ l. l ++ h ∷ []) o.holds; pages = o.pages; numbers = o.numbers }

-- a lease that is new is new where the same is out
fresh_alike : (lib : LibNo) (n : ℕ) (sizes : Sizes) (a b : LibOut) (lease : Lease) → OutAlike a b → IsFreshLease lib n sizes a lease → IsFreshLease lib n sizes b lease
fresh_alike lib n sizes a b lease o f = record { is = by lease f.is; new = λ i. f.new (files_alike b a (alike_back a b o) n i) }
  where
    by : (l : Lease) → IsLeaseFor lib n sizes a l → IsLeaseFor lib n sizes b l
    by (WriteLease g) q = record { lib = q.lib; ino = q.ino; as_lent = q.as_lent; well = q.well; apart = λ k i j. q.apart k i (pages_alike b a (alike_back a b o) k j) }
    by (ReadLease g) q = q
    by (HoldLease h) q = q

-- what was lent on one state of a desk was on another of the same
module _ (desk desk1 : DeskSeen) (e : SameSeen desk desk1) where
  lent_same : (s : SessionSeen) (lease : Lease) (desk2 : DeskSeen) → IsLentNow desk1 s lease desk2 → IsLentNow desk s lease desk2
  lent_same s lease desk2 l = record {
    seen = record {
      lib = l.seen.lib ∙ e.lib;
      creds = l.seen.creds ∙ e.creds;
      sizes = l.seen.sizes ∙ e.sizes;
      root = l.seen.root ∙ e.root;
      out = alike_then desk2.out (out_with desk1.out lease) (out_with desk.out lease) l.seen.out (lent_alike desk1.out desk.out e.out lease);
    };
    fresh =
        fresh_alike desk.lib (file_of lease) desk.sizes desk1.out desk.out lease e.out
        (subst (λ z. IsFreshLease desk.lib (file_of lease) z desk1.out lease) e.sizes (subst (λ k. IsFreshLease k (file_of lease) desk1.sizes desk1.out lease) e.lib l.fresh));
    on = l.on;
    unserved = l.unserved;
    listed = λ h q.
        let x = l.listed h q in
        record {
          directory = x.directory;
          opens = x.opens;
          lists = λ nodes rows p.
              subst (λ k. option_map (λ (y : Node). y.parent) (node_at (batch_nodes k s.calls nodes) h.ino) ≡ Some x.directory) e.creds
              (x.lists nodes rows (possible_desk desk1 desk s.parcel s.reads nodes rows (sym e.sizes) (sym e.root) p));
        };
    above = λ h q nodes rows p. subst (λ k. AboveIsOpen nodes k h.ino) e.creds (l.above h q nodes rows (possible_desk desk1 desk s.parcel s.reads nodes rows (sym e.sizes) (sym e.root) p));
  }

  same_then : (desk2 : DeskSeen) → SameSeen desk1 desk2 → SameSeen desk desk2
  same_then desk2 f = record {
    lib = f.lib ∙ e.lib;
    creds = f.creds ∙ e.creds;
    sizes = f.sizes ∙ e.sizes;
    root = f.root ∙ e.root;
    out = alike_then desk2.out desk1.out desk.out f.out e.out;
  }

  lends_same : (more : List Lease) (s : SessionSeen) (desk2 : DeskSeen) → Lends desk1 s more desk2 → Lends desk s more desk2
  lends_same [] s desk2 l = same_then desk2 l
  lends_same (lease ∷ more) s desk2 l = (l.0, lent_same s lease l.0 l.1, l.2)

lends_append : (more1 more2 : List Lease) (desk desk1 desk2 : DeskSeen) (s : SessionSeen) → Lends desk s more1 desk1 → Lends desk1 (with_leases s more1) more2 desk2 → Lends desk s (more1 ++ more2) desk2
lends_append [] more2 desk desk1 desk2 s a b = lends_same desk desk1 a more2 s desk2 b
lends_append (lease ∷ more1) more2 desk desk1 desk2 s a b = (a.0, a.1, lends_append more1 more2 a.0 desk1 desk2 (with_lease s lease) a.2 b)

pub same_seen : (desk : DeskSeen) → SameSeen desk desk
same_seen desk = record { lib = refl; creds = refl; sizes = refl; root = refl; out = record { writes = refl; reads = refl; holds = refl; pages = λ n. (λ i. i, λ i. i); numbers = λ n. (λ i. i, λ i. i) } }

module _ {D : Type 0} (called : D → Ask → Told → D → Type 0) where
  calls_after : (d d1 d2 : D) (more : List Lease) (cs : List Call) → Calls called d (map lent_call more ++ []) d1 → Calls called d1 cs d2 → Calls called d (map lent_call more ++ cs) d2
  calls_after d d1 d2 [] cs a b = subst (λ x. Calls called x cs d2) a b
  calls_after d d1 d2 (f ∷ fs) cs a b = (a.0, a.1, calls_after a.0 d1 d2 fs cs a.2 b)

  -- one way after another; what is said of a busy file is said of the session as it was at first
  pub way_after : (seen : D → DeskSeen) (d d1 d2 : D) (s s1 s2 : SessionSeen) (more1 more2 : List Lease) (last : List Call)
      → Way called seen d s more1 [] d1 s1 → Way called seen d1 s1 more2 last d2 s2
      → ((n : ℕ) (kind : GrantKind) (holder : Holder) → In {X = Call} (record { ask = Grant n kind; told = NotLent (BusyGrant holder) }) last → IsOwnBusy s1 n kind → IsOwnBusy s n kind)
      → Way called seen d s (more1 ++ more2) last d2 s2
  way_after seen d d1 d2 s s1 s2 more1 more2 last a b own =
      let calls : map lent_call more1 ++ (map lent_call more2 ++ last) ≡ map lent_call (more1 ++ more2) ++ last =
      sym (append_assoc (map lent_call more1) (map lent_call more2) last) ∙ ap (λ x. x ++ last) (sym (map-append lent_call more1 more2)) in
      record {
        made = subst (λ cs. Calls called d cs d2) calls (calls_after d d1 d2 more1 (map lent_call more2 ++ last) a.made b.made);
        took = took_more s s1 s2 more1 more2 a.took b.took;
        as_lent = λ f i. elim (In-cases (WriteLease f) more1 more2 i) [ inl j ↦ a.as_lent f j | inr j ↦ b.as_lent f j ];
        lends =
            lends_append more1 more2 (seen d) (seen d1) (seen d2) s a.lends
            (lends_but more2 (seen d1) (seen d2) (with_leases s more1) s1.indexed s1.finds s1.room (subst (λ x. Lends (seen d1) x more2 (seen d2)) a.took.same b.lends));
        busy = b.busy;
        lib = b.lib ∙ a.lib;
        sizes = b.sizes ∙ a.sizes;
        root = b.root ∙ a.root;
        creds = b.creds ∙ a.creds;
        others = λ n kind holder i e. own n kind holder i (b.others n kind holder i (e ∙ sym (lib_same (seen d) (seen d1) s s1 more1 a.took)));
      }
