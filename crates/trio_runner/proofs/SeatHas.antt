-- A session at a seat has just what is out to its library: it stays so through what it is given, and after a settle there is nothing. So
-- there are nodes for which all that it has may have been lent.
use Rattle.trio_runner.proofs.Words.{◌&&◌, ◌++◌, ◌==◌, ◌∙◌, ◌∷◌, ◌≡◌, ◌≢◌, Allot, ArePossible, Ask, Bool, Call, Calls, Creds, DeskIsLeft, DeskSeen, Done, Entry, Given, Goes, Going, Grant, GrantKind, Happens, Hold, HoldLent, HoldParts, Image, In, In-cases, In-left, In-map, In-right, InoParts, IsAlike, IsGiven, Judged, Kept, Lease, Leaves, Lent, LentFile, LibNo, LibOut, List, MayCall, ModeSet, Nodes, None, NotGiven, NotJudged, NotLent, NotModeSet, NotSettled, OpenGrant, Option, Origin, OthersLeave, OutAlike, Outcome, Parcel, Read, ReadLent, ReplaysFrom, Row, SessionSeen, Settle, Settled, Settles, Shown, Some, State, Told, Write, WriteLent, [], all_back, and_parts, ap, arrives, both_ways, bundle_of, creds_of, desk_of, emptied, eq-eqb, eqb-true, false, false≢true, filter-In, filter-none, grants_after, grants_of, inl, ino_numbers, inr, is_hold, is_in_bundle, is_read, is_write, lent_files, lent_part, map, map-append, new_ino, nodes_of, not, not-true, numbers_to, numbers_to-In, out_of, refl, sees_at, started, step_keeps_lent, step_kept, step_told, step_whole, subst, suc, sym, took, true, with_allotted, with_lease, zero, ℕ}
use Rattle.std.proofs.Common.{◌||◌}
use Rattle.std.specs.Prelude.{◌↔◌, slice_index_or}
use Rattle.std.specs.List.{list_all, list_any}
use Rattle.trio_desk.specs.Call.{out_after as told_after}
use Rattle.trio_desk.specs.Out as out_words
use Rattle.trio_state.specs.Allotments.{has_none_out, is_library, out_after}
use Rattle.trio_rights.specs.Sheets.{sheet_numbers}
use Rattle.trio_state.specs.Bundles.{Ends, has_all}
use Rattle.trio_state.specs.Given.{HasNoRead}
use Rattle.trio_laws.specs.history.Entries.{event_of, answer_of}
use Rattle.trio_laws.specs.session.Lent.{root_of, sizes_of}
use Rattle.trio_laws.proofs.Bundles.{own_in_all}
use Rattle.trio_laws.proofs.session.Again.{possible_with_less}
use Rattle.trio_ctl.proofs.DeskOuts.{seen-part, seen_of}
use Rattle.trio_walk.proofs.Possible.{possible_desk}
use Rattle.trio_runner.proofs.Keeping.{calls_keep}
use Rattle.trio_runner.proofs.OneTry.{Final, Gets, NoneLast, OneLast, gets_fits, gets_given, outcome_told, took_one}
use Rattle.trio_runner.proofs.RanFree.{goes_leaves, left}
use Rattle.trio_runner.proofs.SameNodes.{HasOut, StandsTrue, possible_here}

-- ---- just what is out

-- the leases and the numbers of the session are just those that are out
pub record Exact (out : LibOut) (x : SessionSeen) : Type 0 where
  pub writes : out.writes ≡ lent_files x.parcel.writes
  pub reads : out.reads ≡ x.reads
  pub holds : out.holds ≡ x.parcel.holds
  pub numbers : (n : ℕ) → In n out.numbers ↔ In n (ino_numbers x.parcel.inodes)

pub may_exact : (d : DeskSeen) (x : SessionSeen) → MayCall d x → Exact d.out x
may_exact d x may = (let o = may.edits.on.out in record { writes = o.writes; reads = o.reads; holds = o.holds; numbers = o.numbers })

exact_has : (out : LibOut) (x : SessionSeen) → Exact out x → HasOut out x
exact_has out x h = record {
  writes = λ f i. subst (In f.lent) (sym h.writes) (In-map (λ (y : LentFile). y.lent) f x.parcel.writes i);
  reads = λ f i. subst (In f) (sym h.reads) i;
  holds = λ k i. subst (In k) (sym h.holds) i;
  numbers = λ n i. (h.numbers n).1 i;
}

pub exact_alike : (out : LibOut) (x y : SessionSeen) → IsAlike x y → Exact out x → Exact out y
exact_alike out x y e h = subst (Exact out) (sym e) (record { writes = h.writes; reads = h.reads; holds = h.holds; numbers = h.numbers })

exact_same : (out out' : LibOut) (x : SessionSeen) → OutAlike out' out → Exact out x → Exact out' x
exact_same out out' x o h = record {
  writes = o.writes ∙ h.writes;
  reads = o.reads ∙ h.reads;
  holds = o.holds ∙ h.holds;
  numbers = λ n. (λ i. (h.numbers n).0 ((o.numbers n).0 i), λ i. (o.numbers n).1 ((h.numbers n).1 i));
}

exact_lease : (out : LibOut) (x : SessionSeen) (lease : Lease) → Exact out x → Exact (out_words.with_lease out lease) (with_lease x lease)
exact_lease out x (WriteLent f) h = record {
  writes = ap (λ l. l ++ f.lent ∷ []) h.writes ∙ sym (map-append (λ (y : LentFile). y.lent) x.parcel.writes (f ∷ []));
  reads = h.reads;
  holds = h.holds;
  numbers = h.numbers;
}
exact_lease out x (ReadLent f) h = record { writes = h.writes; reads = ap (λ l. l ++ f ∷ []) h.reads; holds = h.holds; numbers = h.numbers }
exact_lease out x (HoldLent k) h = record { writes = h.writes; reads = h.reads; holds = ap (λ l. l ++ k ∷ []) h.holds; numbers = h.numbers }

new_numbers : (lib : LibNo) (ns : List ℕ) → ino_numbers (map (new_ino lib) ns) ≡ ns
new_numbers lib [] = refl
new_numbers lib (n ∷ ns) = ap (λ l. n ∷ l) (new_numbers lib ns)

exact_allotted : (out : LibOut) (x : SessionSeen) (pages ns : List ℕ) → Exact out x → Exact (out_words.with_allotted out pages ns) (with_allotted x pages ns)
exact_allotted out x pages ns h =
    let old : List ℕ = ino_numbers x.parcel.inodes in
    let are : ino_numbers (x.parcel.inodes ++ map (new_ino x.lib) ns) ≡ old ++ ns =
    map-append (λ (p : InoParts). p.no) x.parcel.inodes (map (new_ino x.lib) ns) ∙ ap (λ l. old ++ l) (new_numbers x.lib ns) in
    record {
      writes = h.writes;
      reads = h.reads;
      holds = h.holds;
      numbers = λ n. (
        λ i. subst (In n) (sym are) (elim (In-cases n out.numbers ns i) [ inl was ↦ In-left n old ns ((h.numbers n).0 was) | inr new ↦ In-right n old ns new ]),
        λ i. elim (In-cases n old ns (subst (In n) are i)) [ inl was ↦ In-left n out.numbers ns ((h.numbers n).1 was) | inr new ↦ In-right n out.numbers ns new ],
      );
    }

-- ---- less than another has

-- what the one session has the other has too
pub record Less (x y : SessionSeen) : Type 0 where
  pub files : (f : Shown) → In f (lent_files x.parcel.writes ++ x.reads) → In f (lent_files y.parcel.writes ++ y.reads)
  pub holds : (k : HoldParts) → In k x.parcel.holds → In k y.parcel.holds
  pub numbers : (n : ℕ) → In n (ino_numbers x.parcel.inodes) → In n (ino_numbers y.parcel.inodes)

pub less_exact : (out : LibOut) (x y : SessionSeen) → Exact out x → Exact out y → Less x y
less_exact out x y h k = record {
  files = λ f i. subst (λ l. In f (l ++ y.reads)) (sym h.writes ∙ k.writes) (subst (λ l. In f (lent_files x.parcel.writes ++ l)) (sym h.reads ∙ k.reads) i);
  holds = λ q i. subst (In q) (sym h.holds ∙ k.holds) i;
  numbers = λ n i. (k.numbers n).0 ((h.numbers n).1 i);
}

pub less_alike : (x y : SessionSeen) → IsAlike x y → Less x y
less_alike x y e = subst (Less x) (sym e) (record { files = λ f i. i; holds = λ k i. i; numbers = λ n i. i })

pub less_then : (x y z : SessionSeen) → Less x y → Less y z → Less x z
less_then x y z a b = record { files = λ f i. b.files f (a.files f i); holds = λ k i. b.holds k (a.holds k i); numbers = λ n i. b.numbers n (a.numbers n i) }

less_lease : (x : SessionSeen) (lease : Lease) → Less x (with_lease x lease)
less_lease x (WriteLent f) = record {
  files = λ g i.
      let old : List Shown = lent_files x.parcel.writes in
      let new : List Shown = lent_files (x.parcel.writes ++ f ∷ []) in
      let are : new ≡ old ++ f.lent ∷ [] = map-append (λ (y : LentFile). y.lent) x.parcel.writes (f ∷ []) in
      elim (In-cases g old x.reads i) [ inl w ↦ In-left g new x.reads (subst (In g) (sym are) (In-left g old (f.lent ∷ []) w)) | inr r ↦ In-right g new x.reads r ];
  holds = λ k i. i;
  numbers = λ n i. i;
}
less_lease x (ReadLent f) = record {
  files = λ g i.
      let old : List Shown = lent_files x.parcel.writes in
      elim (In-cases g old x.reads i) [ inl w ↦ In-left g old (x.reads ++ f ∷ []) w | inr r ↦ In-right g old (x.reads ++ f ∷ []) (In-left g x.reads (f ∷ []) r) ];
  holds = λ k i. i;
  numbers = λ n i. i;
}
less_lease x (HoldLent h) = record { files = λ g i. i; holds = λ k i. In-left k x.parcel.holds (h ∷ []) i; numbers = λ n i. i }

less_allotted : (x : SessionSeen) (pages ns : List ℕ) → Less x (with_allotted x pages ns)
less_allotted x pages ns = record {
  files = λ g i. i;
  holds = λ k i. i;
  numbers = λ n i.
      let new : List InoParts = map (new_ino x.lib) ns in
      subst (In n) (sym (map-append (λ (p : InoParts). p.no) x.parcel.inodes new)) (In-left n (ino_numbers x.parcel.inodes) (ino_numbers new) i);
}

-- whatever more was told
pub less_took : (ts : List Told) (x : SessionSeen) → Less x (took x ts)
less_took [] x = record { files = λ f i. i; holds = λ k i. i; numbers = λ n i. i }
less_took (Lent lease ∷ ts) x = less_then x (with_lease x lease) (took (with_lease x lease) ts) (less_lease x lease) (less_took ts (with_lease x lease))
less_took (Given pages ns ∷ ts) x = less_then x (with_allotted x pages ns) (took (with_allotted x pages ns) ts) (less_allotted x pages ns) (less_took ts (with_allotted x pages ns))
less_took (NotLent fault ∷ ts) x = less_took ts x
less_took (NotGiven fault ∷ ts) x = less_took ts x
less_took (Done ∷ ts) x = less_took ts x
less_took (Judged answer ∷ ts) x = less_took ts x
less_took (NotJudged fault ∷ ts) x = less_took ts x
less_took (Settled ∷ ts) x = less_took ts x
less_took (NotSettled ∷ ts) x = less_took ts x
less_took (ModeSet ∷ ts) x = less_took ts x
less_took (NotModeSet fault ∷ ts) x = less_took ts x

-- what is possible for the one is possible for the other, at another desk of the same image
pub possible_less : (d d' : DeskSeen) (x y : SessionSeen) → d.sizes ≡ d'.sizes → d.root ≡ d'.root → Less x y → (nodes : Nodes) (rows : List (Option Row)) → ArePossible d y.parcel y.reads nodes rows → ArePossible d' x.parcel x.reads nodes rows
possible_less d d' x y sizes root less nodes rows p =
    possible_desk d' d x.parcel x.reads nodes rows sizes root (possible_with_less d x.parcel y.parcel x.reads y.reads less.files less.holds less.numbers nodes rows p)

-- ---- nothing after a settle

-- a number that is out to a library is one of those that are
any_at : (outs : List (Option LibNo)) (lib n : ℕ) → In n (numbers_to outs lib) → has_none_out lib outs ≡ true → ⊥
any_at outs lib n i none = at outs n (numbers_to-In outs lib n i) none
  where
    either : (a b : Bool) → not (a || b) ≡ true → (a ≡ true → ⊥) × (not b ≡ true)
    either false b e = (λ w. false≢true w, e)
    either true b e = absurd (false≢true e)

    at : (outs : List (Option LibNo)) (n : ℕ) → slice_index_or outs n None ≡ Some (record { 0 = lib }) → not (list_any (is_library lib) outs) ≡ true → ⊥
    at [] n e none = cc e
    at (o ∷ os) zero e none = (either (is_library lib o) (list_any (is_library lib) os) none).0 (ap (is_library lib) e ∙ eq-eqb lib lib refl)
    at (o ∷ os) (suc k) e none = at os k e (either (is_library lib o) (list_any (is_library lib) os) none).1

module _ (s s' : State) (lib : LibNo) (p : Parcel) (image : Image) (all : has_all s lib.0 (bundle_of p) ≡ true) (quiet : HasNoRead s lib.0) (e : Ends s lib.0 (bundle_of p) image s') where
  -- no grant of the library stays open
  not_left : (is_kind : GrantKind → Bool) (g : OpenGrant) → In g (grants_after s lib.0 (bundle_of p)) → (g.lib == lib.0 && is_kind g.kind) ≡ false
  not_left is_kind g i = by (g.lib == lib.0) refl
    where
      unread : (k : GrantKind) → k ≢ Read → is_read k ≡ false
      unread Read none = absurd (none refl)
      unread Write none = refl
      unread Hold none = refl

      by : (b : Bool) → (g.lib == lib.0) ≡ b → (b && is_kind g.kind) ≡ false
      by false is = refl
      by true is =
          let f = filter-In (λ (x : OpenGrant). not (is_in_bundle lib.0 (bundle_of p) x)) g s.open_grants i in
          let mine : g.lib ≡ lib.0 = eqb-true g.lib lib.0 is in
          let inside = own_in_all s lib.0 (bundle_of p) g all f.0 mine (unread g.kind (quiet g f.0 mine)) in
          absurd (both_ways (is_in_bundle lib.0 (bundle_of p) g) (not-true (is_in_bundle lib.0 (bundle_of p) g) f.1) inside)

  none_seen : {Y : Type 0} (v : OpenGrant → Y) (is_kind : GrantKind → Bool) → ((g : OpenGrant) → v (lent_part g) ≡ v g) → map v (grants_of is_kind lib s'.open_grants) ≡ []
  none_seen v is_kind same =
      sym (seen-part v is_kind lib same s'.open_grants) ∙ ap (seen_of v is_kind lib) e.grants ∙ seen-part v is_kind lib same (grants_after s lib.0 (bundle_of p))
      ∙ ap (map v) (filter-none (λ (g : OpenGrant). g.lib == lib.0 && is_kind g.kind) (grants_after s lib.0 (bundle_of p)) (not_left is_kind))

  -- so it has no lease and no number
  none_exact : (x : SessionSeen) → x.parcel.writes ≡ [] → x.reads ≡ [] → x.parcel.holds ≡ [] → x.parcel.inodes ≡ [] → Exact (out_of s' lib) x
  none_exact x writes reads holds inodes =
      let no_writes : (out_of s' lib).writes ≡ [] = none_seen _ is_write (λ g. refl) in
      let no_reads : (out_of s' lib).reads ≡ [] = none_seen _ is_read (λ g. refl) in
      let no_holds : (out_of s' lib).holds ≡ [] = none_seen _ is_hold (λ g. refl) in
      record {
        writes = no_writes ∙ sym (ap lent_files writes);
        reads = no_reads ∙ sym reads;
        holds = no_holds ∙ sym holds;
        numbers = λ n. (
          λ i. absurd (any_at s'.numbers_out lib.0 n i (ap (has_none_out lib.0) e.numbers ∙ free)),
          λ i. absurd (subst (λ (l : List InoParts). In n (ino_numbers l)) inodes i),
        );
      }
    where
      free : has_none_out lib.0 (out_after s.numbers_out (bundle_of p).numbers) ≡ true
      free =
          (and_parts
          (list_all (λ (g : OpenGrant). not (g.lib == lib.0) || is_read g.kind || is_in_bundle lib.0 (bundle_of p) g) s.open_grants && has_none_out lib.0 (out_after s.pages_out (sheet_numbers (bundle_of p).pages)))
          (has_none_out lib.0 (out_after s.numbers_out (bundle_of p).numbers)) all).1

-- after a settle that happened
settled_exact : (s s' : State) (lib : LibNo) (x x' : SessionSeen) → Happens s lib (Settle x.parcel x.reads x.calls) Settled s' → x' ≡ record (emptied x) { room = x'.room } → Exact (out_of s' lib) x'
settled_exact s s' lib x x' h empty =
    subst (Exact (out_of s' lib)) (sym empty)
    (elim h.is_step [
      | inl d ↦ none_exact (all_back s lib x.reads) s' lib x.parcel _ d.1 h.given.1 d.3 (record (emptied x) { room = x'.room }) refl refl refl refl
      | inr none ↦ absurd (cc none.1)
    ])

-- ---- at a seat

-- The seat is the library's, and what is seen of its desk is so in a state that stands, in which what leases show is true.
pub record AtSeat (first : Origin) (lib : LibNo) (g : Going) : Type 0 where
  pub first_is : g.seat.first ≡ first
  pub lib_is : g.seat.lib ≡ lib
  pub state : State
  pub here : desk_of state g.seat.lib ≡ sees_at g
  pub true : StandsTrue state

-- nodes, and their rows, that are possible for the session
pub record Possible (g : Going) (x : SessionSeen) : Type 0 where
  pub nodes : Nodes
  pub rows : List (Option Row)
  pub are : ArePossible (sees_at g) x.parcel x.reads nodes rows

-- what the entries of a controller leave stands, and what its leases show is true of it
replays_true : (s : State) (log : List Entry) (t : State) → StandsTrue s → ReplaysFrom s log t → StandsTrue t
replays_true s [] t o r = subst StandsTrue (sym r) o
replays_true s (e ∷ es) t o r =
    replays_true r.0 es t
    (record {
      stands = record {
        kept = step_kept s r.0 (event_of e) (answer_of e) o.stands.kept r.2 r.3;
        as_told = step_told s o.stands.as_told (event_of e) (answer_of e) r.0 o.stands.kept r.2 r.3;
        whole = step_whole s o.stands.kept (event_of e) (answer_of e) r.0 r.3 o.stands.whole;
      };
      lent = step_keeps_lent s (event_of e) (answer_of e) r.0 o.stands.kept o.stands.whole r.2 r.3 o.lent;
    }) r.4

left_true : (first : Origin) (log : List Entry) (s : State) → Leaves first log s → StandsTrue s
left_true first log s l =
    replays_true (started first) log s
    (record {
      stands = record { kept = l.begins; as_told = λ g i. absurd i; whole = λ g x i j. absurd i };
      lent = record { files = λ f g i lends lease. absurd i; holds = λ g h i kind hold. absurd i };
    })
    (subst (λ (cs : List Creds). ReplaysFrom (record (started first) { creds = cs }) log s) l.creds l.all.replays)

-- the answers to calls
abbrev pub tolds : List Call → List Told
tolds cs = map (λ (c : Call). c.told) cs

module _ (is_left : DeskIsLeft) (others_leave : OthersLeave) (first : Origin) (lib : LibNo) where
  pub arrives_at : Kept (started first) → AtSeat first lib (arrives first lib)
  arrives_at k =
      let begin : Leaves first [] (started first) = record { begins = k; creds = refl; all = record { kept = k; whole = λ g x i j. absurd i; stands = refl; legal = refl; replays = refl } } in
      record { first_is = refl; lib_is = refl; state = started first; here = is_left first [] (started first) lib begin; true = left_true first [] (started first) begin }

  pub at_goes : (g : Going) (ask : Ask) (told : Told) (g' : Going) → AtSeat first lib g → Goes g ask told g' → AtSeat first lib g'
  at_goes g ask told g' a goes =
      let t = goes.turn in
      record {
        first_is = t.first ∙ a.first_is;
        lib_is = t.lib ∙ a.lib_is;
        state = t.after;
        here = is_left g'.seat.first g'.seat.seen t.after g'.seat.lib t.left;
        true = left_true g'.seat.first g'.seat.seen t.after t.left;
      }

  pub at_calls : (cs : List Call) (g g' : Going) → AtSeat first lib g → Calls Goes g cs g' → AtSeat first lib g'
  at_calls cs g g' a made = calls_keep (AtSeat first lib) at_goes cs g g' a made

  -- the credentials, the sizes and the root's rights are always the same
  pub own_creds : (g : Going) → AtSeat first lib g → (sees_at g).creds ≡ creds_of (started first) lib.0
  own_creds g a = ap (λ (o : Origin). creds_of (started o) g.seat.lib.0) a.first_is ∙ ap (λ (l : LibNo). creds_of (started first) l.0) a.lib_is

  pub same_sizes : (g h : Going) → AtSeat first lib g → AtSeat first lib h → (sees_at g).sizes ≡ (sees_at h).sizes
  same_sizes g h a b = ap (λ (o : Origin). sizes_of (started o)) (a.first_is ∙ sym b.first_is)

  pub same_root : (g h : Going) → AtSeat first lib g → AtSeat first lib h → (sees_at g).root ≡ (sees_at h).root
  same_root g h a b = ap (λ (o : Origin). root_of (started o)) (a.first_is ∙ sym b.first_is)

  pub possible_at : (g : Going) (x : SessionSeen) → AtSeat first lib g → Exact (sees_at g).out x → Possible g x
  possible_at g x a h =
      let has : HasOut (out_of a.state g.seat.lib) x = subst (λ (d : DeskSeen). HasOut d.out x) (sym a.here) (exact_has (sees_at g).out x h) in
      record {
        nodes = nodes_of a.state;
        rows = a.state.home.rows;
        are = subst (λ (d : DeskSeen). ArePossible d x.parcel x.reads (nodes_of a.state) a.state.home.rows) a.here (possible_here a.state g.seat.lib x a.true has);
      }

  -- ---- what is given

  exact_goes : (x : SessionSeen) (g : Going) (ask : Ask) (told : Told) (g' : Going) → Gets ask told → Goes g ask told g' → Exact (sees_at g).out x → Exact (sees_at g').out (took x (told ∷ []))
  exact_goes x g ask told g' gets goes h = by ask told gets ((goes_leaves is_left others_leave g ask told g' goes).alike (gets_fits ask told gets))
    where
      by : (ask : Ask) (told : Told) → Gets ask told → OutAlike (sees_at g').out (told_after (sees_at g).out ask told) → Exact (sees_at g').out (took x (told ∷ []))
      by (Grant ino kind) (Lent lease) gets o = exact_same _ _ (with_lease x lease) o (exact_lease (sees_at g).out x lease h)
      by (Grant ino kind) (NotLent fault) gets o = exact_same _ _ x o h
      by (Allot pages numbers) (Given ps ns) gets o = exact_same _ _ (with_allotted x ps ns) o (exact_allotted (sees_at g).out x ps ns h)
      by (Allot pages numbers) (NotGiven fault) gets o = exact_same _ _ x o h
      by ask told gets o = absurd gets

  given_gets : (g : Going) (c : Call) (g' : Going) → IsGiven c → Goes g c.ask c.told g' → Gets c.ask c.told
  given_gets g c g' is goes = gets_given goes.turn.before g.seat.lib c goes.turn.after is goes.turn.did

  -- nothing is taken of what wasn't given
  not_taken : (x : SessionSeen) (end : Outcome) (t : Told) → outcome_told t ≡ Some end → took x (t ∷ []) ≡ x
  not_taken x end (NotLent fault) e = refl
  not_taken x end (NotGiven fault) e = refl
  not_taken x end (Lent lease) e = absurd (cc e)
  not_taken x end (Given ps ns) e = absurd (cc e)
  not_taken x end Done e = absurd (cc e)
  not_taken x end (Judged answer) e = absurd (cc e)
  not_taken x end (NotJudged fault) e = absurd (cc e)
  not_taken x end Settled e = absurd (cc e)
  not_taken x end NotSettled e = absurd (cc e)
  not_taken x end ModeSet e = absurd (cc e)
  not_taken x end (NotModeSet fault) e = absurd (cc e)

  final_exact : (x : SessionSeen) (g g' : Going) (end : Outcome) (l : List Call) → Final end l → Calls Goes g l g' → Exact (sees_at g).out x → Exact (sees_at g').out x
  final_exact x g g' end l (NoneLast a q) made h = subst (λ (z : Going). Exact (sees_at z).out x) (sym made) h
  final_exact x g g' end l (OneLast y c gets some told) made h =
      subst (λ (z : Going). Exact (sees_at z).out x) (sym made.2)
      (subst (Exact (sees_at made.0).out) (not_taken x end c.told told) (exact_goes x g c.ask c.told made.0 gets made.1 h))

  -- what was given is taken
  pub tried_exact : (cs l : List Call) (end : Outcome) (x : SessionSeen) (g g' : Going) → ((c : Call) → In c cs → IsGiven c) → Final end l → Calls Goes g (cs ++ l) g' → Exact (sees_at g).out x → Exact (sees_at g').out (took x (tolds cs))
  tried_exact [] l end x g g' each f made h = final_exact x g g' end l f made h
  tried_exact (c ∷ cs) l end x g g' each f made h =
      let one = exact_goes x g c.ask c.told made.0 (given_gets g c made.0 (each c (inl refl)) made.1) made.1 h in
      subst (Exact (sees_at g').out) (took_one lib x c.told (tolds cs))
      (tried_exact cs l end (took x (c.told ∷ [])) made.0 g' (λ y i. each y (inr i)) f made.2 one)

  pub all_get : (cs l : List Call) (g g' : Going) → ((c : Call) → In c cs → IsGiven c) → Calls Goes g (cs ++ l) g' → (c : Call) → In c cs → Gets c.ask c.told
  all_get [] l g g' each made c i = absurd i
  all_get (x ∷ cs) l g g' each made c (inl e) = subst (λ (y : Call). Gets y.ask y.told) (sym e) (given_gets g x made.0 (each x (inl refl)) made.1)
  all_get (x ∷ cs) l g g' each made c (inr i) = all_get cs l made.0 g' (λ y j. each y (inr j)) made.2 c i

  -- after a settle the session has nothing, and nothing is out
  pub seat_settled : (g g' : Going) (x x' : SessionSeen) → Settles Goes g x g' x' → Exact (sees_at g').out x'
  seat_settled g g' x x' t =
      subst (λ (d : DeskSeen). Exact d.out x') (left is_left others_leave g (Settle x.parcel x.reads x.calls) Settled g' t.made)
      (settled_exact t.made.turn.before t.made.turn.after g.seat.lib x x' t.made.turn.did t.empty)
