-- The nodes for which a state stands go by what is known of it and stay through grants and allotments; and they are possible for a session
-- all of whose things are out to its library.
use Rattle.trio_runner.proofs.Words.{◌&&◌, ◌++◌, ◌∙◌, ◌∷◌, ◌≡◌, AreMoves, ArePossible, Ask, Bool, Call, CtlAnswer, Denied, GrantFault, GrantKind, Happens, HoldLent, HoldParts, Image, In, In-cases, In-left, In-map, In-right, InoParts, IsAlike, IsPlain, Kept, Kind, Known, Lease, LentFile, LentIsTrue, LibNo, LibOut, List, MayCall, Move, NoGrantMemory, NoParent, None, NotLive, OpenGrant, Option, OutAlike, ReadLent, Row, SessionSeen, Shown, Some, State, Step, Told, WriteLent, [], allots, answer_of, ap, cond, desk_of, eqb, event_of, false, free_numbers, free_pages, grant_fault, granted_to, inl, ino_numbers, inr, is_write, known, known_decides, length, lent_files, logged, ltb, map, map-In, map-append, new_ino, nodes_of, numbers_to-In, option_map, out_of, plain_state, plain_step, refl, row_at, step_keeps_lent, subst, sym, take, true, with_allotted, with_lease, ℕ}
use Rattle.std.proofs.Common.{is_some}
use Rattle.trio_nodes.specs.declared.answers.GrantFault.TheVariants.{Busy}
use Rattle.trio_desk.specs.Out as out_words
use Rattle.trio_desk.specs.Ready.{leases_in}
use Rattle.trio_state.specs.State.{settled}
use Rattle.trio_state.specs.Step.{Outcome, Grant, Allot, NoPages, NoInodes, Given, after_grant_fault}
use Rattle.trio_laws.specs.OutLaws.{without_checkpoint}
use Rattle.trio_laws.specs.history.Stands.{bytes_of, node_by, node_in, node_of, writer_of}
use Rattle.trio_laws.specs.session.Lent.{AreLentTo, IsLentTo}
use Rattle.trio_laws.proofs.history.AllotStep.{allot_nodes}
use Rattle.trio_laws.proofs.history.Facts.{node_is, nodes_by_one}
use Rattle.trio_laws.proofs.history.GrantNodes.{grant_nodes}
use Rattle.trio_laws.proofs.history.StandsTree.{states_are_trees}
use Rattle.trio_laws.proofs.session.Lent.{leases_stay_true}
use Rattle.trio_laws.proofs.session.Rows.{rows_say}
use Rattle.trio_ctl.proofs.Settling.{hold_lent, read_lent, write_lent}
use Rattle.trio_session.proofs.Seeing.{find-map}
use Rattle.trio_runner.proofs.Moves.{Stands, call_stands}
use Rattle.trio_runner.proofs.Plain.{plain_given}
use Rattle.trio_runner.proofs.Sessions.{ArePlain}
use Rattle.trio_session.proofs.Alike.{alike_by}

-- ---- by what is known

bytes_bare : (image : Image) (n : ℕ) (r : Row) (g : OpenGrant) (k : Kind) → bytes_of image n r (Some (without_checkpoint g)) k ≡ bytes_of image n r (Some g) k
bytes_bare image n r g k = refl

-- a node goes by no checkpoint
node_bare : (image : Image) (n : ℕ) (w : Option OpenGrant) (o : Option Row) → node_by image n (option_map without_checkpoint w) o ≡ node_by image n w o
node_bare image n None o = refl
node_bare image n (Some g) None = refl
node_bare image n (Some g) (Some r) = ap (λ (b : List ℕ). Some (record (node_of image n (Some g) r) { bytes = b })) (bytes_bare image n r g r.kind)

nodes_plain : (s : State) → nodes_of (plain_state (known s)) ≡ nodes_of s
nodes_plain s = nodes_by_one s plain refl same
  where
    plain : State
    plain = plain_state (known s)

    same : (n : ℕ) → node_in plain n ≡ node_in s n
    same n =
        ap (λ i. node_by i n (writer_of plain n) (row_at s.home n)) (known_decides s).image
        ∙ ap (λ w. node_by (settled s) n w (row_at s.home n)) (find-map (λ (g : OpenGrant). eqb g.ino n && is_write g.kind) without_checkpoint s.open_grants)
        ∙ node_bare (settled s) n (writer_of s n) (row_at s.home n)

pub nodes_known : (s t : State) → known s ≡ known t → nodes_of s ≡ nodes_of t
nodes_known s t same = sym (nodes_plain s) ∙ ap (λ (k : Known). nodes_of (plain_state k)) same ∙ nodes_plain t

-- ---- through grants and allotments

fault_nodes : (s : State) (f : GrantFault) → nodes_of (after_grant_fault s f) ≡ nodes_of s
fault_nodes s NotLive = refl
fault_nodes s (Denied n) = refl
fault_nodes s NoParent = refl
fault_nodes s (Busy holder) = refl
fault_nodes s NoGrantMemory = refl

granted_nodes : (s : State) (k : Kept s) (lib ino : ℕ) (kind : GrantKind) (f : Option GrantFault) (o : Option Row) → grant_fault s lib ino kind ≡ f → row_at s.home ino ≡ o → nodes_of (granted_to s lib ino kind f o).after ≡ nodes_of s
granted_nodes s k lib ino kind (Some f) o e row = fault_nodes s f
granted_nodes s k lib ino kind None None e row = refl
granted_nodes s k lib ino kind None (Some r) e row = grant_nodes s k lib ino kind r e row

pub grant_stays : (s : State) (lib ino : ℕ) (kind : GrantKind) (answer : CtlAnswer) (s' : State) → Kept s → Step s (Grant lib ino kind) answer s' → nodes_of s' ≡ nodes_of s
grant_stays s lib ino kind answer s' k (inl c) = ap nodes_of c.1 ∙ granted_nodes s k lib ino kind (grant_fault s lib ino kind) (row_at s.home ino) refl refl
grant_stays s lib ino kind answer s' k (inr none) = ap nodes_of none.2

pub allot_stays : (s : State) (lib pages numbers : ℕ) (answer : CtlAnswer) (s' : State) → Kept s → Step s (Allot lib pages numbers) answer s' → nodes_of s' ≡ nodes_of s
allot_stays s lib pages numbers answer s' k (inr none) = ap nodes_of none.2
allot_stays s lib pages numbers answer s' k (inl c) = ap nodes_of c.1 ∙ by (ltb (length (free_pages s)) pages) (ltb (length (free_numbers s)) numbers)
  where
    outcome : Bool → Bool → Outcome
    outcome a b =
        cond a (record { answer = NoPages pages (length (free_pages s)); after = logged s })
        (cond b (record { answer = NoInodes numbers (length (free_numbers s)); after = logged s })
        (record { answer = Given (take pages (free_pages s)) (take numbers (free_numbers s)); after = allots s lib (take pages (free_pages s)) (take numbers (free_numbers s)) }))

    by : (a b : Bool) → nodes_of (outcome a b).after ≡ nodes_of s
    by true b = refl
    by false true = refl
    by false false = allot_nodes s k lib pages numbers

-- ---- what leases show stays true

-- the state stands, and what its leases show is true of it
pub record StandsTrue (s : State) : Type 0 where
  pub stands : Stands s
  pub lent : LentIsTrue s

pub call_true : (s : State) (lib : LibNo) (ask : Ask) (told : Told) (s' : State) → IsPlain ask → StandsTrue s → Happens s lib ask told s' → StandsTrue s'
call_true s lib ask told s' plain h is = record {
  stands = call_stands s lib ask told s' h.stands is;
  lent = step_keeps_lent s (event_of lib ask) (answer_of told) s' h.stands.kept h.stands.whole (plain_given s lib ask told s' plain is) (plain_step s lib ask told s' plain is) h.lent;
}

pub moves_true : (lib : LibNo) (s : State) (calls : List Call) (moves : List Move) (s' : State) → ArePlain calls → StandsTrue s → AreMoves lib s calls moves s' → StandsTrue s'
moves_true lib s [] [] s' plain h a = subst StandsTrue (sym a) h
moves_true lib s [] (m ∷ moves) s' plain h a = absurd a
moves_true lib s (c ∷ calls) [] s' plain h a = absurd a
moves_true lib s (c ∷ calls) (m ∷ moves) s' plain h a =
    moves_true lib m.after calls moves s' (λ x i. plain x (inr i)) (call_true s lib c.ask c.told m.after (plain c (inl refl)) h a.1) a.2

-- ---- what a session has is out

-- each lease and each number of the session is out
pub record HasOut (out : LibOut) (x : SessionSeen) : Type 0 where
  pub writes : (f : LentFile) → In f x.parcel.writes → In f.lent out.writes
  pub reads : (f : Shown) → In f x.reads → In f out.reads
  pub holds : (h : HoldParts) → In h x.parcel.holds → In h out.holds
  pub numbers : (n : ℕ) → In n (ino_numbers x.parcel.inodes) → In n out.numbers

pub may_has : (s : State) (lib : LibNo) (x : SessionSeen) → MayCall (desk_of s lib) x → HasOut (out_of s lib) x
may_has s lib x may =
    let o = may.edits.on.out in
    record {
      writes = λ f i. subst (In f.lent) (sym o.writes) (In-map (λ (y : LentFile). y.lent) f x.parcel.writes i);
      reads = λ f i. subst (In f) (sym o.reads) i;
      holds = λ h i. subst (In h) (sym o.holds) i;
      numbers = λ n i. (o.numbers n).1 i;
    }

pub has_alike : (out : LibOut) (x y : SessionSeen) → IsAlike x y → HasOut out x → HasOut out y
has_alike out x y e h = alike_by (HasOut out) x y e (λ is n r. record { writes = h.writes; reads = h.reads; holds = h.holds; numbers = h.numbers })

pub has_same : (out out' : LibOut) (x : SessionSeen) → OutAlike out' out → HasOut out x → HasOut out' x
has_same out out' x o h = record {
  writes = λ f i. subst (In f.lent) (sym o.writes) (h.writes f i);
  reads = λ f i. subst (In f) (sym o.reads) (h.reads f i);
  holds = λ k i. subst (In k) (sym o.holds) (h.holds k i);
  numbers = λ n i. (o.numbers n).1 (h.numbers n i);
}

-- one more at the end of both
in_more : {X Y : Type 0} (f : X → Y) (xs : List X) (ys : List Y) (z : X) → ((x : X) → In x xs → In (f x) ys) → (x : X) → In x (xs ++ z ∷ []) → In (f x) (ys ++ f z ∷ [])
in_more f xs ys z h x i =
    elim (In-cases x xs (z ∷ []) i) [
      | inl old ↦ In-left (f x) ys (f z ∷ []) (h x old)
      | inr new ↦ elim new [ inl e ↦ In-right (f x) ys (f z ∷ []) (inl (ap f e)) | inr none ↦ absurd none ]
    ]

pub has_lease : (out : LibOut) (x : SessionSeen) (lease : Lease) → HasOut out x → HasOut (out_words.with_lease out lease) (with_lease x lease)
has_lease out x (WriteLent f) h = record {
  writes = in_more (λ (y : LentFile). y.lent) x.parcel.writes out.writes f h.writes;
  reads = h.reads;
  holds = h.holds;
  numbers = h.numbers;
}
has_lease out x (ReadLent f) h = record { writes = h.writes; reads = in_more (λ (y : Shown). y) x.reads out.reads f h.reads; holds = h.holds; numbers = h.numbers }
has_lease out x (HoldLent k) h = record { writes = h.writes; reads = h.reads; holds = in_more (λ (y : HoldParts). y) x.parcel.holds out.holds k h.holds; numbers = h.numbers }

pub has_allotted : (out : LibOut) (x : SessionSeen) (pages numbers : List ℕ) → HasOut out x → HasOut (out_words.with_allotted out pages numbers) (with_allotted x pages numbers)
has_allotted out x pages numbers h = record {
  writes = h.writes;
  reads = h.reads;
  holds = h.holds;
  numbers = λ n i.
      let new : List InoParts = map (new_ino x.lib) numbers in
      let j : In n (ino_numbers x.parcel.inodes ++ ino_numbers new) = subst (In n) (map-append (λ (p : InoParts). p.no) x.parcel.inodes new) i in
      elim (In-cases n (ino_numbers x.parcel.inodes) (ino_numbers new) j) [
        | inl old ↦ In-left n out.numbers numbers (h.numbers n old)
        | inr it ↦
            (let p = map-In (λ (q : InoParts). q.no) n new it in
            let m = map-In (new_ino x.lib) p.0 numbers p.1 in
            let e : n ≡ m.0 = p.2 ∙ ap (λ (q : InoParts). q.no) m.2 in
            In-right n out.numbers numbers (subst (λ k. In k numbers) (sym e) m.1))
      ];
}

-- so the nodes of the state are possible for it
pub possible_here : (s : State) (lib : LibNo) (x : SessionSeen) → StandsTrue s → HasOut (out_of s lib) x → ArePossible (desk_of s lib) x.parcel x.reads (nodes_of s) s.home.rows
possible_here s lib x t h =
    let k : Kept s = t.stands.kept in
    let lent : AreLentTo s lib.0 (leases_in x.parcel x.reads) = record {
      files = λ f i. elim (In-cases f (lent_files x.parcel.writes) x.reads i) [
        | inl w ↦ (let m = map-In (λ (y : LentFile). y.lent) f x.parcel.writes w in subst (IsLentTo s lib.0) (sym m.2) (write_lent s lib m.0.lent (h.writes m.0 m.1)))
        | inr r ↦ read_lent s lib f (h.reads f r)
      ];
      holds = λ p i. hold_lent s lib p (h.holds p i);
    } in
    let here = leases_stay_true s lib.0 (leases_in x.parcel x.reads) k t.lent lent in
    record {
      tree = states_are_trees s k;
      agrees = here.agrees;
      none = λ n i. node_is s k n ∙ ap (node_by (settled s) n (writer_of s n)) (k.numbers_free n (ap is_some (numbers_to-In s.numbers_out lib.0 n (h.numbers n i))));
      same = rows_say s k;
      places = here.places;
    }
