-- How the taking of a file ends, by what a session's `need` tells.
use Rattle.trio_walk.proofs.Words.{◌++◌, ◌||◌, ◌∙◌, ◌∷◌, ◌≡◌, ◌≢◌, ◌⊎◌, AboveIsOpen, ArePossible, Ask, Bool, Busy, BusyGrant, Call, Calls, Case, DeniedGrant, DeskSeen, Directory, Err, Grant, GrantFault, GrantKind, HasCause, HasMet, Hold, HoldLease, HoldParts, Holder, In, In-cases, In-is_among, In-map, IsDirectory, IsFreshLease, IsLeaseFor, IsLentNow, IsLive, IsOn, IsOwnBusy, Kind, Lease, LentFile, List, Made, MadeFile, MayTake, MayWalk, Met, Mode, Naming, Need, Needed, NoGrantMemory, NoMemory, Node, Nodes, None, NotLent, NotMade, Ok, OneCall, Option, Read, ReadLease, Result, Rights, RightsAre, Row, SameBut, SameSeen, SeenAfter, SessionSeen, Shown, Some, TakenAs, ToRead, ToWrite, Told, Took, WalkEnd, Way, Write, WriteLease, Written, [], ap, append-nil, batch_nodes, bundle_of, case_as_stands, cond, denies, eq-eqb, eqb, eqb-true, false, false≢true, file_numbers, file_of, files_out, find-In, gives_met, held_file, hold_numbers, in_hand, inl, inr, is_some, kind_lent, kind_shown, lacks, lent_files, made_file, map, map-In, mapped, naming_of, need_of, node_at, not, one_need, open_kind, option_map, option_map_or, option_or, or-true, parcel_case, permits, read_file, refl, rights_of, serves, some_one, subst, sym, true, was_there, with_lease, written_file, written_in, ℕ}
use Rattle.std.specs.Prelude.{IsOk}
use Rattle.trio_lists.specs.Lists.{is_among}
use Rattle.trio_lists.proofs.Filters.{In-find}
use Rattle.trio_layout.specs.Survey.{Met as SurveyMet, numbers}
use Rattle.trio_layout.specs.JudgedFiles.{judged_files, written_files}
use Rattle.trio_nodes.specs.declared.answers.GrantFault.TheVariants.{NotLive, NoParent}
use Rattle.trio_nodes.specs.Legal.{grant_denier}
use Rattle.trio_desk.specs.Call.{Lent, TellsHolder}
use Rattle.trio_desk.specs.Refusals.{HasKind, file_kind}
use Rattle.trio_laws.proofs.session.Stands.{named_alike}
use Rattle.trio_laws.proofs.session.Starts.{number_start, start_judged}
use Rattle.trio_laws.proofs.session.TakenHold.{held_by}
use Rattle.trio_session.specs.Asked.{AfterNeed, NoNeed, TellsGrant}
use Rattle.trio_walk.specs.declared.met.Rights as shown_rights
use Rattle.trio_walk.specs.Walks.{IsListed, IsTaken}
use Rattle.trio_walk.proofs.Denials.{denier_here, placed_same}
use Rattle.trio_walk.proofs.Leased.{ByLease, ByMade, IsOpened, desk_after, opened}
use Rattle.trio_walk.proofs.Lent.{may_hold, may_now, may_read, may_write}
use Rattle.trio_walk.proofs.Looking.{made_new, may_but, tree_now}
use Rattle.trio_walk.proofs.Possible.{moment_possible, possible_desk, same_seen, took_of}

-- ---- what serves

-- a file that was made is open
open_made : (s : SessionSeen) (n : ℕ) → is_some (made_file s n) ≡ true → is_some (open_kind s n) ≡ true
open_made s n t = by (made_file s n) refl t
  where
    by : (o : Option MadeFile) → made_file s n ≡ o → is_some (made_file s n) ≡ true → is_some (open_kind s n) ≡ true
    by None e q = absurd (false≢true (sym (ap is_some e) ∙ q))
    by (Some m) e q = ap (λ o. is_some (option_or (option_map (λ (x : MadeFile). x.kind) o) (option_map (λ (f : Shown). f.kind) (written_file s n)))) e

-- and so is one that is written
open_written : (s : SessionSeen) (n : ℕ) → In n (file_numbers s.parcel.writes) → is_some (open_kind s n) ≡ true
open_written s n i =
    let f = map-In (λ (x : LentFile). x.stands.ino) n s.parcel.writes i in
    let g = In-find (λ (x : LentFile). eqb x.stands.ino n) s.parcel.writes f.0 f.1 (eq-eqb f.0.stands.ino n (sym f.2)) in
    by (made_file s n) (ap (λ o. option_map (λ (x : Shown). x.kind) (option_map (λ (x : LentFile). x.stands) o)) g.1)
  where
    by : {k : Kind} → (o : Option MadeFile) → option_map (λ (f : Shown). f.kind) (written_file s n) ≡ Some k → is_some (option_or (option_map (λ (x : MadeFile). x.kind) o) (option_map (λ (f : Shown). f.kind) (written_file s n))) ≡ true
    by None e = ap is_some e
    by (Some m) e = refl

serves_made : (s : SessionSeen) (n : ℕ) (kind : GrantKind) → is_some (made_file s n) ≡ true → serves s n kind ≡ true
serves_made s n Write t = open_made s n t
serves_made s n Read t = ap (λ b. b || is_some (read_file s n)) (open_made s n t)
serves_made s n Hold t = ap (λ b. b || is_some (held_file s n)) t

-- ---- what is out to the library itself

module _ (desk : DeskSeen) (s : SessionSeen) (may : MayWalk desk s) (n : ℕ) where
  own_written : In n (map (λ (w : Shown). w.ino) desk.out.writes) → In n (file_numbers s.parcel.writes)
  own_written i =
      let x = map-In (λ (w : Shown). w.ino) n (lent_files s.parcel.writes) (subst (λ (l : List Shown). In n (map (λ (w : Shown). w.ino) l)) may.on.out.writes i) in
      let f = map-In (λ (g : LentFile). g.lent) x.0 s.parcel.writes x.1 in
      subst (λ k. In k (file_numbers s.parcel.writes)) (may.numbers f.0 f.1 ∙ sym (x.2 ∙ ap (λ (w : Shown). w.ino) f.2)) (In-map (λ (g : LentFile). g.stands.ino) f.0 s.parcel.writes f.1)

  written_here : In n (file_numbers s.parcel.writes) → In n (map (λ (w : Shown). w.ino) desk.out.writes)
  written_here i =
      let f = map-In (λ (g : LentFile). g.stands.ino) n s.parcel.writes i in
      subst (λ (l : List Shown). In n (map (λ (w : Shown). w.ino) l)) (sym may.on.out.writes)
      (subst (λ k. In k (map (λ (w : Shown). w.ino) (lent_files s.parcel.writes))) (sym (f.2 ∙ may.numbers f.0 f.1))
      (In-map (λ (w : Shown). w.ino) f.0.lent (lent_files s.parcel.writes) (In-map (λ (g : LentFile). g.lent) f.0 s.parcel.writes f.1)))

  -- what keeps a file busy that isn't served
  own_busy : (kind : GrantKind) → serves s n kind ≡ false → In n (files_out desk.out) → IsOwnBusy s n kind
  own_busy kind un i = record {
    has =
        elim (In-cases n (map (λ (w : Shown). w.ino) desk.out.writes ++ map (λ (r : Shown). r.ino) desk.out.reads) (hold_numbers desk.out.holds) i) [
          | inr h ↦ inr (inr (subst (λ (l : List HoldParts). In n (hold_numbers l)) may.on.out.holds h))
          | inl files ↦
              elim (In-cases n (map (λ (w : Shown). w.ino) desk.out.writes) (map (λ (r : Shown). r.ino) desk.out.reads) files) [
                | inl w ↦ inr (inl (own_written w, held_kind kind un (own_written w)))
                | inr r ↦ (let j = subst (λ (l : List Shown). In n (map (λ (x : Shown). x.ino) l)) may.on.out.reads r in inl (j, not_read kind un j))
              ]
        ];
  }
    where
      held_kind : (k : GrantKind) → serves s n k ≡ false → In n (file_numbers s.parcel.writes) → k ≡ Hold
      held_kind Write u j = absurd (false≢true (sym u ∙ open_written s n j))
      held_kind Read u j = absurd (false≢true (sym u ∙ ap (λ b. b || is_some (read_file s n)) (open_written s n j)))
      held_kind Hold u j = refl

      not_read : (k : GrantKind) → serves s n k ≡ false → In n (map (λ (x : Shown). x.ino) s.reads) → k ≢ Read
      not_read Read u j = λ e.
          let x = map-In (λ (r : Shown). r.ino) n s.reads j in
          let there = In-find (λ (g : Shown). eqb g.ino n) s.reads x.0 x.1 (eq-eqb x.0.ino n (sym x.2)) in
          false≢true (sym u ∙ ap (λ (o : Option Shown). is_some (open_kind s n) || is_some o) there.1 ∙ or-true (is_some (open_kind s n)))
      not_read Write u j = λ e. (let h : Write ≡ Read = e in cc h)
      not_read Hold u j = λ e. (let h : Hold ≡ Read = e in cc h)

-- ---- a file that an open directory lists

module _ (desk : DeskSeen) (s : SessionSeen) (may : MayWalk desk s) (n : ℕ) (listed : IsListed desk s n) (nodes : Nodes) (rows : List (Option Row)) (p : ArePossible desk s.parcel s.reads nodes rows) where
  abbrev now : Nodes
  now = batch_nodes desk.creds s.calls nodes

  abbrev c : Case
  c = parcel_case desk.sizes desk.creds rows s.parcel

  there_now : (y : Node) × (node_at (batch_nodes desk.creds s.calls nodes) n ≡ Some y) × (y.parent ≡ listed.directory)
  there_now = mapped (λ (x : Node). x.parent) (node_at now n) listed.directory (listed.lists nodes rows p)

  -- its directory is live where it was in it before: then the directory is written
  written_dir : (x : Node) → node_at nodes n ≡ Some x → x.parent ≡ listed.directory → In listed.directory (file_numbers s.parcel.writes)
  written_dir x e same = by (opened s listed.directory Directory listed.opens)
    where
      dir_some : (z : Node) × (node_at now listed.directory ≡ Some z)
      dir_some = (let q = mapped (λ (y : Node). y.kind) (node_at now listed.directory) Directory (may.kinds listed.directory Directory listed.opens nodes rows p) in (q.0, q.1))

      not_root : n ≡ 1 → ⊥
      not_root t =
          let r = p.tree.root in
          let one : x ≡ r.0 = some_one (node_at nodes n) x r.0 e (ap (node_at nodes) t ∙ r.1) in
          let zero : listed.directory ≡ 0 = sym same ∙ ap (λ (z : Node). z.parent) one ∙ r.3 in
          let wrong : None ≡ Some dir_some.0 = sym (tree_now desk s may nodes rows p).none ∙ ap (node_at now) (sym zero) ∙ dir_some.1 in cc wrong

      gone : node_at nodes listed.directory ≡ None → ⊥
      gone none = subst (λ o. IsDirectory o) (ap (node_at nodes) same ∙ none) (p.tree.parents n x e not_root)

      by : IsOpened s listed.directory Directory → In listed.directory (file_numbers s.parcel.writes)
      by (ByMade m h k) = absurd (gone (made_new desk s may nodes rows p listed.directory (ap is_some h)))
      by (ByLease f none h k) =
          let i = find-In (λ (g : LentFile). eqb g.stands.ino listed.directory) s.parcel.writes f h in
          subst (λ m. In m (file_numbers s.parcel.writes)) (eqb-true f.stands.ino listed.directory i.1) (In-map (λ (g : LentFile). g.stands.ino) f s.parcel.writes i.0)

  -- an entry of the bundle's names it
  named : is_some (naming_of (parcel_case desk.sizes desk.creds rows s.parcel) n) ≡ true
  named = by (naming_of c n) refl
    where
      by : (o : Option Naming) → naming_of c n ≡ o → is_some (naming_of c n) ≡ true
      by (Some g) e = ap is_some e
      by None e =
          let y = there_now in
          let s' = (may.comes nodes rows p).1 in
          let tree' = tree_now desk s may nodes rows p in
          let a = may.order.among nodes rows p in
          let x = was_there c nodes now p.tree tree' a s' n y.0 e y.1 in
          let w : In listed.directory (file_numbers s.parcel.writes) = written_dir x.0 x.1 (sym x.2 ∙ y.2) in
          let f = map-In (λ (g : LentFile). g.stands.ino) listed.directory s.parcel.writes w in
          let b : In listed.directory (map (λ (q : Written). q.ino) c.bundle.writes) =
          subst (λ k. In k (map (λ (q : Written). q.ino) c.bundle.writes)) (sym f.2) (In-map (λ (q : Written). q.ino) (written_in f.0.stands) c.bundle.writes (In-map (λ (g : LentFile). written_in g.stands) f.0 s.parcel.writes f.1)) in
          let m = map-In (λ (q : SurveyMet). q.ino) listed.directory (written_files c) (number_start c listed.directory b) in
          let judged : In listed.directory (numbers (judged_files c)) =
          subst (λ k. In k (numbers (judged_files c))) (sym m.2) (In-map (λ (q : SurveyMet). q.ino) m.0 (judged_files c) (start_judged c m.0 m.1)) in
          s'.whole n y.0 y.1 (ap (λ k. is_among k (numbers (judged_files c))) y.2 ∙ In-is_among listed.directory (numbers (judged_files c)) judged)

  pub named_stands : is_some (naming_of (case_as_stands desk (in_hand s)) n) ≡ true
  named_stands = ap is_some (sym (named_alike desk.sizes desk.creds [] rows (bundle_of s.parcel) (map held_by s.parcel.holds) n)) ∙ named

  -- where it isn't held, its directory is out for writing
  pub parent_out : (x : Node) → node_at nodes n ≡ Some x → (In n (hold_numbers s.parcel.holds) → ⊥) → In x.parent (map (λ (w : Shown). w.ino) desk.out.writes)
  parent_out x e free =
      let y = there_now in
      elim (placed_same c nodes now p.tree (tree_now desk s may nodes rows p) (may.order.among nodes rows p) (may.comes nodes rows p).1 n x y.0 e y.1) [
        | inr held ↦ absurd (free held)
        | inl stays ↦
            let same : x.parent ≡ listed.directory = sym stays ∙ y.2 in
            subst (λ k. In k (map (λ (w : Shown). w.ino) desk.out.writes)) (sym same) (written_here desk s may listed.directory (written_dir x e same))
      ]

-- ---- by what the desk told

-- a need of writing gives what a grant of this kind needs
abbrev need_of_kind : GrantKind → Need
need_of_kind Write = ToWrite
need_of_kind kind = ToRead

module _ {D : Type 0} (called : D → Ask → Told → D → Type 0) (seen : D → DeskSeen) (d d' : D) (s s' : SessionSeen) (m : Met) (kind : GrantKind)
    (may : MayWalk (seen d) s) (met : HasMet (seen d) s m) (fits : MayTake (seen d) s m kind) where
  -- what `need` ensures
  pub record Needing (result : Result (Unit {0}) GrantFault) : Type 0 where
    pub call :
        OneCall called d (Grant m.ino kind) d'
        (λ told. TellsGrant (seen d) m.ino kind told (seen d') × AfterNeed s result s' told × (serves s m.ino kind ≡ false))
        (NoNeed (serves s m.ino kind) s result s')
    pub indexed : IsOk result → kind_shown s' m.ino ≡ Some Directory → In m.ino s'.indexed
    pub served : IsOk result → serves s' m.ino kind ≡ true
    pub on : IsOn (seen d') s'

  abbrev one : Needed
  one = record { ino = m.ino; kind = kind }

  one_served : serves s m.ino kind ≡ true → one_need s m.ino kind ≡ []
  one_served e = ap (λ b. cond b [] (record { ino = m.ino; kind = kind } ∷ [])) e

  one_unserved : serves s m.ino kind ≡ false → one_need s m.ino kind ≡ record { ino = m.ino; kind = kind } ∷ []
  one_unserved e = ap (λ b. cond b [] (record { ino = m.ino; kind = kind } ∷ [])) e

  -- a file that isn't served is live at the desk
  live : (un : serves s m.ino kind ≡ false) (nodes : Nodes) (rows : List (Option Row)) (p : ArePossible (seen d) s.parcel s.reads nodes rows)
      → IsLive nodes (seen d).creds m.ino (met.1.met nodes rows p).after
  live un nodes rows p = elim ((met.1.met nodes rows p).live) [ inl made ↦ absurd (false≢true (sym un ∙ serves_made s m.ino kind made)) | inr l ↦ l ]

  -- ---- what stays

  repacked : (x : SessionSeen) → SameBut x s' → MayWalk (seen d') x → MayWalk (seen d') s'
  repacked x but now = subst (λ (y : SessionSeen). MayWalk (seen d') y) (sym but.same) (may_but (seen d') x s'.indexed x.finds s'.room now)

  on_before : (x : SessionSeen) → SameBut x s' → IsOn (seen d') s' → IsOn (seen d') x
  on_before x but on =
      let o = subst (λ (y : SessionSeen). IsOn (seen d') y) but.same on in
      record { lib = o.lib; creds = o.creds; out = o.out; writes = o.writes; reads = o.reads; core = o.core }

  number_of : (lease : Lease) → IsLeaseFor (seen d).lib m.ino (seen d).sizes (seen d).out lease → file_of lease ≡ m.ino
  number_of (WriteLease f) is = is.ino
  number_of (ReadLease f) is = is.1
  number_of (HoldLease h) is = is.1

  module _ (un : serves s m.ino kind ≡ false) (c : (k : Kind) × HasKind (seen d) m.ino k) where
    cause : ArePossible (seen d) s.parcel s.reads c.1.moment.nodes c.1.moment.rows
    cause = moment_possible (seen d) s may.on c.1.moment

    by_lease : (lease : Lease) → kind_lent lease ≡ kind → IsFreshLease (seen d).lib m.ino (seen d).sizes (seen d).out lease
        → IsOn (record (seen d) { out = (seen d').out }) (with_lease s lease) → MayWalk (record (seen d) { out = (seen d').out }) (with_lease s lease)
    by_lease (WriteLease f) k fresh on = may_write (seen d) (seen d').out s may m.ino f fresh on
    by_lease (ReadLease f) k fresh on = may_read (seen d) (seen d').out s may m.ino f fresh on
    by_lease (HoldLease h) k fresh on =
        let listed : IsListed (seen d) s m.ino = subst (λ q. MayTake (seen d) s m q) (sym k) fits in
        let number : h.ino ≡ m.ino = fresh.is.1 in
        may_hold (seen d) (seen d').out s may m.ino h fresh on
        (ap (λ n. is_some (naming_of (case_as_stands (seen d) (in_hand s)) n)) number ∙ named_stands (seen d) s may m.ino listed c.1.moment.nodes c.1.moment.rows cause)
        (λ nodes rows p. subst (λ n. AboveIsOpen nodes (seen d).creds n) (sym number) (live un nodes rows p).above)

  -- after a lease
  may_lent : (lease : Lease) → TellsGrant (seen d) m.ino kind (Lent lease) (seen d') → serves s m.ino kind ≡ false → SameBut (with_lease s lease) s' → IsOn (seen d') s' → MayWalk (seen d') s'
  may_lent lease t un but on =
      let e = desk_after (seen d) (seen d') (Grant m.ino kind) (Lent lease) t.seen in
      let x : SessionSeen = with_lease s lease in
      let on_x : IsOn (record (seen d) { out = (seen d').out }) x = subst (λ k. IsOn k x) e (on_before x but on) in
      repacked x but (subst (λ k. MayWalk k x) (sym e) (by_lease un (file_kind lease, t.cause) lease t.fits.1 t.fits.0 on_x))

  -- and after a refusal
  may_refused : (fault : GrantFault) → TellsGrant (seen d) m.ino kind (NotLent fault) (seen d') → SameBut s s' → IsOn (seen d') s' → MayWalk (seen d') s'
  may_refused fault t but on =
      let e = desk_after (seen d) (seen d') (Grant m.ino kind) (NotLent fault) t.seen in
      repacked s but (subst (λ k. MayWalk k s) (sym e) (may_now (seen d) (seen d').out s may (subst (λ k. IsOn k s) e (on_before s but on))))

  -- ---- refusals

  -- a file that was met isn't gone
  never_gone : serves s m.ino kind ≡ false → HasCause (seen d) m.ino kind NotLive → ⊥
  never_gone un c =
      let p = moment_possible (seen d) s may.on c.moment in
      let l = live un c.moment.nodes c.moment.rows p in
      let wrong : Some l.node ≡ None = sym l.there ∙ c.cause in cc wrong

  -- a hold is asked where the directory is written
  never_parted : serves s m.ino kind ≡ false → HasCause (seen d) m.ino kind NoParent → ⊥
  never_parted un c =
      let p = moment_possible (seen d) s may.on c.moment in
      let l = live un c.moment.nodes c.moment.rows p in
      let listed : IsListed (seen d) s m.ino = subst (λ q. MayTake (seen d) s m q) c.cause.0 fits in
      c.cause.1 l.node l.there (parent_out (seen d) s may m.ino listed c.moment.nodes c.moment.rows p l.node l.there (λ i. false≢true (sym un ∙ held_serves i)))
    where
      held_serves : In m.ino (hold_numbers s.parcel.holds) → serves s m.ino kind ≡ true
      held_serves i =
          let x = map-In (λ (h : HoldParts). h.ino) m.ino s.parcel.holds i in
          let there = In-find (λ (h : HoldParts). eqb h.ino m.ino) s.parcel.holds x.0 x.1 (eq-eqb x.0.ino m.ino (sym x.2)) in
          ap (serves s m.ino) c.cause.0 ∙ ap (λ o. is_some (made_file s m.ino) || is_some o) there.1 ∙ or-true (is_some (made_file s m.ino))

  -- the root alone may be denied, where its rights aren't known
  pub record IsRoot (by' : ℕ) : Type 0 where
    pub by : by' ≡ 1
    pub number : m.ino ≡ 1
    pub unknown : m.rights ≡ None
    pub denied : denies (seen d).creds (seen d).root kind ≡ true

  module _ (un : serves s m.ino kind ≡ false) (by' : ℕ) (c : HasCause (seen d) m.ino kind (DeniedGrant by')) where
    p : ArePossible (seen d) s.parcel s.reads c.moment.nodes c.moment.rows
    p = moment_possible (seen d) s may.on c.moment

    l : IsLive c.moment.nodes (seen d).creds m.ino (met.1.met c.moment.nodes c.moment.rows p).after
    l = live un c.moment.nodes c.moment.rows p

    -- it is denied by itself
    by_need : (need : Need) → cond (lacks (seen d).creds need l.node) (Some m.ino) None ≡ Some by' → (lacks (seen d).creds need l.node ≡ true) × (by' ≡ m.ino)
    by_need need e = from (lacks (seen d).creds need l.node) refl
      where
        from : (b : Bool) → lacks (seen d).creds need l.node ≡ b → (lacks (seen d).creds need l.node ≡ true) × (by' ≡ m.ino)
        from true t = (t, (let same : Some m.ino ≡ Some by' = sym (ap (λ q. cond q (Some m.ino) None) t) ∙ e in sym (cc same)))
        from false t = (let wrong : None ≡ Some by' = sym (ap (λ q. cond q (Some m.ino) None) t) ∙ e in absurd (cc wrong))

    -- rights that are known give it
    known_gives : (need : Need) → gives_met (seen d).creds m need ≡ true → (r : shown_rights.Rights) → m.rights ≡ Some r → lacks (seen d).creds need l.node ≡ false
    known_gives need g r e =
        let t = met.1.met c.moment.nodes c.moment.rows p in
        let are : RightsAre (Some r) t.after = subst (λ o. RightsAre o t.after) e t.rights in
        let same : rights_of t.after ≡ record { kind = m.kind; mode = r.mode; uid = r.uid; gid = r.gid } =
        ap (λ k. record { kind = k; mode = t.after.mode; uid = t.after.uid; gid = t.after.gid }) t.kind
        ∙ ap (λ (q : Mode). record { kind = m.kind; mode = q; uid = t.after.uid; gid = t.after.gid }) are.0
        ∙ ap (λ q. record { kind = m.kind; mode = r.mode; uid = q; gid = t.after.gid }) are.1
        ∙ ap (λ q. record { kind = m.kind; mode = r.mode; uid = r.uid; gid = q }) are.2 in
        ap (λ (q : Rights). not (permits (seen d).creds q.kind q.mode q.uid q.gid need)) (sym l.same ∙ same)
        ∙ ap not (sym (ap (λ o. option_map_or (λ (q : shown_rights.Rights). permits (seen d).creds m.kind q.mode q.uid q.gid need) o true) e) ∙ g)

    root_by : (need : Need) → gives_met (seen d).creds m need ≡ true → (lacks (seen d).creds need l.node ≡ true) × (by' ≡ m.ino)
        → (o : Option shown_rights.Rights) → m.rights ≡ o → (by' ≡ 1) × (m.ino ≡ 1) × (m.rights ≡ None) × (not (permits (seen d).creds (seen d).root.kind (seen d).root.mode (seen d).root.uid (seen d).root.gid need) ≡ true)
    root_by need g w (Some r) e = absurd (false≢true (sym (known_gives need g r e) ∙ w.0))
    root_by need g w None e =
        let number : m.ino ≡ 1 = met.1.root e in
        let there : node_at c.moment.nodes 1 ≡ Some l.node = ap (node_at c.moment.nodes) (sym number) ∙ l.there in
        let root : Some (rights_of l.node) ≡ Some (seen d).root = sym (ap (option_map rights_of) there) ∙ p.agrees.root_is in
        let is : rights_of l.node ≡ (seen d).root = cc root in
        (w.1 ∙ number, number, e, ap (λ (q : Rights). not (permits (seen d).creds q.kind q.mode q.uid q.gid need)) (sym is) ∙ w.0)

    pub denied_root : IsRoot by'
    denied_root = by kind refl fits c.cause
      where
        by : (k : GrantKind) → kind ≡ k → MayTake (seen d) s m k → grant_denier c.moment.nodes (seen d).creds m.ino k ≡ Some by' → IsRoot by'
        by Hold e f q = (let wrong : None ≡ Some by' = q in absurd (cc wrong))
        by Read e f q =
            let r = root_by ToRead f (by_need ToRead (sym (denier_here c.moment.nodes (seen d).creds m.ino ToRead l.node l.there l.above) ∙ q)) m.rights refl in
            record { by = r.0; number = r.1; unknown = r.2; denied = ap (denies (seen d).creds (seen d).root) e ∙ r.3 }
        by Write e f q =
            let r = root_by ToWrite f (by_need ToWrite (sym (denier_here c.moment.nodes (seen d).creds m.ino ToWrite l.node l.there l.above) ∙ q)) m.rights refl in
            record { by = r.0; number = r.1; unknown = r.2; denied = ap (denies (seen d).creds (seen d).root) e ∙ r.3 }

  -- ---- how it ends

  -- where the session shows the kind that was met, of a file that is read or written
  abbrev IsRight : Type 0
  IsRight = kind ≢ Hold → kind_shown s' m.ino ≡ Some m.kind

  -- what was taken, before the last answer
  pub record Going (last : List Call) (more : List Lease) : Type 0 where
    pub way : Way called seen d s more last d' s'
    pub may_then : MayWalk (seen d') s'

  still : (last : List Call) → Calls called d last d' → SameBut s s' → SameSeen (seen d) (seen d')
      → ((n : ℕ) (k : GrantKind) (holder : Holder) → In {X = Call} (record { ask = Grant n k; told = NotLent (BusyGrant holder) }) last → holder.lib ≡ s.lib → IsOwnBusy s n k)
      → ((n : ℕ) (k : GrantKind) (holder : Holder) → In {X = Call} (record { ask = Grant n k; told = NotLent (BusyGrant holder) }) last → (nodes : Nodes) × (rows : List (Option Row)) × ArePossible (seen d') s'.parcel s'.reads nodes rows)
      → Way called seen d s [] last d' s'
  still last made but same others busy = record {
    made = made;
    took = took_of s s' [] but;
    as_lent = λ f i. absurd i;
    lends = same;
    lib = same.lib;
    sizes = same.sizes;
    root = same.root;
    creds = same.creds;
    others = others;
    busy = busy;
  }

  -- no call was made
  unasked : d' ≡ d → SameBut s s' → Going [] []
  unasked same but = record {
    way = still [] same but (subst (λ x. SameSeen (seen d) (seen x)) (sym same) (same_seen (seen d))) (λ n k h i. absurd i) (λ n k h i. absurd i);
    may_then = repacked s but (subst (λ x. MayWalk (seen x) s) (sym same) may);
  }

  -- what is so of the file and the kind that were asked is so of the lease's
  at_lease : (lease : Lease) → TellsGrant (seen d) m.ino kind (Lent lease) (seen d') → (P : ℕ → GrantKind → Type 0) → P m.ino kind → P (file_of lease) (kind_lent lease)
  at_lease lease t P x = subst (λ k. P (file_of lease) k) (sym t.fits.1) (subst (λ n. P n kind) (sym (number_of lease t.fits.0.is)) x)

  lent_now : (lease : Lease) → TellsGrant (seen d) m.ino kind (Lent lease) (seen d') → serves s m.ino kind ≡ false → SameBut (with_lease s lease) s' → IsOn (seen d') s' → IsLentNow (seen d) s lease (seen d')
  lent_now lease t un but on = record {
    seen = at_lease lease t (λ n k. SeenAfter (seen d) (Grant n k) (Lent lease) (seen d')) t.seen;
    fresh = at_lease lease t (λ n k. IsFreshLease (seen d).lib n (seen d).sizes (seen d).out lease) t.fits.0;
    on = on_before (with_lease s lease) but on;
    unserved = at_lease lease t (λ n k. serves s n k ≡ false) un;
    listed = λ h e.
        subst (λ n. IsListed (seen d) s n) (sym (number h e)) (subst (λ q. MayTake (seen d) s m q) (sym t.fits.1 ∙ ap kind_lent e) fits);
    above = λ h e nodes rows p. subst (λ n. AboveIsOpen nodes (seen d).creds n) (sym (number h e)) (live un nodes rows p).above;
  }
    where
      number : (h : HoldParts) → lease ≡ HoldLease h → h.ino ≡ m.ino
      number h e = sym (ap file_of e) ∙ number_of lease t.fits.0.is

  -- a lease was lent
  lent : (lease : Lease) → called d (Grant m.ino kind) (Lent lease) d' → TellsGrant (seen d) m.ino kind (Lent lease) (seen d') → serves s m.ino kind ≡ false → SameBut (with_lease s lease) s' → IsOn (seen d') s'
      → Going [] (lease ∷ [])
  lent lease call t un but on = record {
    way = record {
      made = (d', subst (λ k. called d (Grant (file_of lease) k) (Lent lease) d') (sym t.fits.1) (subst (λ n. called d (Grant n kind) (Lent lease) d') (sym (number_of lease t.fits.0.is)) call), refl);
      took = took_of s s' (lease ∷ []) but;
      as_lent = λ f i. elim i [
        | inl e ↦ (subst (λ l. IsFreshLease (seen d).lib m.ino (seen d).sizes (seen d).out l) (sym e) t.fits.0).is.as_lent
        | inr none ↦ absurd none
      ];
      lends = (seen d', lent_now lease t un but on, same_seen (seen d'));
      busy = λ n k h i. absurd i;
      lib = t.seen.lib;
      sizes = t.seen.sizes;
      root = t.seen.root;
      creds = t.seen.creds;
      others = λ n k h i. absurd i;
    };
    may_then = may_lent lease t un but on;
  }

  -- it was refused
  refused : (fault : GrantFault) → called d (Grant m.ino kind) (NotLent fault) d' → TellsGrant (seen d) m.ino kind (NotLent fault) (seen d') → serves s m.ino kind ≡ false → SameBut s s' → IsOn (seen d') s'
      → Going (record { ask = Grant m.ino kind; told = NotLent fault } ∷ []) []
  refused fault call t un but on = record {
    way = still (record { ask = Grant m.ino kind; told = NotLent fault } ∷ []) (d', call, refl) but (record { lib = t.seen.lib; creds = t.seen.creds; sizes = t.seen.sizes; root = t.seen.root; out = t.seen.out }) others (λ n k h i. possible);
    may_then = may_refused fault t but on;
  }
    where
      possible : (nodes : Nodes) × (rows : List (Option Row)) × ArePossible (seen d') s'.parcel s'.reads nodes rows
      possible =
          let p = moment_possible (seen d) s may.on t.cause.moment in (
            t.cause.moment.nodes,
            t.cause.moment.rows,
            subst (λ (x : SessionSeen). ArePossible (seen d') x.parcel x.reads t.cause.moment.nodes t.cause.moment.rows) (sym but.same)
                (possible_desk (seen d') (seen d) s.parcel s.reads t.cause.moment.nodes t.cause.moment.rows (sym t.seen.sizes) (sym t.seen.root) p),
          )

      others : (n : ℕ) (k : GrantKind) (holder : Holder) → In {X = Call} (record { ask = Grant n k; told = NotLent (BusyGrant holder) }) (record { ask = Grant m.ino kind; told = NotLent fault } ∷ []) → holder.lib ≡ s.lib → IsOwnBusy s n k
      others n k holder (inr i) e = absurd i
      others n k holder (inl same) e =
          let told : NotLent (BusyGrant holder) ≡ NotLent fault = ap (λ (q : Call). q.told) same in
          let is : BusyGrant holder ≡ fault = cc told in
          let asked : Grant n k ≡ Grant m.ino kind = ap (λ (q : Call). q.ask) same in
          let number : n ≡ m.ino = cc asked in
          let of : k ≡ kind = cc asked in
          let tells : TellsHolder (seen d).lib (seen d).out (Grant m.ino kind) (NotLent (BusyGrant holder)) = subst (λ f. TellsHolder (seen d).lib (seen d).out (Grant m.ino kind) (NotLent f)) (sym is) t.holder in
          subst (λ q. IsOwnBusy s n q) (sym of) (subst (λ q. IsOwnBusy s q kind) (sym number) (own_busy (seen d) s may m.ino kind un (tells (e ∙ may.on.lib))))

  same_need : (lease : Lease) → TellsGrant (seen d) m.ino kind (Lent lease) (seen d') → record { ino = m.ino; kind = kind } ∷ [] ≡ need_of lease ∷ []
  same_need lease t =
      ap (λ n. record { ino = n; kind = kind } ∷ []) (sym (number_of lease t.fits.0.is)) ∙ ap (λ k. record { ino = file_of lease; kind = k } ∷ []) (sym t.fits.1)

  -- want of memory, with what was lent
  lacking : (more : List Lease) → (rest : List Needed) → one_need s m.ino kind ≡ map need_of more ++ rest → TakenAs (seen d) s m kind more [] (Err NoMemory) s'
  lacking more rest e = ([], rest, inl (refl, refl), e ∙ ap (λ l. l ++ rest) (sym (append-nil (map need_of more))))

  -- it is had, but of another kind than was met, or had as it was met
  pub had_as : Needing (Ok tt) → (right : Bool) → (right ≡ true → IsRight) → Took called seen d s m kind (cond right (Ok true) (Err NoMemory)) d' s'
  had_as n right shows = by n.call
    where
      served : serves s' m.ino kind ≡ true
      served = n.served refl

      taken : right ≡ true → IsTaken s' m kind
      taken r = record { served = served; of_kind = shows r; indexed = n.indexed refl }

      ends : (more : List Lease) → one_need s m.ino kind ≡ map need_of more → (b : Bool) → (b ≡ true → IsTaken s' m kind) → TakenAs (seen d) s m kind more [] (cond b (Ok true) (Err NoMemory)) s'
      ends more e true has = (refl, e, has refl)
      ends more e false has = lacking more [] (e ∙ sym (append-nil (map need_of more)))

      told_by : (told : Told) → called d (Grant m.ino kind) told d' → TellsGrant (seen d) m.ino kind told (seen d') → AfterNeed s (Ok tt) s' told → serves s m.ino kind ≡ false → Took called seen d s m kind (cond right (Ok true) (Err NoMemory)) d' s'
      told_by (Lent lease) call t a un =
          let g = lent lease call t un a.1 n.on in
          record { more = lease ∷ []; last = []; way = g.way; may = g.may_then; taken = ends (lease ∷ []) (one_unserved un ∙ same_need lease t) right taken }
      told_by (NotLent fault) call t a un = (let wrong : Ok tt ≡ Err fault = a.0 in absurd (cc wrong))
      told_by told call t a un = absurd a

      by : OneCall called d (Grant m.ino kind) d' (λ told. TellsGrant (seen d) m.ino kind told (seen d') × AfterNeed s (Ok tt) s' told × (serves s m.ino kind ≡ false)) (NoNeed (serves s m.ino kind) s (Ok tt) s')
          → Took called seen d s m kind (cond right (Ok true) (Err NoMemory)) d' s'
      by (Made told call then) = told_by told call then.0 then.1 then.2
      by (NotMade same (inr e, but)) = (let wrong : Ok tt ≡ Err NoGrantMemory = e in absurd (cc wrong))
      by (NotMade same (inl e, but)) =
          let g = unasked same but in
          record { more = []; last = []; way = g.way; may = g.may_then; taken = ends [] (one_served e.0) right taken }

  -- what a fault comes to; NotLive and NoParent don't come
  abbrev pub fault_end : GrantFault → Result Bool WalkEnd
  fault_end (BusyGrant holder) = Err (Busy holder)
  fault_end (DeniedGrant by) = Ok false
  fault_end fault = Err NoMemory

  fault_taken : (fault : GrantFault) → HasCause (seen d) m.ino kind fault → serves s m.ino kind ≡ false → TakenAs (seen d) s m kind [] (record { ask = Grant m.ino kind; told = NotLent fault } ∷ []) (fault_end fault) s'
  fault_taken (BusyGrant holder) told_so un = (refl, refl, one_unserved un, told_so)
  fault_taken NoGrantMemory told_so un = (record { ino = m.ino; kind = kind } ∷ [], [], inr (m.ino, kind, refl, refl), one_unserved un)
  fault_taken NotLive told_so un = absurd (never_gone un told_so)
  fault_taken NoParent told_so un = absurd (never_parted un told_so)
  fault_taken (DeniedGrant by) told_so un =
      let r = denied_root un by told_so in
      let call : ℕ → ℕ → Call = λ n b. record { ask = Grant n kind; told = NotLent (DeniedGrant b) } in (
        refl,
        ap (λ n. call n by ∷ []) r.number ∙ ap (λ b. call 1 b ∷ []) r.by,
        one_unserved un ∙ ap (λ n. record { ino = n; kind = kind } ∷ []) r.number,
        r.number,
        r.unknown,
        r.denied,
      )

  pub fault_as : (fault : GrantFault) → Needing (Err fault) → Took called seen d s m kind (fault_end fault) d' s'
  fault_as fault n = by n.call
    where
      told_by : (told : Told) → called d (Grant m.ino kind) told d' → TellsGrant (seen d) m.ino kind told (seen d') → AfterNeed s (Err fault) s' told → serves s m.ino kind ≡ false → Took called seen d s m kind (fault_end fault) d' s'
      told_by (Lent lease) call t (inl e, but) un = (let wrong : Err fault ≡ Ok tt = e in absurd (cc wrong))
      told_by (Lent lease) call t (inr e, but) un =
          let same : Err fault ≡ Err NoGrantMemory = e in
          let is : fault ≡ NoGrantMemory = cc same in
          let g = lent lease call t un but n.on in
          subst (λ f. Took called seen d s m kind (fault_end f) d' s') (sym is)
          (record { more = lease ∷ []; last = []; way = g.way; may = g.may_then; taken = lacking (lease ∷ []) [] (one_unserved un ∙ same_need lease t) })
      told_by (NotLent f) call t a un =
          let same : Err fault ≡ Err f = a.0 in
          let is : fault ≡ f = cc same in
          let g = refused f call t un a.1 n.on in
          subst (λ q. Took called seen d s m kind (fault_end q) d' s') (sym is)
          (record { more = []; last = record { ask = Grant m.ino kind; told = NotLent f } ∷ []; way = g.way; may = g.may_then; taken = fault_taken f t.cause un })
      told_by told call t a un = absurd a

      by : OneCall called d (Grant m.ino kind) d' (λ told. TellsGrant (seen d) m.ino kind told (seen d') × AfterNeed s (Err fault) s' told × (serves s m.ino kind ≡ false)) (NoNeed (serves s m.ino kind) s (Err fault) s')
          → Took called seen d s m kind (fault_end fault) d' s'
      by (Made told call then) = told_by told call then.0 then.1 then.2
      by (NotMade same (inl e, but)) = (let wrong : Err fault ≡ Ok tt = e.1 in absurd (cc wrong))
      by (NotMade same (inr e, but)) =
          let same_fault : Err fault ≡ Err NoGrantMemory = e in
          let is : fault ≡ NoGrantMemory = cc same_fault in
          let g = unasked same but in
          subst (λ f. Took called seen d s m kind (fault_end f) d' s') (sym is)
          (record { more = []; last = []; way = g.way; may = g.may_then; taken = lacking [] (one_need s m.ino kind) refl })

  -- those two faults don't come
  pub never : (fault : GrantFault) → Needing (Err fault) → (fault ≡ NotLive) ⊎ (fault ≡ NoParent) → ⊥
  never fault n w = by n.call
    where
      memory : fault ≡ NoGrantMemory → (fault ≡ NotLive) ⊎ (fault ≡ NoParent) → ⊥
      memory e (inl x) = (let h : NoGrantMemory ≡ NotLive = sym e ∙ x in cc h)
      memory e (inr x) = (let h : NoGrantMemory ≡ NoParent = sym e ∙ x in cc h)

      cause_of : (f : GrantFault) → HasCause (seen d) m.ino kind f → serves s m.ino kind ≡ false → (f ≡ NotLive) ⊎ (f ≡ NoParent) → ⊥
      cause_of f c un (inl x) = never_gone un (subst (HasCause (seen d) m.ino kind) x c)
      cause_of f c un (inr x) = never_parted un (subst (HasCause (seen d) m.ino kind) x c)

      told_by : (told : Told) → TellsGrant (seen d) m.ino kind told (seen d') → AfterNeed s (Err fault) s' told → serves s m.ino kind ≡ false → ⊥
      told_by (Lent lease) t (inl e, but) un = (let wrong : Err fault ≡ Ok tt = e in cc wrong)
      told_by (Lent lease) t (inr e, but) un = (let same : Err fault ≡ Err NoGrantMemory = e in memory (cc same) w)
      told_by (NotLent f) t a un = (let same : Err fault ≡ Err f = a.0 in let is : fault ≡ f = cc same in cause_of f t.cause un (subst (λ q. (q ≡ NotLive) ⊎ (q ≡ NoParent)) is w))
      told_by told t a un = a

      by : OneCall called d (Grant m.ino kind) d' (λ told. TellsGrant (seen d) m.ino kind told (seen d') × AfterNeed s (Err fault) s' told × (serves s m.ino kind ≡ false)) (NoNeed (serves s m.ino kind) s (Err fault) s') → ⊥
      by (Made told call then) = told_by told then.0 then.1 then.2
      by (NotMade same (inl e, but)) = (let wrong : Err fault ≡ Ok tt = e.1 in cc wrong)
      by (NotMade same (inr e, but)) = (let same_fault : Err fault ≡ Err NoGrantMemory = e in memory (cc same_fault) w)
