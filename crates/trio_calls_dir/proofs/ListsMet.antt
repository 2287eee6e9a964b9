-- A list of names at the file to which its walk came.
use Rattle.trio_calls_dir.proofs.Words.{◌++◌, ◌<◌, ◌∙◌, ◌∷◌, ◌≡◌, ArePossible, AreWithinLimits, Ask, Bool, Busy, ComesHere, Creds, Denied, DeskSeen, Directory, Err, Goes, HasMet, HasRights, Holder, InAllShown, IsBusyWalk, IsMet, IsRefusal, IsRefusedAs, IsReplied, IsReply, Kind, LacksMemory, List, ListNames, MatchResult, MayCall, Met, Names, Needed, NoWalkMemory, Nodes, None, NotDir, Ok, Option, Path, Read, Regular, Replied, Reply, Result, Rights, Row, SessionSeen, Some, Stop, StopsBy, Target, ToRead, Told, Took, WalkEnd, Walked, Went, [], alike_room, allot_asks, ap, applied, asked, batch_nodes, body_shown, cond, drop, false, gives, gives_met, in_hand, inr, is_directory, is_done, is_some, kind_shown, length, lent_call, list_reply, listing_at, map, may_alike, met_refusal, names_here, need_of, node_at, not, noted, number_made, option_map, option_map_or, permits, refl, rights_in, rights_of, served_by, serves, subst, sym, take, true, try_ends, view_calls, walk, wants_of, ℕ, is_directory-true}
use Rattle.std.proofs.lemmas.Bool.{not-true}
use Rattle.trio_desk.specs.Contents.{Sizes}
use Rattle.trio_laws.specs.session.DirCalls.{list_refusal}
use Rattle.trio_laws.proofs.session.DirCalls.{list_refused_by_check, lists_names}
use Rattle.trio_laws.proofs.session.Sees.{sees_root}
use Rattle.trio_walk.specs.declared.met.Rights as shown_rights
use Rattle.trio_walk.specs.Walks.{MayTake}
use Rattle.trio_calls_dir.specs.declared.replies.Replied as replied
use Rattle.trio_calls_dir.proofs.Ends.{lacks, may_looked, refused_goes, refuses, stop_goes}
use Rattle.trio_session.specs.Deeds.{IsHad, body_had}
use Rattle.trio_edit_laws.proofs.Had.{had_served, there_had}
use Rattle.trio_calls_dir.proofs.ListsHad.{had_here}
use Rattle.trio_calls_dir.proofs.Walkable.{way_may}
use Rattle.trio_walk.proofs.Entering.{asked-one}
use Rattle.trio_walk.proofs.Meeting.{gives_known}
use Rattle.trio_walk.proofs.Ways.{passes_none}
use Rattle.trio_calls_dir.proofs.Held as taking

-- ---- what is known of the file

-- why a file isn't listed, by whether it is a directory and gives reading
abbrev refusal_by : Bool → Bool → Option Reply
refusal_by dir gives' = cond (not dir) (Some NotDir) (cond (not gives') (Some Denied) None)

-- one that gives all is no directory
only_regular : (dir g : Bool) (reply : Reply) → refusal_by dir true ≡ Some reply → refusal_by dir g ≡ Some reply
only_regular false g reply e = e
only_regular true g reply e = absurd (let wrong : None ≡ Some reply = e in cc wrong)

refusal_is : (dir g : Bool) (reply : Reply) → refusal_by dir g ≡ Some reply → IsRefusal reply
refusal_is false g reply e = (let same : Some NotDir ≡ Some reply = e in subst IsRefusal (let is : NotDir ≡ reply = cc same in is) tt)
refusal_is true false reply e = (let same : Some Denied ≡ Some reply = e in subst IsRefusal (let is : Denied ≡ reply = cc same in is) tt)
refusal_is true true reply e = absurd (let wrong : None ≡ Some reply = e in cc wrong)

unrefused : (dir g : Bool) → refusal_by dir g ≡ None → (dir ≡ true) × (g ≡ true)
unrefused true true e = (refl, refl)
unrefused true false e = absurd (let wrong : Some Denied ≡ None = e in cc wrong)
unrefused false g e = absurd (let wrong : Some NotDir ≡ None = e in cc wrong)

-- a file that may be listed, as far as is known, may be taken for reading
pub may_take : (desk : DeskSeen) (s : SessionSeen) (m : Met) → met_refusal desk.creds m ≡ None → MayTake desk s m Read
may_take desk s m e = (unrefused (is_directory m.kind) (gives_met desk.creds m ToRead) e).1

pub unrefused_directory : (creds : Creds) (m : Met) → met_refusal creds m ≡ None → m.kind ≡ Directory
unrefused_directory creds m e = is_directory-true m.kind (unrefused (is_directory m.kind) (gives_met creds m ToRead) e).0

-- ---- a check refuses

module _ (desk : DeskSeen) (s : SessionSeen) (path : Path) (from : ℕ) (m : Met) (met : HasMet desk s m) (comes : ComesHere desk s path m.ino) (nodes : Nodes) (rows : List (Option Row)) (p : ArePossible desk s.parcel s.reads nodes rows) where
  abbrev now : Nodes
  now = batch_nodes desk.creds s.calls nodes

  refuses_node : (reply : Reply) → met_refusal desk.creds m ≡ Some reply → list_refusal desk.creds (rights_of (met.1.met nodes rows p).after) ≡ Some reply
  refuses_node reply e = by m.rights refl
    where
      t : IsMet met.0 s nodes (batch_nodes desk.creds s.calls nodes) desk.creds m
      t = met.1.met nodes rows p

      kinds : list_refusal desk.creds (rights_of (met.1.met nodes rows p).after) ≡ refusal_by (is_directory m.kind) (gives desk.creds ToRead (rights_of (met.1.met nodes rows p).after))
      kinds = ap (λ k. refusal_by (is_directory k) (gives desk.creds ToRead (rights_of (met.1.met nodes rows p).after))) (met.1.met nodes rows p).kind

      by : (o : Option shown_rights.Rights) → m.rights ≡ o → list_refusal desk.creds (rights_of (met.1.met nodes rows p).after) ≡ Some reply
      by (Some r) known =
          kinds ∙ ap (λ g. refusal_by (is_directory m.kind) g) (gives_known met.0 s nodes (batch_nodes desk.creds s.calls nodes) desk.creds m (met.1.met nodes rows p) ToRead r known) ∙ e
      by None none =
          kinds
          ∙ only_regular (is_directory m.kind) (gives desk.creds ToRead (rights_of (met.1.met nodes rows p).after)) reply
          (sym (ap (λ o. refusal_by (is_directory m.kind) (option_map_or (λ (q : shown_rights.Rights). permits desk.creds m.kind q.mode q.uid q.gid ToRead) o true)) none) ∙ e)

  refused_here : (reply : Reply) → met_refusal desk.creds m ≡ Some reply → IsRefusedAs desk (ListNames path from) reply (batch_nodes desk.creds s.calls nodes)
  refused_here reply e =
      list_refused_by_check desk (record { call = ListNames path from; reply = reply; made = 0 }) (batch_nodes desk.creds s.calls nodes) path from m.ino (rights_of (met.1.met nodes rows p).after) refl (comes nodes rows p)
      (ap (option_map rights_of) (met.1.met nodes rows p).there_now) (refuses_node reply e) refl

pub met_refused : {D : Type 0} (called : D → Ask → Told → D → Type 0) (seen : D → DeskSeen) (d : D) (s s' : SessionSeen) (path : Path) (from : ℕ) (m : Met) → MayCall (seen d) s → HasMet (seen d) s m → ComesHere (seen d) s path m.ino
    → s' ≡ record s { room = s'.room } → (reply : Reply) → met_refusal (seen d).creds m ≡ Some reply → (result : Result replied.Replied Stop)
    → MatchResult result (λ r. (r ≡ record { reply = reply; made = 0 }) × (length s'.calls < s'.room.calls)) (λ stop. stop ≡ LacksMemory)
    → Goes called seen d s (ListNames path from) (λ now. listing_at (seen d).creds m) (try_ends result) (number_made result) d s'
met_refused called seen d s s' path from m may met comes kept reply e result ends =
    refused_goes called seen d s s' (ListNames path from) (λ now. listing_at (seen d).creds m) may kept
    (λ nodes rows p. ap (λ (o : Option Reply). cond (is_some o) [] (record { ino = m.ino; kind = Read } ∷ [])) e) reply (refusal_is (is_directory m.kind) (gives_met (seen d).creds m ToRead) reply e)
    (λ nodes rows p. refused_here (seen d) s path from m met comes nodes rows p reply e) result ends

-- ---- a directory that is had

-- nothing is wanted
no_wants : (now : Nodes) (creds : Creds) (path : Path) (from : ℕ) (t : Target) (x : SessionSeen) → wants_of now creds (ListNames path from) t x ≡ []
no_wants now creds path from t x = by (is_done (applied now creds (ListNames path from) 0).reply)
  where
    by : (b : Bool) → cond b (allot_asks 0 0) [] ≡ []
    by true = refl
    by false = refl

module _ {D : Type 0} (called : D → Ask → Told → D → Type 0) (seen : D → DeskSeen) (d : D) (s s' : SessionSeen) (path : Path) (from n : ℕ) (may : MayCall (seen d) s) (comes : ComesHere (seen d) s path n)
    (served : serves s n Read ≡ true) (kind : kind_shown s n ≡ Some Directory) (kept : s' ≡ record s { room = s'.room }) where
  abbrev names : List (List ℕ × Kind)
  names = names_here s n

  near : (P : Nodes → Type 0) → InAllShown (seen d) s P → InAllShown (seen d) s' P
  near P h = subst (λ (q : SessionSeen). InAllShown (seen d) q P) (sym kept) h

  module _ (body : List ℕ) (there : body_shown s n ≡ Some body) where
    abbrev rights : Rights
    rights = rights_in Directory body

    names_done : gives (seen d).creds ToRead (rights_in Directory body) ≡ true → InAllShown (seen d) s (IsRefusedAs (seen d) (ListNames path from) (IsReplied (Names (length (names_here s n)) (take 64 (drop from (names_here s n))))))
    names_done g nodes rows p =
        let h = had_here (seen d) s may n nodes rows p served kind body there in
        lists_names (seen d) (record { call = ListNames path from; reply = IsReplied (Names (length names) (take 64 (drop from names))); made = 0 }) (batch_nodes (seen d).creds s.calls nodes) path from n rights (length names) names
        refl (comes nodes rows p) h.rights (ap (λ b. cond (not b) (Some Denied) None) g) h.count h.names refl refl

    denied_done : gives (seen d).creds ToRead (rights_in Directory body) ≡ false → InAllShown (seen d) s (IsRefusedAs (seen d) (ListNames path from) Denied)
    denied_done g nodes rows p =
        let h = had_here (seen d) s may n nodes rows p served kind body there in
        list_refused_by_check (seen d) (record { call = ListNames path from; reply = Denied; made = 0 }) (batch_nodes (seen d).creds s.calls nodes) path from n rights refl (comes nodes rows p) h.rights
        (ap (λ b. cond (not b) (Some Denied) None) g) refl

    names_go : gives (seen d).creds ToRead (rights_in Directory body) ≡ true → length s'.calls < s'.room.calls
        → Goes called seen d s (ListNames path from) (λ now. []) (Replied (IsReplied (Names (length (names_here s n)) (take 64 (drop from (names_here s n)))))) 0 d s'
    names_go g room = record {
      target = record { dir = 0; new_dir = 0; ino = n };
      given = [];
      last = [];
      passes = passes_none called seen d s s' (alike_room s s' kept);
      ends = refl;
      leaves = alike_room s s' kept;
      numbered = refl;
      comes = near (λ now. is_done (applied now (seen d).creds (ListNames path from) 0).reply ≡ true → walk now (seen d).creds [] path ≡ Ok n) (λ nodes rows p done. comes nodes rows p);
      asks = λ nodes rows p. no_wants (batch_nodes (seen d).creds s'.calls nodes) (seen d).creds path from (record { dir = 0; new_dir = 0; ino = n }) s;
      after =
          let reply : Reply = IsReplied (Names (length names) (take 64 (drop from names))) in (
            may_alike (seen d) (noted (ListNames path from) reply 0 s) (noted (ListNames path from) reply 0 s') (ap (noted (ListNames path from) reply 0) (alike_room s s' kept))
                (may_looked (seen d) s (ListNames path from) reply may (names_done g)),
            room,
            tt,
            λ b. (may_alike (seen d) s s' (alike_room s s' kept) may, λ creds t x. refl),
          );
    }

    -- its names, or a refusal where its rights don't give reading
    reply_goes : (g : Bool) → gives (seen d).creds ToRead (rights_in Directory body) ≡ g → length s'.calls < s'.room.calls
        → Goes called seen d s (ListNames path from) (λ now. []) (Replied (cond g (IsReplied (Names (length (names_here s n)) (take 64 (drop from (names_here s n))))) Denied)) 0 d s'
    reply_goes true g room = names_go g room
    reply_goes false g room = refuses called seen d s s' (ListNames path from) (λ now. []) may kept (λ nodes rows p. refl) Denied tt (denied_done g) room

  pub taken_goes : IsHad s n → (result : Result replied.Replied Stop)
      → MatchResult result (λ r. (r ≡ record { reply = list_reply (seen d).creds s n from; made = 0 }) × (length s'.calls < s'.room.calls)) (λ stop. stop ≡ LacksMemory)
      → Goes called seen d s (ListNames path from) (λ now. []) (try_ends result) (number_made result) d s'
  taken_goes had (Ok r) ends =
      subst (λ (x : replied.Replied). Goes called seen d s (ListNames path from) (λ now. []) (Replied x.reply) x.made d s') (sym ends.0)
      (reply_goes (body_had s n) (there_had s n had) (gives (seen d).creds ToRead (rights_in Directory (body_had s n))) refl ends.1)
  taken_goes had (Err stop) ends =
      subst (λ x. Goes called seen d s (ListNames path from) (λ now. []) (try_ends (Err x)) 0 d s') (sym ends) (lacks called seen d s s' (ListNames path from) (λ now. []) may kept)

-- ---- the directory is taken

listing_one : (creds : Creds) (m : Met) → met_refusal creds m ≡ None → listing_at creds m ≡ record { ino = m.ino; kind = Read } ∷ []
listing_one creds m e = ap (λ (o : Option Reply). cond (is_some o) [] (record { ino = m.ino; kind = Read } ∷ [])) e

stops_by : (reply : Reply) (s' : SessionSeen) (result : Result replied.Replied Stop) → MatchResult result (λ r. (r ≡ record { reply = reply; made = 0 }) × (length s'.calls < s'.room.calls)) (λ stop. stop ≡ LacksMemory) → StopsBy (IsReply reply) result s'
stops_by reply s' (Ok r) e = e
stops_by reply s' (Err stop) e = e

module _ {D : Type 0} (called : D → Ask → Told → D → Type 0) (seen : D → DeskSeen) (d : D) (s : SessionSeen) (m : Met) (may : MayCall (seen d) s) (unchecked : met_refusal (seen d).creds m ≡ None) (d1 : D) (s1 : SessionSeen)
    (t : Took called seen d s m Read (Ok true) d1 s1) where
  pub taken_may : MayCall (seen d1) s1
  taken_may = way_may called seen d s t.more t.last d1 s1 may t.way t.may

  taken_kind : kind_shown s1 m.ino ≡ Some Directory
  taken_kind = t.taken.2.of_kind (λ e. absurd (cc e)) ∙ ap Some (unrefused_directory (seen d).creds m unchecked)

  pub taken_had : AreWithinLimits (seen d).sizes → IsHad s1 m.ino
  taken_had limits = had_served (seen d1) s1 m.ino taken_may.edits (subst (λ (z : Sizes). AreWithinLimits z) (sym t.way.sizes) limits) Read (λ e. absurd (cc e)) t.taken.2.served

module _ {D : Type 0} (called : D → Ask → Told → D → Type 0) (seen : D → DeskSeen) (d : D) (s : SessionSeen) (path : Path) (from : ℕ) (m : Met) (may : MayCall (seen d) s) (comes : ComesHere (seen d) s path m.ino)
    (unchecked : met_refusal (seen d).creds m ≡ None) (d1 : D) (s1 : SessionSeen) where
  abbrev needs : Nodes → List Needed
  needs x = listing_at (seen d).creds m

  needs_one : InAllShown (seen d) s (λ now. listing_at (seen d).creds m ≡ record { ino = m.ino; kind = Read } ∷ [])
  needs_one nodes rows p = listing_one (seen d).creds m unchecked

  module _ (t : Took called seen d s m Read (Ok true) d1 s1) where
    went1 : Went called seen d s (map lent_call t.more) [] d1 s1
    went1 = taking.went called seen d s (ListNames path from) m Read may needs needs_one d1 s1 t

    comes_still : ComesHere (seen d1) s1 path m.ino
    comes_still =
        subst (λ (k : Creds). InAllShown (seen d1) s1 (λ now. walk now k [] path ≡ Ok m.ino)) (sym went1.passes.same.creds)
        (taking.over called seen d s (ListNames path from) m Read may needs needs_one d1 s1 t (λ now. walk now (seen d).creds [] path ≡ Ok m.ino) comes)

    pub listed_goes : IsHad s1 m.ino → (s' : SessionSeen) → s' ≡ record s1 { room = s'.room } → (result : Result replied.Replied Stop)
        → MatchResult result (λ r. (r ≡ record { reply = list_reply (seen d1).creds s1 m.ino from; made = 0 }) × (length s'.calls < s'.room.calls)) (λ stop. stop ≡ LacksMemory)
        → Goes called seen d s (ListNames path from) (λ now. listing_at (seen d).creds m) (try_ends result) (number_made result) d1 s'
    listed_goes had s' kept result ends =
        taking.held_goes called seen d s (ListNames path from) m Read may needs needs_one d1 s1 t (try_ends result) (number_made result) d1 s'
        (taken_goes called seen d1 s1 s' path from m.ino (taken_may called seen d s m may unchecked d1 s1 t) comes_still t.taken.2.served (taken_kind called seen d s m may unchecked d1 s1 t) kept had result ends)

  -- ---- it isn't

  -- how the taking ends, as a walk that comes to no file
  abbrev Ending : WalkEnd → Type 0
  Ending end = Walked called seen d s (λ these now. Unit {0}) end d1 s1

  module _ (t : Took called seen d s m Read (Ok false) d1 s1) where
    abbrev denied_end : Ending (IsReply Denied)
    denied_end = record {
      more = t.more;
      last = t.last;
      need = record { ino = 1; kind = Read } ∷ [];
      way = t.way;
      ends = inr (Read, refl, t.taken.1, refl);
      shown = λ nodes rows p. tt;
    }

    denied_may : MayCall (seen d1) s1
    denied_may = way_may called seen d s t.more t.last d1 s1 may t.way t.may

    -- that is the check of the root's rights, which weren't known before
    denied_here : InAllShown (seen d1) s1 (IsRefusedAs (seen d1) (ListNames path from) Denied)
    denied_here nodes rows p =
        let now : Nodes = batch_nodes (seen d1).creds s1.calls nodes in
        let root = sees_root (seen d1) (in_hand s1) (in_hand s1) nodes now rows (view_calls (seen d1) s1 denied_may nodes rows p) in
        let there : HasRights (seen d1).root (node_at now m.ino) = subst (λ n. HasRights (seen d1).root (node_at now n)) (sym t.taken.3) root in
        let lacks' : gives (seen d1).creds ToRead (seen d1).root ≡ false =
        ap (λ (c : Creds). gives c ToRead (seen d1).root) t.way.creds ∙ ap (λ r. gives (seen d).creds ToRead r) t.way.root ∙ not-true (gives (seen d).creds ToRead (seen d).root) t.taken.5 in
        let first : Some (rights_of p.tree.root.0) ≡ Some (seen d1).root = sym (ap (option_map rights_of) p.tree.root.1) ∙ p.agrees.root_is in
        let root_is : rights_of p.tree.root.0 ≡ (seen d1).root = cc first in
        let dir : (seen d1).root.kind ≡ Directory = sym (ap (λ (r : Rights). r.kind) root_is) ∙ p.tree.root.2 in
        let here : walk now (seen d1).creds [] path ≡ Ok m.ino =
        subst (λ (k : Creds). InAllShown (seen d1) s1 (λ x. walk x k [] path ≡ Ok m.ino)) (sym t.way.creds)
        (taking.still called seen d s (ListNames path from) m Read may needs needs_one d1 s1 t.more t.last t.way (λ x. walk x (seen d).creds [] path ≡ Ok m.ino) comes) nodes rows p in
        list_refused_by_check (seen d1) (record { call = ListNames path from; reply = Denied; made = 0 }) now path from m.ino (seen d1).root refl here there
        (ap (λ k. refusal_by (is_directory k) (gives (seen d1).creds ToRead (seen d1).root)) dir ∙ ap (λ b. cond (not b) (Some Denied) None) lacks') refl

    pub denied_goes : (s' : SessionSeen) → s' ≡ record s1 { room = s'.room } → (result : Result replied.Replied Stop)
        → MatchResult result (λ r. (r ≡ record { reply = Denied; made = 0 }) × (length s'.calls < s'.room.calls)) (λ stop. stop ≡ LacksMemory)
        → Goes called seen d s (ListNames path from) (λ now. listing_at (seen d).creds m) (try_ends result) (number_made result) d1 s'
    denied_goes s' kept result ends =
        stop_goes called seen d s (ListNames path from) needs needs may d1 s1 s' (λ these now. Unit {0}) (IsReply Denied) denied_end t.may kept tt
        (λ nodes rows p. ap (asked (served_by s)) (listing_one (seen d).creds m unchecked) ∙ asked-one s m.ino Read ∙ t.taken.2 ∙ sym (ap (λ l. map need_of l ++ record { ino = 1; kind = Read } ∷ []) t.taken.0))
        (λ nodes rows p. refl)
        (λ reply e. subst (λ (r : Reply). InAllShown (seen d1) s1 (IsRefusedAs (seen d1) (ListNames path from) r)) (let same : IsReply Denied ≡ IsReply reply = e in cc same) denied_here)
        result (stops_by Denied s' result ends)

  pub busy_goes : (holder : Holder) → Took called seen d s m Read (Err (IsBusyWalk holder)) d1 s1 → Goes called seen d s (ListNames path from) (λ now. listing_at (seen d).creds m) (Busy holder) 0 d1 s1
  busy_goes holder t = taking.busy_goes called seen d s (ListNames path from) m Read may needs needs_one d1 s1 holder t

  pub short_goes : Took called seen d s m Read (Err NoWalkMemory) d1 s1 → Goes called seen d s (ListNames path from) (λ now. listing_at (seen d).creds m) (try_ends (Err LacksMemory)) 0 d1 s1
  short_goes t = taking.short_goes called seen d s (ListNames path from) m Read may needs needs_one d1 s1 t
