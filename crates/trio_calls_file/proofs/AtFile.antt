-- A call at the file to which its walk came.
use Rattle.trio_calls_file.proofs.Words.{◌++◌, ◌+◌, ◌-◌, ◌/◌, ◌<◌, ◌∙◌, ◌∷◌, ◌≡◌, ◌≢◌, ArePossible, AreWithinLimits, Ask, Bool, Busy, Call, CallBusyAt, Chmod, ComesHere, Create, Creds, Denied, DeniedGrant, DeskSeen, Directory, DoesCall, Err, Goes, Grant, HasMet, HasRights, InAllShown, InBoth, IsAlike, IsDir, IsFileCall, HasNoMemory, Holder, IsHad, Kind, LacksMemory, Lease, List, ListNames, MatchResult, MayCall, MayTake, Met, Mkdir, Needed, NoMemory, Node, Nodes, None, NotLent, Ok, Option, Outcome, Path, Read, ReadGrant, Regular, Rename, Replied, Reply, Result, Rmdir, Row, SessionSeen, Some, Stat, Stop, ToRead, Told, Took, Truncate, Unlink, Way, Went, Write, WriteGrant, [], alike_room, allot_asks, ap, append-nil, append_assoc, applied, arith, asks_at, asks_lent, batch_nodes, both_then, bytes_refusal, checked, cond, false, gives, gives_met, grant_ask, grant_for, growth_of, in_hand, inr, is_done, kind_shown, largest_size, leb, length, lent_call, map, map-append, may_alike, need_for, need_of, node_at, not, path_of, refl, refusal_at, refused_by_check, sees_root, shown_by, subst, sym, true, try_ends, walk, walked_growth, wanted_pages, wants_pages_for, ℕ, Guard, IsLink, Link, NotLink, Readlink, Symlink, text_refusal}
use Rattle.trio_nodes.specs.declared.grant.GrantKind.TheVariants.{Hold as HoldGrant}
use Rattle.trio_desk.specs.Calls as desk_calls
use Rattle.trio_desk.specs.Contents.{Sizes}
use Rattle.trio_walk.specs.declared.walks.WalkEnd.TheVariants.{Busy as IsBusyWalk}
use Rattle.std.proofs.lemmas.Bool.{not-true}
use Rattle.trio_walk.specs.Walks.{denies}
use Rattle.trio_calls_file.proofs.AfterTaking.{goes_on}
use Rattle.trio_calls_file.proofs.Checking.{asks_none, asks_own, refused_at, refuses_call, root_kind}
use Rattle.trio_calls_file.proofs.Looked.{look_goes, may_looked, refused_look, refused_undone}
use Rattle.trio_calls_file.proofs.Alike.{both_alike}
use Rattle.trio_calls_file.proofs.Walkable.{way_may}
use Rattle.trio_walk.proofs.Meeting.{met_still}
use Rattle.trio_walk.proofs.Stops.{short_walk, way_asks}
use Rattle.trio_walk.proofs.Ways.{took_busy, way_calls, way_more, way_same, way_went, went_alike, went_none}
use Rattle.trio_edit_laws.proofs.Had.{had_served}

-- ---- what no check refuses

bytes_taken : (kind : Kind) (g f : Bool) → bytes_refusal kind g f ≡ None → (g ≡ true) × (kind ≡ Regular)
bytes_taken Directory g f e = absurd (let wrong : Some IsDir ≡ None = e in cc wrong)
bytes_taken Link g f e = absurd (let wrong : Some IsLink ≡ None = e in cc wrong)
bytes_taken Regular true f e = (refl, refl)
bytes_taken Regular false f e = absurd (let wrong : Some Denied ≡ None = e in cc wrong)

text_taken : (kind : Kind) (g : Bool) → text_refusal kind g ≡ None → (g ≡ true) × (kind ≡ Link)
text_taken Directory g e = absurd (let wrong : Some NotLink ≡ None = e in cc wrong)
text_taken Regular g e = absurd (let wrong : Some NotLink ≡ None = e in cc wrong)
text_taken Link true e = (refl, refl)
text_taken Link false e = absurd (let wrong : Some Denied ≡ None = e in cc wrong)

stat_taken : (g : Bool) → cond (not g) (Some Denied) None ≡ None → g ≡ true
stat_taken true e = refl
stat_taken false e = absurd (let wrong : Some Denied ≡ None = e in cc wrong)

-- no call of a file takes a hold
pub not_held : (c : Call) → grant_for c ≡ HoldGrant → ⊥
not_held (Write path at bytes) e = cc e
not_held (Truncate path size) e = cc e
not_held (Read path at len) e = cc e
not_held (Stat path) e = cc e
not_held (Mkdir path mode) e = cc e
not_held (Create path mode) e = cc e
not_held (Unlink path) e = cc e
not_held (Rmdir path) e = cc e
not_held (Rename from to) e = cc e
not_held (ListNames path from) e = cc e
not_held (Chmod path mode) e = cc e
not_held (Symlink path text) e = cc e
not_held (Readlink path) e = cc e
not_held (Guard path on) e = cc e

-- ---- growths

growth_none : (c : ℕ) → (c - c) + ((c + 510) / 511 - (c + 510) / 511) ≡ 0
growth_none c = omega arith

-- a call that leaves the size of its file
abbrev pub KeepsSize : Call → Type 0
KeepsSize (Read path at len) = Unit {0}
KeepsSize (Stat path) = Unit {0}
KeepsSize (Readlink path) = Unit {0}
KeepsSize (Guard path on) = Unit {0}
KeepsSize call = ⊥

kept_growth : (call : Call) → KeepsSize call → (o : Option Node) → growth_of call o ≡ 0
kept_growth call look None = refl
kept_growth (Read path at len) look (Some x) = growth_none ((length x.bytes + 4095) / 4096)
kept_growth (Stat path) look (Some x) = growth_none ((length x.bytes + 4095) / 4096)
kept_growth (Mkdir path mode) look (Some x) = absurd look
kept_growth (Create path mode) look (Some x) = absurd look
kept_growth (Write path at bytes) look (Some x) = absurd look
kept_growth (Truncate path size) look (Some x) = absurd look
kept_growth (Unlink path) look (Some x) = absurd look
kept_growth (Rmdir path) look (Some x) = absurd look
kept_growth (Rename from to) look (Some x) = absurd look
kept_growth (ListNames path from) look (Some x) = absurd look
kept_growth (Chmod path mode) look (Some x) = absurd look
kept_growth (Symlink path text) look (Some x) = absurd look
kept_growth (Readlink path) look (Some x) = growth_none ((length x.bytes + 4095) / 4096)
kept_growth (Guard path on) look (Some x) = growth_none ((length x.bytes + 4095) / 4096)

-- wants no page
pub no_pages : (creds : Creds) (call : Call) (now : Nodes) → KeepsSize call → allot_asks (wanted_pages now creds call) 0 ≡ []
no_pages creds call now look = by (is_done (applied now creds call 0).reply) (walk now creds [] (path_of call))
  where
    by : (b : Bool) (r : Result ℕ Reply) → allot_asks (cond b (walked_growth now call r) 0) 0 ≡ []
    by true (Ok n) = ap (λ (k : ℕ). allot_asks k 0) (kept_growth call look (node_at now n))
    by true (Err reply) = refl
    by false r = refl

-- the walk comes there behind a taking too
comes_behind : {D : Type 0} (called : D → Ask → Told → D → Type 0) (seen : D → DeskSeen) (d : D) (s : SessionSeen) (call : Call) (m : Met) → ComesHere (seen d) s (path_of call) m.ino → (d1 : D) (s1 : SessionSeen) (more : List Lease) (last : List desk_calls.Call)
    → Way called seen d s more last d1 s1 → ComesHere (seen d1) s1 (path_of call) m.ino
comes_behind called seen d s call m comes d1 s1 more last way =
    subst (λ (k : Creds). InBoth (seen d1) s1 (λ nodes now. walk now k [] (path_of call) ≡ Ok m.ino)) (sym way.creds)
    (both_then (seen d) (seen d1) s s1 (λ nodes now. walk now (seen d).creds [] (path_of call) ≡ Ok m.ino) (way_same called seen d s more last d1 s1 way) (way_more called seen d s more last d1 s1 way) (way_calls called seen d s more last d1 s1 way) comes)

module _ {D : Type 0} (called : D → Ask → Told → D → Type 0) (seen : D → DeskSeen) (d : D) (s : SessionSeen) (call : Call) (m : Met) (may : MayCall (seen d) s) (met : HasMet (seen d) s m) (comes : ComesHere (seen d) s (path_of call) m.ino) (file : IsFileCall call) where
  abbrev asking : desk_calls.Call → Ask
  asking c = c.ask

  -- ---- a check refuses

  pub refused_goes : (reply : Reply) → checked (seen d).creds m call ≡ Some reply → (s' : SessionSeen) → s' ≡ record s { room = s'.room } → (result : Result Reply Stop)
      → MatchResult result (λ r. (r ≡ reply) × (length s'.calls < s'.room.calls)) (λ stop. stop ≡ LacksMemory)
      → Goes called seen d s call m.ino (asks_at (seen d).creds s m call) (try_ends result) d s'
  refused_goes reply e s' kept result ends =
      let is = refused_at m.kind (gives_met (seen d).creds m (need_for call)) call reply e in
      let does : InAllShown (seen d) s (λ now. DoesCall (seen d) (record { call = call; reply = reply; made = 0 }) now now) = λ nodes rows p. refuses_call (seen d) s call m may met comes file nodes rows p reply e in
      let none : InAllShown (seen d) s (λ now. asks_at (seen d).creds s m call now ≡ map asking []) =
      λ nodes rows p. asks_none (seen d).creds s m call (batch_nodes (seen d).creds s.calls nodes) reply e (refused_undone (seen d) call reply (batch_nodes (seen d).creds s.calls nodes) is (does nodes rows p)) in
      look_goes called seen d s call m.ino (asks_at (seen d).creds s m call) [] d s s' (went_none called seen d s s refl) may none reply (refused_look call reply is) does kept result ends

  -- ---- the file is taken

  module _ (unchecked : checked (seen d).creds m call ≡ None) (d1 : D) (s1 : SessionSeen) where
    module _ (t : Took called seen d s m (grant_for call) (Ok true) d1 s1) where
      went : Went called seen d s (map lent_call t.more) [] d1 s1
      went = subst (λ l. Went called seen d s (map lent_call t.more) l d1 s1) t.taken.0 (way_went called seen d s t.more t.last d1 s1 t.way)

      pub taken_may : MayCall (seen d1) s1
      taken_may = way_may called seen d s t.more t.last d1 s1 may t.way t.may

      pub taken_limits : AreWithinLimits (seen d).sizes → AreWithinLimits (seen d1).sizes
      taken_limits l = subst (λ (z : Sizes). AreWithinLimits z) (sym t.way.sizes) l

      pub taken_had : AreWithinLimits (seen d).sizes → IsHad s1 m.ino
      taken_had l = had_served (seen d1) s1 m.ino taken_may.edits (taken_limits l) (grant_for call) (not_held call) t.taken.2.served

      pub taken_kind : kind_shown s1 m.ino ≡ Some m.kind
      taken_kind = t.taken.2.of_kind (not_held call)

      -- what was met is met still, and the walk comes there
      pub taken_met : HasMet (seen d1) s1 m
      taken_met = (met.0, met_still (seen d) (seen d1) s s1 t.more t.way.took t.way.sizes t.way.root t.way.creds met.0 m met.1)

      pub comes_still : ComesHere (seen d1) s1 (path_of call) m.ino
      comes_still = comes_behind called seen d s call m comes d1 s1 t.more t.last t.way

      pub unchecked_still : checked (seen d1).creds m call ≡ None
      unchecked_still = ap (λ (k : Creds). checked k m call) t.way.creds ∙ unchecked

      -- what is wanted, while what is asked of the file was given
      wanted_then : InAllShown (seen d1) s1 (λ now. asks_at (seen d).creds s m call now ≡ map asking (map lent_call t.more) ++ wants_pages_for (seen d1).creds call now)
      wanted_then nodes rows p =
          let now : Nodes = batch_nodes (seen d1).creds s1.calls nodes in
          asks_own (seen d).creds s m call now unchecked
          ∙ ap (λ l. l ++ allot_asks (wanted_pages now (seen d).creds call) 0) (ap (map grant_ask) t.taken.1 ∙ asks_lent t.more)
          ∙ ap (λ k. map asking (map lent_call t.more) ++ allot_asks (wanted_pages now k call) 0) (sym t.way.creds)

      -- what comes then, with the pages that it asks
      pub taken_goes : (end : Outcome) (d' : D) (s' : SessionSeen) → Goes called seen d1 s1 call m.ino (wants_pages_for (seen d1).creds call) end d' s' → Goes called seen d s call m.ino (asks_at (seen d).creds s m call) end d' s'
      taken_goes end d' s' goes = goes_on called seen d d1 d' s s1 s' call m.ino (map lent_call t.more) went end (asks_at (seen d).creds s m call) (wants_pages_for (seen d1).creds call) wanted_then goes

    -- ---- it isn't

    -- a try whose file is busy
    pub busy_goes : (holder : Holder) → Took called seen d s m (grant_for call) (Err (IsBusyWalk holder)) d1 s1 → Goes called seen d s call m.ino (asks_at (seen d).creds s m call) (Busy holder) d1 s1
    busy_goes holder t =
        let went : Went called seen d s (map lent_call t.more) t.last d1 s1 = way_went called seen d s t.more t.last d1 s1 t.way in
        record {
          given = map lent_call t.more;
          last = t.last;
          passes = went.passes;
          ends = (m.ino, grant_for call, t.taken.1);
          leaves = went.alike;
          asks = λ nodes rows p.
              let now : Nodes = batch_nodes (seen d1).creds s1.calls nodes in (
                allot_asks (wanted_pages now (seen d).creds call) 0,
                asks_own (seen d).creds s m call now unchecked
                    ∙ ap (λ l. l ++ allot_asks (wanted_pages now (seen d).creds call) 0) (ap (map grant_ask) t.taken.2 ∙ sym (ap (map asking) (ap (λ (ls : List Lease). map lent_call ls ++ t.last) t.taken.0 ∙ t.taken.1))),
              );
          after = way_may called seen d s t.more t.last d1 s1 may t.way t.may;
        }

    -- or for which there was no memory
    pub short_goes : Took called seen d s m (grant_for call) (Err HasNoMemory) d1 s1 → Goes called seen d s call m.ino (asks_at (seen d).creds s m call) NoMemory d1 s1
    short_goes t =
        let went : Went called seen d s (map lent_call t.more) t.last d1 s1 = way_went called seen d s t.more t.last d1 s1 t.way in
        let these : List Needed = map need_of t.more ++ t.taken.0 in
        let rest : List Needed = t.taken.1 in
        record {
          given = map lent_call t.more;
          last = t.last;
          passes = went.passes;
          ends = short_walk t.last t.taken.0 t.taken.2;
          leaves = went.alike;
          asks = λ nodes rows p.
              let now : Nodes = batch_nodes (seen d1).creds s1.calls nodes in
              let pages : List Ask = allot_asks (wanted_pages now (seen d).creds call) 0 in (
                map grant_ask rest ++ pages,
                asks_own (seen d).creds s m call now unchecked
                    ∙ ap (λ l. l ++ pages) (ap (map grant_ask) t.taken.3 ∙ map-append grant_ask these rest ∙ ap (λ l. l ++ map grant_ask rest) (way_asks HasNoMemory t.more t.last t.taken.0 t.taken.2))
                    ∙ append_assoc (map asking (map lent_call t.more ++ t.last)) (map grant_ask rest) pages,
              );
          after = way_may called seen d s t.more t.last d1 s1 may t.way t.may;
        }

-- ---- the root denies its grant

only_stat : (g : Bool) (call : Call) → IsFileCall call → refusal_at Directory g call ≡ None → (path : Path) × (call ≡ Stat path)
only_stat g (Stat path) file e = (path, refl)
only_stat g (Write path at bytes) file e = absurd (let wrong : Some IsDir ≡ None = e in cc wrong)
only_stat g (Truncate path size) file e = absurd (let wrong : Some IsDir ≡ None = e in cc wrong)
only_stat g (Read path at len) file e = absurd (let wrong : Some IsDir ≡ None = e in cc wrong)
only_stat g (Mkdir path mode) file e = absurd file
only_stat g (Create path mode) file e = absurd file
only_stat g (Unlink path) file e = absurd file
only_stat g (Rmdir path) file e = absurd file
only_stat g (Rename from to) file e = absurd file
only_stat g (ListNames path from) file e = absurd file
only_stat g (Chmod path mode) file e = absurd file
only_stat g (Symlink path text) file e = absurd file
only_stat g (Readlink path) file e = absurd (let wrong : Some NotLink ≡ None = e in cc wrong)
only_stat g (Guard path on) file e = absurd (let wrong : Some IsDir ≡ None = e in cc wrong)

module _ {D : Type 0} (called : D → Ask → Told → D → Type 0) (seen : D → DeskSeen) (d : D) (s : SessionSeen) (call : Call) (m : Met) (may : MayCall (seen d) s) (met : HasMet (seen d) s m) (comes : ComesHere (seen d) s (path_of call) m.ino)
    (file : IsFileCall call) (unchecked : checked (seen d).creds m call ≡ None) (d1 : D) (s1 : SessionSeen) (t : Took called seen d s m (grant_for call) (Ok false) d1 s1) where
  abbrev denial : desk_calls.Call
  denial = record { ask = Grant 1 (grant_for call); told = NotLent (DeniedGrant 1) }

  abbrev given : List desk_calls.Call
  given = map lent_call t.more

  comes_then : ComesHere (seen d1) s1 (path_of call) m.ino
  comes_then = comes_behind called seen d s call m comes d1 s1 t.more t.last t.way

  may1 : MayCall (seen d1) s1
  may1 = way_may called seen d s t.more t.last d1 s1 may t.way t.may

  module _ (nodes : Nodes) (rows : List (Option Row)) (p : ArePossible (seen d1) s1.parcel s1.reads nodes rows) where
    abbrev now : Nodes
    now = batch_nodes (seen d1).creds s1.calls nodes

    -- only a stat comes so far with a directory
    denied_stat : (path : Path) × (call ≡ Stat path)
    denied_stat =
        let kind = root_kind (seen d1) s1 call m may1 (met.0, met_still (seen d) (seen d1) s s1 t.more t.way.took t.way.sizes t.way.root t.way.creds met.0 m met.1) comes_then file nodes rows p t.taken.4 in
        only_stat (gives_met (seen d).creds m (need_for call)) call file (ap (λ k. refusal_at k (gives_met (seen d).creds m (need_for call)) call) (sym kind) ∙ unchecked)

    -- of it that is the check of the root's rights, of which it was not known before
    denied_here : (path : Path) → call ≡ Stat path → DoesCall (seen d1) (record { call = Stat path; reply = Denied; made = 0 }) (batch_nodes (seen d1).creds s1.calls nodes) (batch_nodes (seen d1).creds s1.calls nodes)
    denied_here path is =
        let k : MayCall (seen d1) s1 = may1 in
        let shows = shown_by (seen d1) (in_hand s1) (in_hand s1) s1.calls nodes rows (λ n r q. q) k.comes p in
        let root = sees_root (seen d1) (in_hand s1) (in_hand s1) nodes now rows (record { order = k.edits.order; more = λ n r q. q; shows = shows }) in
        let there : HasRights (seen d1).root (node_at now m.ino) = subst (λ n. HasRights (seen d1).root (node_at now n)) (sym t.taken.3) root in
        let denied : denies (seen d).creds (seen d).root ReadGrant ≡ true = subst (λ c. denies (seen d).creds (seen d).root (grant_for c) ≡ true) is t.taken.5 in
        let lacks : gives (seen d1).creds ToRead (seen d1).root ≡ false =
        ap (λ (c : Creds). gives c ToRead (seen d1).root) t.way.creds ∙ ap (λ r. gives (seen d).creds ToRead r) t.way.root ∙ not-true (gives (seen d).creds ToRead (seen d).root) denied in
        let here : walk now (seen d1).creds [] path ≡ Ok m.ino = subst (λ c. walk (batch_nodes (seen d1).creds s1.calls nodes) (seen d1).creds [] (path_of c) ≡ Ok m.ino) is (comes_then nodes rows p) in
        refused_by_check (seen d1) (record { call = Stat path; reply = Denied; made = 0 }) now path m.ino (seen d1).root refl here there (ap (λ b. cond (not b) (Some Denied) None) lacks) refl

    denied_does : DoesCall (seen d1) (record { call = call; reply = Denied; made = 0 }) (batch_nodes (seen d1).creds s1.calls nodes) (batch_nodes (seen d1).creds s1.calls nodes)
    denied_does =
        let stat = denied_stat in
        subst (λ (c : Call). DoesCall (seen d1) (record { call = c; reply = Denied; made = 0 }) (batch_nodes (seen d1).creds s1.calls nodes) (batch_nodes (seen d1).creds s1.calls nodes)) (sym stat.1) (denied_here stat.0 stat.1)

    denied_asks : asks_at (seen d).creds s m call (batch_nodes (seen d1).creds s1.calls nodes) ≡ map (λ (c : desk_calls.Call). c.ask) (map lent_call t.more ++ t.last)
    denied_asks =
        let stat = denied_stat in
        let none : allot_asks (wanted_pages now (seen d).creds call) 0 ≡ [] =
        ap (λ c. allot_asks (wanted_pages now (seen d).creds c) 0) stat.1 ∙ no_pages (seen d).creds (Stat stat.0) now tt in
        asks_own (seen d).creds s m call now unchecked
        ∙ ap (λ l. map grant_ask l ++ allot_asks (wanted_pages now (seen d).creds call) 0) t.taken.2
        ∙ ap (λ l. Grant 1 (grant_for call) ∷ l) none
        ∙ sym (ap (map (λ (c : desk_calls.Call). c.ask)) (ap (λ (ls : List Lease). map lent_call ls ++ t.last) t.taken.0 ∙ t.taken.1))

  pub root_denied_goes : (s' : SessionSeen) → s' ≡ record s1 { room = s'.room } → (result : Result Reply Stop)
      → MatchResult result (λ r. (r ≡ Denied) × (length s'.calls < s'.room.calls)) (λ stop. stop ≡ LacksMemory)
      → Goes called seen d s call m.ino (asks_at (seen d).creds s m call) (try_ends result) d1 s'
  root_denied_goes s' kept result ends = by result ends
    where
      e : IsAlike s1 s'
      e = alike_room s1 s' kept

      went : Went called seen d s (map lent_call t.more) t.last d1 s'
      went = went_alike called seen d s (map lent_call t.more) t.last d1 s1 s' e (way_went called seen d s t.more t.last d1 s1 t.way)

      may' : MayCall (seen d1) s'
      may' = may_alike (seen d1) s1 s' e may1

      does : InAllShown (seen d1) s' (λ now. DoesCall (seen d1) (record { call = call; reply = Denied; made = 0 }) now now)
      does = both_alike (seen d1) s1 s' (λ nodes x. DoesCall (seen d1) (record { call = call; reply = Denied; made = 0 }) x x) e denied_does

      asks : InAllShown (seen d1) s' (λ now. asks_at (seen d).creds s m call now ≡ map (λ (c : desk_calls.Call). c.ask) (map lent_call t.more ++ t.last))
      asks = both_alike (seen d1) s1 s' (λ nodes x. asks_at (seen d).creds s m call x ≡ map (λ (c : desk_calls.Call). c.ask) (map lent_call t.more ++ t.last)) e denied_asks

      replied : length s'.calls < s'.room.calls → Goes called seen d s call m.ino (asks_at (seen d).creds s m call) (Replied Denied) d1 s'
      replied room = record {
        given = given;
        last = t.last;
        passes = went.passes;
        ends = inr (denial, t.taken.1, (grant_for call, refl));
        leaves = went.alike;
        asks = asks;
        after = (may_looked (seen d1) s' call Denied may' does, room, tt, λ b. absurd b);
      }

      short : Goes called seen d s call m.ino (asks_at (seen d).creds s m call) NoMemory d1 s'
      short = record {
        given = given;
        last = t.last;
        passes = went.passes;
        ends = inr (denial, t.taken.1, inr (grant_for call, refl));
        leaves = went.alike;
        asks = λ nodes rows p. ([], asks nodes rows p ∙ sym (append-nil (map (λ (c : desk_calls.Call). c.ask) (map lent_call t.more ++ t.last))));
        after = may';
      }

      by : (result : Result Reply Stop) → MatchResult result (λ r. (r ≡ Denied) × (length s'.calls < s'.room.calls)) (λ stop. stop ≡ LacksMemory) → Goes called seen d s call m.ino (asks_at (seen d).creds s m call) (try_ends result) d1 s'
      by (Ok r) h = subst (λ x. Goes called seen d s call m.ino (asks_at (seen d).creds s m call) (Replied x) d1 s') (sym h.0) (replied h.1)
      by (Err stop) h = subst (λ x. Goes called seen d s call m.ino (asks_at (seen d).creds s m call) (try_ends (Err x)) d1 s') (sym h) short

-- ---- words

-- a call that writes is of a regular file
pub write_regular : (creds : Creds) (m : Met) (call : Call) → IsFileCall call → grant_for call ≡ WriteGrant → checked creds m call ≡ None → m.kind ≡ Regular
write_regular creds m (Write path at bytes) file w e = (bytes_taken m.kind (gives_met creds m (need_for (Write path at bytes))) (leb (at + length bytes) largest_size) e).1
write_regular creds m (Truncate path size) file w e = (bytes_taken m.kind (gives_met creds m (need_for (Truncate path size))) (leb size largest_size) e).1
write_regular creds m (Read path at len) file w e = absurd (cc w)
write_regular creds m (Stat path) file w e = absurd (cc w)
write_regular creds m (Mkdir path mode) file w e = absurd file
write_regular creds m (Create path mode) file w e = absurd file
write_regular creds m (Unlink path) file w e = absurd file
write_regular creds m (Rmdir path) file w e = absurd file
write_regular creds m (Rename from to) file w e = absurd file
write_regular creds m (ListNames path from) file w e = absurd file
write_regular creds m (Chmod path mode) file w e = absurd file
write_regular creds m (Symlink path text) file w e = absurd file
write_regular creds m (Readlink path) file w e = absurd (cc w)
write_regular creds m (Guard path on) file w e = (bytes_taken m.kind (gives_met creds m (need_for (Guard path on))) true e).1

-- one that doesn't take it for reading writes
unread_regular : (creds : Creds) (m : Met) (call : Call) → IsFileCall call → grant_for call ≢ ReadGrant → checked creds m call ≡ None → m.kind ≡ Regular
unread_regular creds m (Write path at bytes) file w e = write_regular creds m (Write path at bytes) file refl e
unread_regular creds m (Truncate path size) file w e = write_regular creds m (Truncate path size) file refl e
unread_regular creds m (Read path at len) file w e = absurd (w refl)
unread_regular creds m (Stat path) file w e = absurd (w refl)
unread_regular creds m (Mkdir path mode) file w e = absurd file
unread_regular creds m (Create path mode) file w e = absurd file
unread_regular creds m (Unlink path) file w e = absurd file
unread_regular creds m (Rmdir path) file w e = absurd file
unread_regular creds m (Rename from to) file w e = absurd file
unread_regular creds m (ListNames path from) file w e = absurd file
unread_regular creds m (Chmod path mode) file w e = absurd file
unread_regular creds m (Symlink path text) file w e = absurd file
unread_regular creds m (Readlink path) file w e = absurd (w refl)
unread_regular creds m (Guard path on) file w e = write_regular creds m (Guard path on) file refl e

-- a grant of the library's own that keeps a file busy is one of the session's
pub busy_stopped : {D : Type 0} (called : D → Ask → Told → D → Type 0) (seen : D → DeskSeen) (d : D) (s : SessionSeen) (call : Call) (m : Met) (d1 : D) (s1 : SessionSeen) (holder : Holder)
    → MayCall (seen d) s → IsFileCall call → checked (seen d).creds m call ≡ None → Took called seen d s m (grant_for call) (Err (IsBusyWalk holder)) d1 s1 → CallBusyAt (seen d) s m call (Busy holder)
busy_stopped called seen d s call m d1 s1 holder may file e t = λ mine. (took_busy called seen d s m (grant_for call) may.edits.on d1 s1 holder t mine, λ writes. unread_regular (seen d).creds m call file writes e)

-- a call that no check refuses may take its file
pub may_take : (desk : DeskSeen) (s : SessionSeen) (m : Met) (call : Call) → IsFileCall call → checked desk.creds m call ≡ None → MayTake desk s m (grant_for call)
may_take desk s m (Write path at bytes) file e = (bytes_taken m.kind (gives_met desk.creds m (need_for (Write path at bytes))) (leb (at + length bytes) largest_size) e).0
may_take desk s m (Truncate path size) file e = (bytes_taken m.kind (gives_met desk.creds m (need_for (Truncate path size))) (leb size largest_size) e).0
may_take desk s m (Read path at len) file e = (bytes_taken m.kind (gives_met desk.creds m (need_for (Read path at len))) true e).0
may_take desk s m (Stat path) file e = stat_taken (gives_met desk.creds m (need_for (Stat path))) e
may_take desk s m (Mkdir path mode) file e = absurd file
may_take desk s m (Create path mode) file e = absurd file
may_take desk s m (Unlink path) file e = absurd file
may_take desk s m (Rmdir path) file e = absurd file
may_take desk s m (Rename from to) file e = absurd file
may_take desk s m (ListNames path from) file e = absurd file
may_take desk s m (Chmod path mode) file e = absurd file
may_take desk s m (Symlink path text) file e = absurd file
may_take desk s m (Readlink path) file e = (text_taken m.kind (gives_met desk.creds m (need_for (Readlink path))) e).0
may_take desk s m (Guard path on) file e = (bytes_taken m.kind (gives_met desk.creds m (need_for (Guard path on))) true e).0

-- a reading of a link's text is of a link
pub text_link : (creds : Creds) (m : Met) (path : Path) → checked creds m (Readlink path) ≡ None → m.kind ≡ Link
text_link creds m path e = (text_taken m.kind (gives_met creds m (need_for (Readlink path))) e).1

-- a read that no check refuses is of a regular file
pub read_regular : (creds : Creds) (m : Met) (path : Path) (at len : ℕ) → checked creds m (Read path at len) ≡ None → m.kind ≡ Regular
read_regular creds m path at len e = (bytes_taken m.kind (gives_met creds m (need_for (Read path at len))) true e).1
