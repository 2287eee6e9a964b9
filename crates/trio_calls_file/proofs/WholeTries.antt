-- A whole try, but for its note: the walk, and what is done at the file to which it comes.
use Rattle.trio_calls_file.proofs.Words.{◌++◌, ◌<◌, ◌∙◌, ◌≡◌, ◌≢◌, AfterTry, Ask, AskedBy, At, Bool, Busy, BusyGrant, Call, ComesHere, Creds, Denied, DeskSeen, DoesCall, Err, Exists, Goes, Grant, HasNoMemory, HasNothing, Holder, In, InAllShown, IntoItself, IsAlike, IsDir, IsFileCall, IsMetIn, IsReplied, IsReply, LacksMemory, LeavesHere, List, MatchResult, MayCall, MayWalk, Met, Needed, NoInodes, NoMemory, NoSpace, Node, Nodes, NotDir, NotEmpty, NotFound, NotLent, Ok, Outcome, Replied, RepliesTo, Reply, Result, SessionSeen, Some, Stop, Told, TooLarge, TryEnds, Walked, Walks, Went, [], alike_room, allot_asks, ap, append-nil, append_assoc, applied, asked, asked_beside, asks_at, asks_lent, batch_nodes, both_then, cond, false, grant_ask, inl, is_done, length, lent_call, map, map-append, may_alike, met_needs, need_of, node_at, own_needs, path_of, refl, served_by, shows_root, subst, sym, took, true, try_ends, walk, walk_needs, walked_growth, wanted_pages, ℕ, IsLink, NotLink}
use Rattle.trio_desk.specs.Calls as desk_calls
use Rattle.trio_laws.proofs.session.FileCalls.{refused_by_walk}
use Rattle.trio_walk.specs.declared.walks.WalkEnd.{WalkEnd}
use Rattle.trio_walk.specs.declared.walks.WalkEnd.TheVariants.{Busy as IsBusy}
use Rattle.trio_walk.specs.Needs.{node_needs, reached_needs}
use Rattle.trio_walk.specs.Walks.{IsStopped}
use Rattle.trio_walk.proofs.Agreeing.{asked_beside-append}
use Rattle.trio_calls_file.specs.Asks.{ComesTo, asks_of}
use Rattle.trio_calls_file.proofs.AfterTaking.{goes_on}
use Rattle.trio_calls_file.proofs.Checking.{file_path_of, root_kind}
use Rattle.trio_calls_file.proofs.Looked.{IsLook, IsRefused, may_looked, refused_look}
use Rattle.trio_calls_file.proofs.Alike.{both_alike}
use Rattle.trio_calls_file.proofs.Walkable.{way_may}
use Rattle.trio_calls_file.proofs.Walked.{own_is}
use Rattle.trio_walk.proofs.Asking.{asked_then}
use Rattle.trio_walk.proofs.OwnBusy.{nothing_own}
use Rattle.trio_walk.proofs.Stops.{by_refusal, refusal_ends, short_refusal, short_walk, way_asks}
use Rattle.trio_walk.proofs.Ways.{way_went, went_alike}

module _ {D : Type 0} (called : D → Ask → Told → D → Type 0) (seen : D → DeskSeen) (d : D) (s : SessionSeen) (call : Call) (may : MayCall (seen d) s) (file : IsFileCall call) (m : Met) (d1 : D) (s1 : SessionSeen) (walks : MayWalk (seen d1) s1)
    (w : Walked called seen d s (Walks (seen d1) s [] (path_of call) (At m.ino)) (At m.ino) d1 s1) (met : IsMetIn (shows_root s) (seen d1) s1 m) where
  abbrev asking : desk_calls.Call → Ask
  asking c = c.ask

  went_there : Went called seen d s (map lent_call w.more) [] d1 s1
  went_there = subst (λ l. Went called seen d s (map lent_call w.more) l d1 s1) w.ends.0 (way_went called seen d s w.more w.last d1 s1 w.way)

  pub may_there : MayCall (seen d1) s1
  may_there = way_may called seen d s w.more w.last d1 s1 may w.way walks

  pub comes_there : ComesHere (seen d1) s1 (path_of call) m.ino
  comes_there nodes rows p = (w.shown nodes rows p).walks

  -- what is to be asked is what the walk asked, and what is to be asked of the file
  wanted_whole : InAllShown (seen d1) s1 (λ now. asks_of now (seen d1).creds s call ≡ map asking (map lent_call w.more) ++ asks_at (seen d1).creds s1 m call now)
  wanted_whole nodes rows p =
      let creds : Creds = (seen d1).creds in
      let now : Nodes = batch_nodes creds s1.calls nodes in
      let W : List Needed = walk_needs now creds (shows_root s) [] (path_of call) in
      let t = met.met nodes rows p in
      let shown = w.shown nodes rows p in
      let own : reached_needs now (walk now creds [] (path_of call)) (own_needs creds (shows_root s) call) ≡ met_needs creds m call =
      ap (λ r. reached_needs now r (own_needs creds (shows_root s) call)) shown.walks
      ∙ reached_some now m.ino t.after (own_needs creds (shows_root s) call) t.there_now
      ∙ own_is (shows_root s) s1 nodes now creds m t (root_kind (seen d1) s1 call m may_there (shows_root s, met) comes_there file nodes rows p) call file in
      let these : asked (served_by s) W ≡ map need_of w.more = shown.asks ∙ ap (λ l. map need_of w.more ++ l) w.ends.1 ∙ append-nil (map need_of w.more) in
      let asks : asked (served_by s) (W ++ met_needs creds m call) ≡ map need_of w.more ++ asked (served_by s1) (met_needs creds m call) =
      asked_then s s1 w.more w.way.took w.way.as_lent W (met_needs creds m call) these in
      ap (λ O. map grant_ask (asked (served_by s) (W ++ O)) ++ allot_asks (wanted_pages now creds call) 0) own
      ∙ ap (λ l. map grant_ask l ++ allot_asks (wanted_pages now creds call) 0) asks
      ∙ ap (λ l. l ++ allot_asks (wanted_pages now creds call) 0) (map-append grant_ask (map need_of w.more) (asked (served_by s1) (met_needs creds m call)) ∙ ap (λ l. l ++ map grant_ask (asked (served_by s1) (met_needs creds m call))) (asks_lent w.more))
      ∙ append_assoc (map asking (map lent_call w.more)) (map grant_ask (asked (served_by s1) (met_needs creds m call))) (allot_asks (wanted_pages now creds call) 0)
    where
      reached_some : (now : Nodes) (n : ℕ) (x : Node) (rest : ℕ → Node → List Needed) → node_at now n ≡ Some x → reached_needs now (Ok n) rest ≡ rest n x
      reached_some now n x rest e = ap (λ o. node_needs n o rest) e

  comes_then : (end : Outcome) (d' : D) (s' : SessionSeen) → Goes called seen d1 s1 call m.ino (asks_at (seen d1).creds s1 m call) end d' s' → InAllShown (seen d') s' (λ now. ComesTo end m.ino now (seen d').creds call)
  comes_then end d' s' goes nodes rows p =
      let walked = both_then (seen d1) (seen d') s1 s' (λ n now. walk now (seen d1).creds [] (path_of call) ≡ Ok m.ino) goes.passes.same goes.passes.more goes.passes.calls comes_there nodes rows p in
      comes_to end (ap (λ (c : Creds). walk (batch_nodes (seen d').creds s'.calls nodes) c [] (path_of call)) goes.passes.same.creds ∙ walked)
    where
      comes_to : (end : Outcome) → walk (batch_nodes (seen d').creds s'.calls nodes) (seen d').creds [] (path_of call) ≡ Ok m.ino → ComesTo end m.ino (batch_nodes (seen d').creds s'.calls nodes) (seen d').creds call
      comes_to (Replied (IsReplied answer)) e = e
      comes_to (Replied NotFound) e = tt
      comes_to (Replied Exists) e = tt
      comes_to (Replied NotDir) e = tt
      comes_to (Replied IsDir) e = tt
      comes_to (Replied NotEmpty) e = tt
      comes_to (Replied Denied) e = tt
      comes_to (Replied IntoItself) e = tt
      comes_to (Replied (NoSpace w f)) e = tt
      comes_to (Replied (NoInodes w f)) e = tt
      comes_to (Replied TooLarge) e = tt
      comes_to (Replied IsLink) e = tt
      comes_to (Replied NotLink) e = tt
      comes_to (Busy holder) e = tt
      comes_to NoMemory e = tt

  -- the walk, and then what is done at its file
  pub replied_there : (end : Outcome) (d' : D) (s' : SessionSeen) → Goes called seen d1 s1 call m.ino (asks_at (seen d1).creds s1 m call) end d' s' → RepliesTo called seen d s call end d' s'
  replied_there end d' s' goes = record {
    file = m.ino;
    goes =
        subst (λ (k : Creds). Goes called seen d s call m.ino (λ now. asks_of now k s call) end d' s') (sym goes.passes.same.creds)
        (goes_on called seen d d1 d' s s1 s' call m.ino (map lent_call w.more) went_there end (λ now. asks_of now (seen d1).creds s call) (asks_at (seen d1).creds s1 m call) wanted_whole goes);
    comes = comes_then end d' s' goes;
  }

-- ---- a walk that comes to no file

module _ {D : Type 0} (called : D → Ask → Told → D → Type 0) (seen : D → DeskSeen) (d : D) (s : SessionSeen) (call : Call) (may : MayCall (seen d) s) (file : IsFileCall call) (end : WalkEnd) (d1 : D) (s1 : SessionSeen) (walks : MayWalk (seen d1) s1)
    (w : Walked called seen d s (Walks (seen d1) s [] (path_of call) end) end d1 s1) where
  went_so : Went called seen d s (map lent_call w.more) w.last d1 s1
  went_so = way_went called seen d s w.more w.last d1 s1 w.way

  may_so : MayCall (seen d1) s1
  may_so = way_may called seen d s w.more w.last d1 s1 may w.way walks

  -- where it is broken off, the first of all that is to be asked
  first_of : (creds : Creds) (now : Nodes)
      → (rest : List Needed) × (asked (served_by s) (walk_needs now creds (shows_root s) [] (path_of call)) ≡ (map need_of w.more ++ w.need) ++ rest)
      → (rest : List Ask) × (asks_of now creds s call ≡ map (λ (c : desk_calls.Call). c.ask) (map lent_call w.more ++ w.last) ++ rest)
  first_of creds now r =
      let W : List Needed = walk_needs now creds (shows_root s) [] (path_of call) in
      let O : List Needed = reached_needs now (walk now creds [] (path_of call)) (own_needs creds (shows_root s) call) in
      let these : List Needed = map need_of w.more ++ w.need in
      let behind : List Needed = asked_beside (served_by s) (asked (served_by s) W) O in
      let A : List Ask = allot_asks (wanted_pages now creds call) 0 in
      let first : List Ask = map (λ (c : desk_calls.Call). c.ask) (map lent_call w.more ++ w.last) in
      let rest : List Needed = r.0 ++ behind in (
        map grant_ask rest ++ A,
        ap (λ l. map grant_ask l ++ A) (asked_beside-append (served_by s) W O [] ∙ ap (λ l. l ++ behind) r.1 ∙ append_assoc these r.0 behind)
            ∙ ap (λ l. l ++ A) (map-append grant_ask these rest ∙ ap (λ l. l ++ map grant_ask rest) (way_asks end w.more w.last w.need w.ends))
            ∙ append_assoc first (map grant_ask rest) A,
      )

  broken : (out : Outcome) → TryEnds out w.last → LeavesHere call 0 (took s (map (λ (c : desk_calls.Call). c.told) (map lent_call w.more))) out s1 → AfterTry (seen d1) call out s1
      → InAllShown (seen d1) s1 (λ now. AskedBy out (map (λ (c : desk_calls.Call). c.ask) (map lent_call w.more ++ w.last)) (asks_of now (seen d1).creds s call))
      → InAllShown (seen d1) s1 (λ now. ComesTo out 0 now (seen d1).creds call) → RepliesTo called seen d s call out d1 s1
  broken out ends leaves after asks comes = record {
    file = 0;
    goes = record {
      given = map lent_call w.more;
      last = w.last;
      passes = went_so.passes;
      ends = ends;
      leaves = leaves;
      asks = asks;
      after = after;
    };
    comes = comes;
  }

-- it is busy
pub busy_there : {D : Type 0} (called : D → Ask → Told → D → Type 0) (seen : D → DeskSeen) (d : D) (s : SessionSeen) (call : Call) → MayCall (seen d) s → IsFileCall call → (holder : Holder) (d1 : D) (s1 : SessionSeen) → MayWalk (seen d1) s1
    → Walked called seen d s (Walks (seen d1) s [] (path_of call) (IsBusy holder)) (IsBusy holder) d1 s1 → RepliesTo called seen d s call (Busy holder) d1 s1
busy_there called seen d s call may file holder d1 s1 walks w =
    let went = went_so called seen d s call may file (IsBusy holder) d1 s1 walks w in
    broken called seen d s call may file (IsBusy holder) d1 s1 walks w (Busy holder) (w.ends.0, w.ends.1, w.ends.2) went.alike (may_so called seen d s call may file (IsBusy holder) d1 s1 walks w)
    (λ nodes rows p. first_of called seen d s call may file (IsBusy holder) d1 s1 walks w (seen d1).creds (batch_nodes (seen d1).creds s1.calls nodes) (w.shown nodes rows p).asks)
    (λ nodes rows p. tt)

-- by another library, where the session had nothing
pub busy_others : {D : Type 0} (called : D → Ask → Told → D → Type 0) (seen : D → DeskSeen) (d : D) (s : SessionSeen) (call : Call) (holder : Holder) (d1 : D) (s1 : SessionSeen)
    → Walked called seen d s (Walks (seen d1) s [] (path_of call) (IsBusy holder)) (IsBusy holder) d1 s1 → HasNothing s → holder.lib ≢ s.lib
busy_others called seen d s call holder d1 s1 w none = λ mine.
    nothing_own s w.ends.0 w.ends.1 none
    (w.way.others w.ends.0 w.ends.1 holder (subst (λ l. In (record { ask = Grant w.ends.0 w.ends.1; told = NotLent (BusyGrant holder) }) l) (sym w.ends.2) (inl refl)) mine)

-- there is no memory for it
pub short_there : {D : Type 0} (called : D → Ask → Told → D → Type 0) (seen : D → DeskSeen) (d : D) (s : SessionSeen) (call : Call) → MayCall (seen d) s → IsFileCall call → (d1 : D) (s1 : SessionSeen) → MayWalk (seen d1) s1
    → Walked called seen d s (Walks (seen d1) s [] (path_of call) HasNoMemory) HasNoMemory d1 s1 → RepliesTo called seen d s call NoMemory d1 s1
short_there called seen d s call may file d1 s1 walks w =
    let went = went_so called seen d s call may file HasNoMemory d1 s1 walks w in
    broken called seen d s call may file HasNoMemory d1 s1 walks w NoMemory (short_walk w.last w.need w.ends) went.alike (may_so called seen d s call may file HasNoMemory d1 s1 walks w)
    (λ nodes rows p. first_of called seen d s call may file HasNoMemory d1 s1 walks w (seen d1).creds (batch_nodes (seen d1).creds s1.calls nodes) (w.shown nodes rows p).asks)
    (λ nodes rows p. tt)

-- ---- a walk that is refused

module _ {D : Type 0} (called : D → Ask → Told → D → Type 0) (seen : D → DeskSeen) (d : D) (s : SessionSeen) (call : Call) (may : MayCall (seen d) s) (file : IsFileCall call) (reply : Reply) (stopped : IsStopped (IsReply reply)) (d1 : D) (s1 : SessionSeen) (walks : MayWalk (seen d1) s1)
    (w : Walked called seen d s (Walks (seen d1) s [] (path_of call) (IsReply reply)) (IsReply reply) d1 s1) where
  refused_does : InAllShown (seen d1) s1 (λ now. DoesCall (seen d1) (record { call = call; reply = reply; made = 0 }) now now)
  refused_does nodes rows p =
      refused_by_walk (seen d1) (record { call = call; reply = reply; made = 0 }) (batch_nodes (seen d1).creds s1.calls nodes) (path_of call) (file_path_of call file) (w.shown nodes rows p).walks refl

  no_growth : (b : Bool) (now : Nodes) (r : Result ℕ Reply) → r ≡ Err reply → allot_asks (cond b (walked_growth now call r) 0) 0 ≡ []
  no_growth true now r e = ap (λ x. allot_asks (walked_growth now call x) 0) e
  no_growth false now r e = refl

  refused_asks : InAllShown (seen d1) s1 (λ now. asks_of now (seen d1).creds s call ≡ map (λ (c : desk_calls.Call). c.ask) (map lent_call w.more ++ w.last))
  refused_asks nodes rows p =
      let creds : Creds = (seen d1).creds in
      let now : Nodes = batch_nodes creds s1.calls nodes in
      let W : List Needed = walk_needs now creds (shows_root s) [] (path_of call) in
      let shown = w.shown nodes rows p in
      let first : List Ask = map (λ (c : desk_calls.Call). c.ask) (map lent_call w.more ++ w.last) in
      ap (λ r. map grant_ask (asked (served_by s) (W ++ reached_needs now r (own_needs creds (shows_root s) call))) ++ allot_asks (wanted_pages now creds call) 0) shown.walks
      ∙ ap (λ l. map grant_ask (asked (served_by s) l) ++ allot_asks (wanted_pages now creds call) 0) (append-nil W)
      ∙ ap (λ l. map grant_ask l ++ allot_asks (wanted_pages now creds call) 0) shown.asks
      ∙ ap (λ l. l ++ allot_asks (wanted_pages now creds call) 0) (way_asks (IsReply reply) w.more w.last w.need w.ends)
      ∙ ap (λ l. first ++ l) (no_growth (is_done (applied now creds call 0).reply) now (walk now creds [] (path_of call)) shown.walks) ∙ append-nil first

  pub refused_there : (s' : SessionSeen) → s' ≡ record s1 { room = s'.room } → (result : Result Reply Stop)
      → MatchResult result (λ r. (r ≡ reply) × (length s'.calls < s'.room.calls)) (λ stop. stop ≡ LacksMemory) → RepliesTo called seen d s call (try_ends result) d1 s'
  refused_there s' kept result ends = by result ends
    where
      e : IsAlike s1 s'
      e = alike_room s1 s' kept

      now_went : Went called seen d s (map lent_call w.more) w.last d1 s'
      now_went = went_alike called seen d s (map lent_call w.more) w.last d1 s1 s' e (went_so called seen d s call may file (IsReply reply) d1 s1 walks w)

      now_may : MayCall (seen d1) s'
      now_may = may_alike (seen d1) s1 s' e (may_so called seen d s call may file (IsReply reply) d1 s1 walks w)

      refusal : IsRefused reply
      refusal = by_refusal IsRefused tt tt tt reply stopped

      does : InAllShown (seen d1) s' (λ now. DoesCall (seen d1) (record { call = call; reply = reply; made = 0 }) now now)
      does = both_alike (seen d1) s1 s' (λ nodes x. DoesCall (seen d1) (record { call = call; reply = reply; made = 0 }) x x) e refused_does

      asks : InAllShown (seen d1) s' (λ now. asks_of now (seen d1).creds s call ≡ map (λ (c : desk_calls.Call). c.ask) (map lent_call w.more ++ w.last))
      asks = both_alike (seen d1) s1 s' (λ nodes x. asks_of x (seen d1).creds s call ≡ map (λ (c : desk_calls.Call). c.ask) (map lent_call w.more ++ w.last)) e refused_asks

      look : IsLook call reply
      look = refused_look call reply refusal

      not_done : (nodes : Nodes) → ComesTo (Replied reply) 0 nodes (seen d1).creds call
      not_done nodes = by_refusal (λ r. ComesTo (Replied r) 0 nodes (seen d1).creds call) tt tt tt reply stopped

      replied : length s'.calls < s'.room.calls → RepliesTo called seen d s call (Replied reply) d1 s'
      replied room = record {
        file = 0;
        goes = record {
          given = map lent_call w.more;
          last = w.last;
          passes = now_went.passes;
          ends = refusal_ends reply w.last w.need stopped w.ends;
          leaves = look.leaves 0 (took s (map (λ (c : desk_calls.Call). c.told) (map lent_call w.more))) s' now_went.alike;
          asks = asks;
          after = (may_looked (seen d1) s' call reply now_may does, room, look.plain, λ b. (now_may, look.reads b));
        };
        comes = λ nodes rows p. not_done (batch_nodes (seen d1).creds s'.calls nodes);
      }

      short : RepliesTo called seen d s call NoMemory d1 s'
      short = record {
        file = 0;
        goes = record {
          given = map lent_call w.more;
          last = w.last;
          passes = now_went.passes;
          ends = short_refusal reply w.last w.need w.ends;
          leaves = now_went.alike;
          asks = λ nodes rows p. ([], asks nodes rows p ∙ sym (append-nil (map (λ (c : desk_calls.Call). c.ask) (map lent_call w.more ++ w.last))));
          after = now_may;
        };
        comes = λ nodes rows p. tt;
      }

      by : (result : Result Reply Stop) → MatchResult result (λ r. (r ≡ reply) × (length s'.calls < s'.room.calls)) (λ stop. stop ≡ LacksMemory) → RepliesTo called seen d s call (try_ends result) d1 s'
      by (Ok r) h = subst (λ x. RepliesTo called seen d s call (Replied x) d1 s') (sym h.0) (replied h.1)
      by (Err stop) h = subst (λ x. RepliesTo called seen d s call (try_ends (Err x)) d1 s') (sym h) short
