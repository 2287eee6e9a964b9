-- A call from its walk into a directory on.
use Rattle.trio_calls_dir.proofs.Words.{◌++◌, ◌∙◌, ◌≡◌, [], ArePossible, Ask, At, Call, DeskSeen, Done, Err, Goes, InAllShown, IsAlike, IsBusyWalk, IsRefusedAs, IsReply, IsStopped, List, MayCall, MayWalk, Needed, NoWalkMemory, Nodes, Ok, Outcome, Path, Reply, Result, SessionSeen, Stop, StopsBy, Told, WalkEnd, Walked, WalksInto, WalksTo, Went, ap, append-nil, asked, asks_lent, batch_nodes, grant_ask, into_needs, lent_call, map, map-append, need_of, number_made, reached_by, served_by, shows_root, subst, sym, took, try_ends, walk_into, ℕ}
use Rattle.trio_desk.specs.Calls as desk_calls
use Rattle.trio_calls_dir.specs.declared.replies.Replied as replied
use Rattle.trio_calls_dir.proofs.Ends.{BeginsWith, stop_goes}
use Rattle.trio_calls_dir.proofs.Then.{goes_on}
use Rattle.trio_walk.proofs.Asking.{asked_then}
use Rattle.trio_walk.proofs.Ways.{went_alike, way_went}

-- the call needs the walk into the directory of this path, and then what is needed in it
module _ {D : Type 0} (called : D → Ask → Told → D → Type 0) (seen : D → DeskSeen) (d : D) (s : SessionSeen) (call : Call) (writes : List Path) (path : Path) (may : MayCall (seen d) s) (d1 : D) (s1 : SessionSeen) where
  abbrev first : Nodes → List Needed
  first now = into_needs now (seen d1).creds (shows_root s) writes path

  abbrev ending : WalkEnd → Type 0
  ending end = Walked called seen d s (WalksInto (seen d1) s writes path end) end d1 s1

  module _ (needs : Nodes → List Needed) (F : Nodes → ℕ → List Needed)
      (needs_are : InAllShown (seen d1) s1 (λ now. needs now ≡ into_needs now (seen d1).creds (shows_root s) writes path ++ reached_by (walk_into now (seen d1).creds writes path) (F now))) where
    -- ---- where the walk has entered the directory

    module _ (dir : ℕ) (w : ending (At dir)) (walks : MayWalk (seen d1) s1) (s2 : SessionSeen) (near : IsAlike s1 s2) where
      pub went_into : Went called seen d s (map lent_call w.more) [] d1 s2
      went_into = went_alike called seen d s (map lent_call w.more) [] d1 s1 s2 near (subst (λ l. Went called seen d s (map lent_call w.more) l d1 s1) w.ends.0 (way_went called seen d s w.more w.last d1 s1 w.way))

      walked_to : InAllShown (seen d1) s1 (λ now. walk_into now (seen d1).creds writes path ≡ Ok dir)
      walked_to nodes rows p = (w.shown nodes rows p).walks

      over : (P : Nodes → Type 0) → InAllShown (seen d1) s1 P → InAllShown (seen d1) s2 P
      over P h nodes rows p =
          subst (λ (cs : List Done). P (batch_nodes (seen d1).creds cs nodes)) (sym (ap (λ (q : SessionSeen). q.calls) near))
          (h nodes rows (subst (λ (q : SessionSeen). ArePossible (seen d1) q.parcel q.reads nodes rows) near p))

      pub entered_at : InAllShown (seen d1) s2 (λ now. walk_into now (seen d1).creds writes path ≡ Ok dir)
      entered_at = over (λ now. walk_into now (seen d1).creds writes path ≡ Ok dir) walked_to

      wanted : InAllShown (seen d1) s1 (λ now. map grant_ask (asked (served_by s) (needs now)) ≡ map (λ (c : desk_calls.Call). c.ask) (map lent_call w.more) ++ map grant_ask (asked (served_by s2) (F now dir)))
      wanted nodes rows p =
          let now : Nodes = batch_nodes (seen d1).creds s1.calls nodes in
          let these : asked (served_by s) (first now) ≡ map need_of w.more = (w.shown nodes rows p).asks ∙ ap (λ l. map need_of w.more ++ l) w.ends.1 ∙ append-nil (map need_of w.more) in
          let whole : needs now ≡ first now ++ F now dir = needs_are nodes rows p ∙ ap (λ r. first now ++ reached_by r (F now)) (walked_to nodes rows p) in
          let served : asked (served_by s1) (F now dir) ≡ asked (served_by s2) (F now dir) = sym (ap (λ (q : SessionSeen). asked (served_by q) (F now dir)) near) in
          ap (λ l. map grant_ask (asked (served_by s) l)) whole
          ∙ ap (map grant_ask) (asked_then s s1 w.more w.way.took w.way.as_lent (first now) (F now dir) these ∙ ap (λ l. map need_of w.more ++ l) served)
          ∙ map-append grant_ask (map need_of w.more) (asked (served_by s2) (F now dir))
          ∙ ap (λ l. l ++ map grant_ask (asked (served_by s2) (F now dir))) (asks_lent w.more)

      -- what is done in the directory goes with the walk
      pub into_goes : (end : Outcome) (number : ℕ) (d' : D) (s' : SessionSeen) → Goes called seen d1 s2 call (λ now. F now dir) end number d' s' → Goes called seen d s call needs end number d' s'
      into_goes end number d' s' goes =
          goes_on called seen d d1 d' s s2 s' call (map lent_call w.more) went_into end number needs (λ now. F now dir)
          (over (λ now. map grant_ask (asked (served_by s) (needs now)) ≡ map (λ (c : desk_calls.Call). c.ask) (map lent_call w.more) ++ map grant_ask (asked (served_by s2) (F now dir))) wanted) goes

    -- ---- where it has come to no file

    begins_with : (end : WalkEnd) (now : Nodes) → needs now ≡ first now ++ reached_by (walk_into now (seen d1).creds writes path) (F now) → WalksTo end (walk_into now (seen d1).creds writes path) → BeginsWith end (first now) (needs now)
    begins_with (IsReply reply) now are e = are ∙ ap (λ r. first now ++ reached_by r (F now)) e ∙ append-nil (first now)
    begins_with (At n) now are e = (reached_by (walk_into now (seen d1).creds writes path) (F now), are)
    begins_with (IsBusyWalk holder) now are e = (reached_by (walk_into now (seen d1).creds writes path) (F now), are)
    begins_with NoWalkMemory now are e = (reached_by (walk_into now (seen d1).creds writes path) (F now), are)

    pub into_stops : (end : WalkEnd) (w : ending end) → MayWalk (seen d1) s1 → (s2 : SessionSeen) → s2 ≡ record s1 { room = s2.room } → IsStopped end
        → ((reply : Reply) → InAllShown (seen d1) s1 (λ now. walk_into now (seen d1).creds writes path ≡ Err reply → IsRefusedAs (seen d1) call reply now))
        → (result : Result replied.Replied Stop) → StopsBy end result s2
        → Goes called seen d s call needs (try_ends result) (number_made result) d1 s2
    into_stops end w walks s2 kept st refused result by =
        stop_goes called seen d s call first needs may d1 s1 s2 (WalksInto (seen d1) s writes path end) end w walks kept st
        (λ nodes rows p. (w.shown nodes rows p).asks)
        (λ nodes rows p. begins_with end (batch_nodes (seen d1).creds s1.calls nodes) (needs_are nodes rows p) (w.shown nodes rows p).walks)
        (λ reply is nodes rows p.
        refused reply nodes rows p (subst (λ e. WalksTo e (walk_into (batch_nodes (seen d1).creds s1.calls nodes) (seen d1).creds writes path)) is (w.shown nodes rows p).walks))
        result by
