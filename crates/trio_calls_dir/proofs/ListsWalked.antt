-- A list of names from its walk on.
use Rattle.trio_calls_dir.proofs.Words.{◌++◌, ◌||◌, ◌∙◌, ◌∷◌, ◌≡◌, Ask, At, Bool, Busy, BusyAt, ComesHere, Creds, Denied, DeskSeen, Goes, HasNothing, In, In-map, InAllShown, IsBusyWalk, IsMet, IsMetIn, IsReply, IsStopped, Lease, List, ListNames, MayCall, MayWalk, Met, Needed, NoMemory, NoWalkMemory, Node, Nodes, None, NotDir, Ok, Option, OthersHold, Outcome, Path, Read, Replied, Result, SessionSeen, Some, Stop, StopsBy, ToRead, Told, WalkEnd, Walked, WalksTo, Went, [], ap, append-nil, asked, asked_beside-In, asks_lent, batch_nodes, cond, dir_needs, eqb, false, gives, gives_met, grant_ask, is_directory, is_some, kind_lent, lent_call, lib_same, listing_at, map, map-append, need_of, node_needs, not, number_made, option_map_or, permits, refl, rights_of, served_by, shows_root, subst, sym, true, try_ends, walk, walk_needs, ℕ}
use Rattle.std.specs.Prelude.{◌&&◌}
use Rattle.trio_desk.specs.Calls as desk_calls
use Rattle.trio_laws.proofs.session.DirCalls.{list_refused_by_walk}
use Rattle.trio_walk.specs.declared.met.Rights as shown_rights
use Rattle.trio_walk.specs.Needs.{reached_needs, listing_needs}
use Rattle.trio_walk.specs.Walks.{Walks}
use Rattle.trio_walk.proofs.Agreeing.{walk_need}
use Rattle.trio_walk.proofs.Walking.{own_older}
use Rattle.trio_calls_dir.specs.declared.replies.Replied as replied
use Rattle.trio_calls_dir.proofs.Ends.{BeginsWith, stop_goes}
use Rattle.trio_walk.proofs.OwnBusy.{nothing_own}
use Rattle.trio_walk.proofs.Meeting.{gives_known}
use Rattle.trio_calls_dir.proofs.Then.{goes_on}
use Rattle.trio_walk.proofs.Asking.{asked_then}
use Rattle.trio_walk.proofs.Ways.{way_went}

-- ---- what is needed of the file

-- by what is known of its rights, or where nothing is
by_rights : (n : Needed) (dir g : Bool) → cond dir (cond (not g && true) [] (n ∷ [])) [] ≡ cond (is_some (cond (not dir) (Some NotDir) (cond (not g) (Some Denied) None))) [] (n ∷ [])
by_rights n true true = refl
by_rights n true false = refl
by_rights n false g = refl

by_none : (n : Needed) (dir g : Bool) → cond dir (cond (not g && false) [] (n ∷ [])) [] ≡ cond (is_some (cond (not dir) (Some NotDir) (cond (not true) (Some Denied) None))) [] (n ∷ [])
by_none n true true = refl
by_none n true false = refl
by_none n false g = refl

module _ (shown : Bool) (s : SessionSeen) (nodes now : Nodes) (creds : Creds) (m : Met) (t : IsMet shown s nodes now creds m) where
  abbrev need : Needed
  need = record { ino = m.ino; kind = Read }

  -- the directory's grant is asked of what was met
  listing_is : listing_needs creds shown m.ino t.after ≡ listing_at creds m
  listing_is = by m.rights refl
    where
      kinds : listing_needs creds shown m.ino t.after ≡ cond (is_directory m.kind) (cond (not (gives creds ToRead (rights_of t.after)) && (shown || not (eqb m.ino 1))) [] (need ∷ [])) []
      kinds = ap (λ k. cond (is_directory k) (cond (not (gives creds ToRead (rights_of t.after)) && (shown || not (eqb m.ino 1))) [] (need ∷ [])) []) t.kind

      by : (o : Option shown_rights.Rights) → m.rights ≡ o → listing_needs creds shown m.ino t.after ≡ listing_at creds m
      by (Some r) e =
          kinds
          ∙ ap (λ g. cond (is_directory m.kind) (cond (not g && (shown || not (eqb m.ino 1))) [] (need ∷ [])) []) (gives_known shown s nodes now creds m t ToRead r e)
          ∙ ap (λ b. cond (is_directory m.kind) (cond (not (gives_met creds m ToRead) && b) [] (need ∷ [])) []) (t.known ∙ ap is_some e)
          ∙ by_rights need (is_directory m.kind) (gives_met creds m ToRead)
      by None e =
          kinds
          ∙ ap (λ b. cond (is_directory m.kind) (cond (not (gives creds ToRead (rights_of t.after)) && b) [] (need ∷ [])) []) (t.known ∙ ap is_some e)
          ∙ by_none need (is_directory m.kind) (gives creds ToRead (rights_of t.after))
          ∙ sym (ap (λ o. cond (is_some (cond (not (is_directory m.kind)) (Some NotDir) (cond (not (option_map_or (λ (q : shown_rights.Rights). permits creds m.kind q.mode q.uid q.gid ToRead) o true)) (Some Denied) None))) [] (need ∷ [])) e)

  reached_is : (path : Path) → walk now creds [] path ≡ Ok m.ino → reached_needs now (walk now creds [] path) (listing_needs creds shown) ≡ listing_at creds m
  reached_is path e =
      ap (λ r. reached_needs now r (listing_needs creds shown)) e
      ∙ ap (λ (o : Option Node). node_needs m.ino o (listing_needs creds shown)) t.there_now ∙ listing_is

-- ---- where the walk has come to a file

module _ {D : Type 0} (called : D → Ask → Told → D → Type 0) (seen : D → DeskSeen) (d : D) (s : SessionSeen) (path : Path) (from : ℕ) (may : MayCall (seen d) s) (d1 : D) (s1 : SessionSeen) (walks : MayWalk (seen d1) s1) where
  abbrev first : Nodes → List Needed
  first now = walk_needs now (seen d1).creds (shows_root s) [] path

  abbrev ending : WalkEnd → Type 0
  ending end = Walked called seen d s (Walks (seen d1) s [] path end) end d1 s1

  module _ (m : Met) (w : ending (At m.ino)) (met : IsMetIn (shows_root s) (seen d1) s1 m) where
    went : Went called seen d s (map lent_call w.more) [] d1 s1
    went = subst (λ l. Went called seen d s (map lent_call w.more) l d1 s1) w.ends.0 (way_went called seen d s w.more w.last d1 s1 w.way)

    pub comes_here : ComesHere (seen d1) s1 path m.ino
    comes_here nodes rows p = (w.shown nodes rows p).walks

    these : (nodes : Nodes) → asked (served_by s) (first nodes) ≡ map need_of w.more ++ w.need → asked (served_by s) (first nodes) ≡ map need_of w.more
    these now e = e ∙ ap (λ l. map need_of w.more ++ l) w.ends.1 ∙ append-nil (map need_of w.more)

    wanted : InAllShown (seen d1) s1 (λ now. map grant_ask (asked (served_by s) (dir_needs now (seen d1).creds (shows_root s) (ListNames path from)))
        ≡ map (λ (c : desk_calls.Call). c.ask) (map lent_call w.more) ++ map grant_ask (asked (served_by s1) (listing_at (seen d1).creds m)))
    wanted nodes rows p =
        let now : Nodes = batch_nodes (seen d1).creds s1.calls nodes in
        let t = met.met nodes rows p in
        let last : List Needed = listing_at (seen d1).creds m in
        ap (λ l. map grant_ask (asked (served_by s) (first now ++ l))) (reached_is (shows_root s) s1 nodes now (seen d1).creds m t path (comes_here nodes rows p))
        ∙ ap (map grant_ask) (asked_then s s1 w.more w.way.took w.way.as_lent (first now) last (these now (w.shown nodes rows p).asks))
        ∙ map-append grant_ask (map need_of w.more) (asked (served_by s1) last)
        ∙ ap (λ l. l ++ map grant_ask (asked (served_by s1) last)) (asks_lent w.more)

    pub list_goes : (end : Outcome) (number : ℕ) (d' : D) (s' : SessionSeen) → Goes called seen d1 s1 (ListNames path from) (λ now. listing_at (seen d1).creds m) end number d' s'
        → Goes called seen d s (ListNames path from) (λ now. dir_needs now (seen d').creds (shows_root s) (ListNames path from)) end number d' s'
    list_goes end number d' s' goes =
        subst (λ (k : Creds). Goes called seen d s (ListNames path from) (λ now. dir_needs now k (shows_root s) (ListNames path from)) end number d' s') (sym goes.passes.same.creds)
        (goes_on called seen d d1 d' s s1 s' (ListNames path from) (map lent_call w.more) went end number (λ now. dir_needs now (seen d1).creds (shows_root s) (ListNames path from)) (λ now. listing_at (seen d1).creds m) wanted goes)

    -- a session that had nothing keeps no file busy for itself
    pub list_others : (end : Outcome) → BusyAt (seen d1) s1 m.ino Read end → HasNothing s → OthersHold s.lib end
    list_others (Busy holder) busy none = λ mine.
        let own = busy (mine ∙ sym (lib_same (seen d) (seen d1) s s1 w.more w.way.took)) in
        let now : Nodes = batch_nodes (seen d1).creds s1.calls own.nodes in
        let asked_is = these now ((w.shown own.nodes own.rows own.possible).asks) in
        let read : (l : Lease) → In l w.more → kind_lent l ≡ Read =
        λ l i. (walk_need now (seen d1).creds (shows_root s) [] path (need_of l)
        (asked_beside-In (served_by s) (first now) [] (need_of l) (subst (λ ns. In (need_of l) ns) (sym asked_is) (In-map need_of l w.more i)))).kind in
        nothing_own s m.ino Read none (own_older s s1 w.more m.ino Read w.way.took (λ e. cc e) (λ l i same. read l i) own.busy)
    list_others (Replied reply) busy none = tt
    list_others NoMemory busy none = tt

  -- ---- where it has come to none

  begins : (end : WalkEnd) (now : Nodes) → WalksTo end (walk now (seen d1).creds [] path) → BeginsWith end (first now) (dir_needs now (seen d1).creds (shows_root s) (ListNames path from))
  begins (IsReply reply) now e = ap (λ r. first now ++ reached_needs now r (listing_needs (seen d1).creds (shows_root s))) e ∙ append-nil (first now)
  begins (At n) now e = (reached_needs now (walk now (seen d1).creds [] path) (listing_needs (seen d1).creds (shows_root s)), refl)
  begins (IsBusyWalk holder) now e = (reached_needs now (walk now (seen d1).creds [] path) (listing_needs (seen d1).creds (shows_root s)), refl)
  begins NoWalkMemory now e = (reached_needs now (walk now (seen d1).creds [] path) (listing_needs (seen d1).creds (shows_root s)), refl)

  pub list_stops : (end : WalkEnd) (w : ending end) (s2 : SessionSeen) → s2 ≡ record s1 { room = s2.room } → IsStopped end → (result : Result replied.Replied Stop) → StopsBy end result s2
      → Goes called seen d s (ListNames path from) (λ now. dir_needs now (seen d1).creds (shows_root s) (ListNames path from)) (try_ends result) (number_made result) d1 s2
  list_stops end w s2 kept st result by =
      stop_goes called seen d s (ListNames path from) first (λ now. dir_needs now (seen d1).creds (shows_root s) (ListNames path from)) may d1 s1 s2 (Walks (seen d1) s [] path end) end w walks kept st
      (λ nodes rows p. (w.shown nodes rows p).asks)
      (λ nodes rows p. begins end (batch_nodes (seen d1).creds s1.calls nodes) (w.shown nodes rows p).walks)
      (λ reply is nodes rows p.
      let now : Nodes = batch_nodes (seen d1).creds s1.calls nodes in
      list_refused_by_walk (seen d1) (record { call = ListNames path from; reply = reply; made = 0 }) now path from refl
      (subst (λ e. WalksTo e (walk now (seen d1).creds [] path)) is (w.shown nodes rows p).walks) refl)
      result by
