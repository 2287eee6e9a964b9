-- A rename on its two walks.
use Rattle.trio_calls_dir.proofs.Words.{◌++◌, ◌∙◌, ◌≡◌, Ask, At, Call, Creds, DeskSeen, Directory, Err, Goes, In, InAllShown, IsAcross, IsHad, IsOpenDir, IsOut, IsRefusedAs, IsRename, IsStopped, IsTree, List, MayCall, MayLookIn, MayWalk, Needed, Nodes, Ok, Outcome, Path, Reply, Result, SessionSeen, Stop, StopsBy, Told, WalkEnd, Walked, WalksInto, across_needs, and_then, ap, batch_nodes, both_dirs, dir_needs, dir_of, into_needs, kind_for, moving_needs, need_at, needs_write, number_made, reached_by, refl, shows_root, subst, sym, tree_stays_through, try_ends, walk_into, write_paths, ℕ}
use Rattle.trio_laws.proofs.session.DirCalls.{rename_refused_by_walk}
use Rattle.trio_walk.proofs.Meeting.{look_still, open_still}
use Rattle.trio_calls_dir.specs.declared.replies.Replied as replied
use Rattle.trio_calls_dir.proofs.Entered.{open_had}
use Rattle.trio_calls_dir.proofs.Into.{into_goes, into_stops}
use Rattle.trio_calls_dir.proofs.MovesPaths.{rename_across}
use Rattle.trio_calls_dir.proofs.Then.{all_then}
use Rattle.trio_calls_dir.proofs.Walkable.{way_may}
use Rattle.trio_walk.proofs.Ways.{way_calls, way_more, way_same}

-- what is shown is one tree
pub shown_tree : (desk : DeskSeen) (s : SessionSeen) → MayWalk desk s → InAllShown desk s IsTree
shown_tree desk s walks nodes rows p = tree_stays_through nodes desk.creds s.calls p.tree (walks.comes nodes rows p).0

-- the walk with the paths that are meant
pub walked_both : {D : Type 0} (called : D → Ask → Told → D → Type 0) (seen : D → DeskSeen) (d : D) (s : SessionSeen) (d1 : D) (s1 : SessionSeen) (from to : Path) (ws : List Path) (path dir : Path) → ws ≡ both_dirs from to → path ≡ dir → (end : WalkEnd)
    → Walked called seen d s (WalksInto (seen d1) s ws path end) end d1 s1 → Walked called seen d s (WalksInto (seen d1) s (both_dirs from to) dir end) end d1 s1
walked_both called seen d s d1 s1 from to ws path dir ew ep end w =
    subst (λ (x : Path). Walked called seen d s (WalksInto (seen d1) s (both_dirs from to) x end) end d1 s1) ep
    (subst (λ (x : List Path). Walked called seen d s (WalksInto (seen d1) s x path end) end d1 s1) ew w)

-- a directory of either path is had for writing
pub had_both : (s : SessionSeen) (from to : Path) (ws : List Path) (path dir : Path) → ws ≡ both_dirs from to → path ≡ dir → In dir (both_dirs from to) → (n : ℕ) → IsHad s n (kind_for (need_at ws path)) → IsOpenDir s n
had_both s from to ws path dir ew ep i n h =
    open_had s n
    (subst (λ k. IsHad s n (kind_for k)) (ap (λ (x : List Path). need_at x path) ew ∙ ap (need_at (both_dirs from to)) ep ∙ needs_write (both_dirs from to) dir i) h)

module _ (call : Call) (from to : Path) (r : IsRename call from to) where
  -- both directories are written
  pub writes_are : write_paths call ≡ both_dirs from to
  writes_are = ap write_paths r.on

  -- a walk refuses the rename
  walk_refuses : (desk : DeskSeen) (reply : Reply) (now : Nodes)
      → and_then (walk_into now desk.creds (both_dirs from to) (dir_of from)) (λ dir. walk_into now desk.creds (both_dirs from to) (dir_of to)) ≡ Err reply → IsRefusedAs desk call reply now
  walk_refuses desk reply now e =
      rename_refused_by_walk desk (record { call = call; reply = reply; made = 0 }) now from to r.on r.early
      (ap (λ ws. and_then (walk_into now desk.creds ws (dir_of from)) (λ dir. walk_into now desk.creds ws (dir_of to))) writes_are ∙ e) refl

  -- ---- the walk into the old directory

  module _ {D : Type 0} (called : D → Ask → Told → D → Type 0) (seen : D → DeskSeen) (d : D) (s : SessionSeen) (may : MayCall (seen d) s) (d1 : D) (s1 : SessionSeen) (walks : MayWalk (seen d1) s1) where
    abbrev out_ending : WalkEnd → Type 0
    out_ending end = Walked called seen d s (WalksInto (seen d1) s (both_dirs from to) (dir_of from) end) end d1 s1

    out_are : InAllShown (seen d1) s1 (λ now.
        dir_needs now (seen d1).creds (shows_root s) call
        ≡ into_needs now (seen d1).creds (shows_root s) (both_dirs from to) (dir_of from)
        ++ reached_by (walk_into now (seen d1).creds (both_dirs from to) (dir_of from)) (across_needs now (seen d1).creds (shows_root s1) from to))
    out_are nodes rows p =
        rename_across call from to r (batch_nodes (seen d1).creds s1.calls nodes) (shown_tree (seen d1) s1 walks nodes rows p) (seen d1).creds (shows_root s) (shows_root s1)

    abbrev out_needs : Nodes → List Needed
    out_needs now = dir_needs now (seen d1).creds (shows_root s) call

    abbrev then_needs : Nodes → ℕ → List Needed
    then_needs now dir = across_needs now (seen d1).creds (shows_root s1) from to dir

    -- what is done from there goes with the walk
    pub out_goes : (dir : ℕ) → out_ending (At dir) → (end : Outcome) (number : ℕ) (d' : D) (s' : SessionSeen)
        → Goes called seen d1 s1 call (λ now. across_needs now (seen d1).creds (shows_root s1) from to dir) end number d' s'
        → Goes called seen d s call (λ now. dir_needs now (seen d').creds (shows_root s) call) end number d' s'
    out_goes dir w end number d' s' goes =
        subst (λ (k : Creds). Goes called seen d s call (λ now. dir_needs now k (shows_root s) call) end number d' s') (sym goes.passes.same.creds)
        (into_goes called seen d s call (both_dirs from to) (dir_of from) may d1 s1 out_needs then_needs out_are dir w walks s1 refl end number d' s' goes)

    pub is_out : (dir : ℕ) → out_ending (At dir) → IsOpenDir s1 dir → MayLookIn (seen d1) s1 dir → IsOut (seen d1) s1 from to dir
    is_out dir w opens look = record {
      may = way_may called seen d s w.more w.last d1 s1 may w.way walks;
      opens = opens;
      look = look;
      out = λ nodes rows p. (w.shown nodes rows p).walks;
    }

    -- it comes to no directory
    pub out_stops : (end : WalkEnd) → out_ending end → (s2 : SessionSeen) → s2 ≡ record s1 { room = s2.room } → IsStopped end → (result : Result replied.Replied Stop) → StopsBy end result s2
        → Goes called seen d s call (λ now. dir_needs now (seen d1).creds (shows_root s) call) (try_ends result) (number_made result) d1 s2
    out_stops end w s2 kept st result by =
        into_stops called seen d s call (both_dirs from to) (dir_of from) may d1 s1 out_needs then_needs out_are end w walks s2 kept st
        (λ reply nodes rows p walked.
        let now : Nodes = batch_nodes (seen d1).creds s1.calls nodes in
        walk_refuses (seen d1) reply now (ap (λ q. and_then q (λ dir. walk_into now (seen d1).creds (both_dirs from to) (dir_of to))) walked))
        result by

  -- ---- the walk into the new one

  module _ {D : Type 0} (called : D → Ask → Told → D → Type 0) (seen : D → DeskSeen) (d : D) (s : SessionSeen) (dir : ℕ) (o : IsOut (seen d) s from to dir) (d1 : D) (s1 : SessionSeen) (walks : MayWalk (seen d1) s1) where
    abbrev into_ending : WalkEnd → Type 0
    into_ending end = Walked called seen d s (WalksInto (seen d1) s (both_dirs from to) (dir_of to) end) end d1 s1

    abbrev into_these : Nodes → List Needed
    into_these now = across_needs now (seen d).creds (shows_root s) from to dir

    abbrev into_then : Nodes → ℕ → List Needed
    into_then now new_dir = moving_needs now from to dir new_dir

    module _ (end : WalkEnd) (w : into_ending end) where
      into_are : InAllShown (seen d1) s1 (λ now.
          across_needs now (seen d).creds (shows_root s) from to dir
          ≡ into_needs now (seen d1).creds (shows_root s) (both_dirs from to) (dir_of to) ++ reached_by (walk_into now (seen d1).creds (both_dirs from to) (dir_of to)) (λ new_dir. moving_needs now from to dir new_dir))
      into_are nodes rows p = ap (λ (k : Creds). across_needs (batch_nodes (seen d1).creds s1.calls nodes) k (shows_root s) from to dir) (sym w.way.creds)

      -- what was known of the nodes still is
      pub into_still : (P : Nodes → Type 0) → InAllShown (seen d) s P → InAllShown (seen d1) s1 P
      into_still P h =
          all_then (seen d) (seen d1) s s1 P (way_same called seen d s w.more w.last d1 s1 w.way) (way_more called seen d s w.more w.last d1 s1 w.way)
          (way_calls called seen d s w.more w.last d1 s1 w.way) h

      pub still_out : InAllShown (seen d1) s1 (λ now. walk_into now (seen d1).creds (both_dirs from to) (dir_of from) ≡ Ok dir)
      still_out nodes rows p =
          let now : Nodes = batch_nodes (seen d1).creds s1.calls nodes in
          subst (λ (k : Creds). walk_into now k (both_dirs from to) (dir_of from) ≡ Ok dir) (sym w.way.creds)
          (into_still (λ n. walk_into n (seen d).creds (both_dirs from to) (dir_of from) ≡ Ok dir) o.out nodes rows p)

    pub to_goes : (new_dir : ℕ) (w : into_ending (At new_dir)) (end : Outcome) (number : ℕ) (d' : D) (s' : SessionSeen)
        → Goes called seen d1 s1 call (λ now. moving_needs now from to dir new_dir) end number d' s'
        → Goes called seen d s call (λ now. across_needs now (seen d).creds (shows_root s) from to dir) end number d' s'
    to_goes new_dir w end number d' s' goes =
        into_goes called seen d s call (both_dirs from to) (dir_of to) o.may d1 s1 into_these into_then (into_are (At new_dir) w) new_dir w walks s1 refl end number d' s' goes

    pub is_across : (new_dir : ℕ) → into_ending (At new_dir) → IsOpenDir s1 new_dir → MayLookIn (seen d1) s1 new_dir → IsAcross (seen d1) s1 call from to dir new_dir
    is_across new_dir w opens look = record {
      may = way_may called seen d s w.more w.last d1 s1 o.may w.way walks;
      opens = record { directory = open_still s s1 w.more dir Directory w.way.took o.opens.directory; index = w.way.took.indexed dir o.opens.index };
      look = look_still (seen d) (seen d1) s s1 w.more dir w.way.took w.way.sizes w.way.root w.way.creds o.look;
      opens_new = opens;
      look_new = look;
      comes = λ nodes rows p.
          let now : Nodes = batch_nodes (seen d1).creds s1.calls nodes in
          record {
            on = r.on;
            early = r.early;
            out = ap (λ ws. walk_into now (seen d1).creds ws (dir_of from)) writes_are ∙ still_out (At new_dir) w nodes rows p;
            into = ap (λ ws. walk_into now (seen d1).creds ws (dir_of to)) writes_are ∙ (w.shown nodes rows p).walks;
          };
    }

    -- it comes to no directory
    pub to_stops : (end : WalkEnd) → into_ending end → (s2 : SessionSeen) → s2 ≡ record s1 { room = s2.room } → IsStopped end → (result : Result replied.Replied Stop) → StopsBy end result s2
        → Goes called seen d s call (λ now. across_needs now (seen d).creds (shows_root s) from to dir) (try_ends result) (number_made result) d1 s2
    to_stops end w s2 kept st result by =
        into_stops called seen d s call (both_dirs from to) (dir_of to) o.may d1 s1 into_these into_then (into_are end w) end w walks s2 kept st
        (λ reply nodes rows p walked.
        let now : Nodes = batch_nodes (seen d1).creds s1.calls nodes in
        walk_refuses (seen d1) reply now (ap (λ q. and_then q (λ k. walk_into now (seen d1).creds (both_dirs from to) (dir_of to))) (still_out end w nodes rows p) ∙ walked))
        result by
