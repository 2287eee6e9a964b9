-- A file is made: its walk, and the look-up of its name.
use Rattle.trio_calls_dir.proofs.Words.{◌++◌, ◌<◌, ◌∙◌, ◌∷◌, ◌≡◌, Ask, At, Bool, Busy, Call, ComesInto, Creds, DeskSeen, Directory, Err, Exists, Goes, InAllShown, IsAlike, IsNotBusy, IsStopped, Kind, LacksMemory, MatchResult, MayCall, MayWalk, Mode, Nodes, None, Ok, Option, OthersHold, Outcome, Path, Regular, Reply, Result, SessionSeen, Some, Stop, StopsBy, Told, WalkEnd, Walked, WalksInto, [], ap, append-nil, batch_nodes, cond, dir_needs, dir_of, early_refusal, false, find_named, into_needs, is_root, length, making, may_alike, name_of, name_refusal, number_made, reached_by, refl, refused_by_name, refused_by_path, shows_root, subst, sym, true, try_ends, walk_into, ℕ, New, NewDirectory, NewFile, NewLink}
use Rattle.trio_calls_dir.specs.declared.replies.Replied as replied
use Rattle.trio_calls_dir.proofs.Ends.{refused_goes}
use Rattle.trio_calls_dir.proofs.Entered.{IsOneName, comes_into, one_goes, one_stops}
use Rattle.trio_calls_dir.proofs.Walkable.{way_may}

-- the call is on one name, and its directory is written
making_one : (what : New) (path : Path) → is_root path ≡ false → IsOneName (making what path) path
making_one (NewDirectory mode) path e = record { on = refl; early = ap (λ b. cond {A = Option Reply} b (Some Exists) None) e; writes = refl }
making_one (NewFile mode) path e = record { on = refl; early = ap (λ b. cond {A = Option Reply} b (Some Exists) None) e; writes = refl }
making_one (NewLink text) path e = record { on = refl; early = ap (λ b. cond {A = Option Reply} b (Some Exists) None) e; writes = refl }

-- nothing is needed behind its walk
no_more : (r : Result ℕ Reply) → reached_by r (λ dir. []) ≡ []
no_more (Ok n) = refl
no_more (Err reply) = refl

make_needs : (what : New) (path : Path) → is_root path ≡ false → (now : Nodes) (creds : Creds) (shown : Bool)
    → dir_needs now creds shown (making what path) ≡ into_needs now creds shown (dir_of path ∷ []) (dir_of path) ++ reached_by (walk_into now creds (dir_of path ∷ []) (dir_of path)) (λ dir. [])
make_needs what path e now creds shown =
    by what ∙ sym (append-nil (into_needs now creds shown (dir_of path ∷ []) (dir_of path)))
    ∙ ap (λ l. into_needs now creds shown (dir_of path ∷ []) (dir_of path) ++ l) (sym (no_more (walk_into now creds (dir_of path ∷ []) (dir_of path))))
  where
    by : (k : New) → dir_needs now creds shown (making k path) ≡ into_needs now creds shown (dir_of path ∷ []) (dir_of path)
    by (NewDirectory mode) = ap (λ b. cond b [] (into_needs now creds shown (dir_of path ∷ []) (dir_of path))) e
    by (NewFile mode) = ap (λ b. cond b [] (into_needs now creds shown (dir_of path ∷ []) (dir_of path))) e
    by (NewLink text) = ap (λ b. cond b [] (into_needs now creds shown (dir_of path ∷ []) (dir_of path))) e

there_refusal : (what : New) (path : Path) (n : ℕ) → name_refusal (making what path) (Some n) ≡ Some Exists
there_refusal (NewDirectory mode) path n = refl
there_refusal (NewFile mode) path n = refl
there_refusal (NewLink text) path n = refl

-- a try that is never busy isn't kept so by its own library
pub never_others : (session : SessionSeen) (end : Outcome) → IsNotBusy end → OthersHold session.lib end
never_others s (Busy holder) idle = absurd idle
never_others s end idle = tt

module _ {D : Type 0} (called : D → Ask → Told → D → Type 0) (seen : D → DeskSeen) (d : D) (s : SessionSeen) (call : Call) (what : New) (path : Path) (is : call ≡ making what path) (root : is_root path ≡ false) (may : MayCall (seen d) s) (d1 : D) (s1 : SessionSeen) where
  one : IsOneName call path
  one = subst (λ (c : Call). IsOneName c path) (sym is) (making_one what path root)

  needs_are : (now : Nodes) (creds : Creds) → dir_needs now creds (shows_root s) call
      ≡ into_needs now creds (shows_root s) (dir_of path ∷ []) (dir_of path) ++ reached_by (walk_into now creds (dir_of path ∷ []) (dir_of path)) (λ dir. [])
  needs_are now creds = ap (dir_needs now creds (shows_root s)) is ∙ make_needs what path root now creds (shows_root s)

  abbrev ending : WalkEnd → Type 0
  ending end = Walked called seen d s (WalksInto (seen d1) s (dir_of path ∷ []) (dir_of path) end) end d1 s1

  module _ (dir : ℕ) (w : ending (At dir)) (walks : MayWalk (seen d1) s1) (s2 : SessionSeen) (near : IsAlike s1 s2) where
    pub make_may : MayCall (seen d1) s2
    make_may = may_alike (seen d1) s1 s2 near (way_may called seen d s w.more w.last d1 s1 may w.way walks)

    pub make_comes : InAllShown (seen d1) s2 (λ now. ComesInto now (seen d1).creds call path dir)
    make_comes = comes_into called seen d s call path one may d1 s1 (λ now n. []) needs_are dir w walks s2 near

    -- what is done in the directory goes with the walk
    pub make_goes : (end : Outcome) (number : ℕ) (d' : D) (s' : SessionSeen) → Goes called seen d1 s2 call (λ now. []) end number d' s'
        → Goes called seen d s call (λ now. dir_needs now (seen d').creds (shows_root s) call) end number d' s'
    make_goes end number d' s' goes = one_goes called seen d s call path one may d1 s1 (λ now n. []) needs_are dir w walks s2 near end number d' s' goes

    -- the name is there
    pub make_there : (s' : SessionSeen) → s' ≡ record s2 { room = s'.room } → (result : Result replied.Replied Stop) (n : ℕ) → InAllShown (seen d1) s2 (λ now. find_named now dir (name_of path) ≡ Some n)
        → MatchResult result (λ r. (r ≡ record { reply = Exists; made = 0 }) × (length s'.calls < s'.room.calls)) (λ stop. stop ≡ LacksMemory)
        → Goes called seen d s call (λ now. dir_needs now (seen d1).creds (shows_root s) call) (try_ends result) (number_made result) d1 s'
    make_there s' kept result n found by =
        make_goes (try_ends result) (number_made result) d1 s'
        (refused_goes called seen d1 s2 s' call (λ now. []) make_may kept (λ nodes rows p. refl) Exists tt
        (λ nodes rows p.
        refused_by_name (seen d1) (record { call = call; reply = Exists; made = 0 }) (batch_nodes (seen d1).creds s2.calls nodes) path dir (Some n) (make_comes nodes rows p) (found nodes rows p)
        (ap (λ (c : Call). name_refusal c (Some n)) is ∙ there_refusal what path n) refl)
        result by)

  pub make_stops : (end : WalkEnd) (w : ending end) → MayWalk (seen d1) s1 → (s2 : SessionSeen) → s2 ≡ record s1 { room = s2.room } → IsStopped end → (result : Result replied.Replied Stop) → StopsBy end result s2
      → Goes called seen d s call (λ now. dir_needs now (seen d1).creds (shows_root s) call) (try_ends result) (number_made result) d1 s2
  make_stops end w walks s2 kept st result by = one_stops called seen d s call path one may d1 s1 (λ now n. []) needs_are end w walks s2 kept st result by

-- ---- the root

root_needs : (what : New) (path : Path) → is_root path ≡ true → (now : Nodes) (creds : Creds) (shown : Bool) → dir_needs now creds shown (making what path) ≡ []
root_needs (NewDirectory mode) path e now creds shown = ap (λ b. cond b [] (into_needs now creds shown (dir_of path ∷ []) (dir_of path))) e
root_needs (NewFile mode) path e now creds shown = ap (λ b. cond b [] (into_needs now creds shown (dir_of path ∷ []) (dir_of path))) e
root_needs (NewLink text) path e now creds shown = ap (λ b. cond b [] (into_needs now creds shown (dir_of path ∷ []) (dir_of path))) e

root_early : (what : New) (path : Path) → is_root path ≡ true → early_refusal (making what path) ≡ Some Exists
root_early (NewDirectory mode) path e = ap (λ b. cond {A = Option Reply} b (Some Exists) None) e
root_early (NewFile mode) path e = ap (λ b. cond {A = Option Reply} b (Some Exists) None) e
root_early (NewLink text) path e = ap (λ b. cond {A = Option Reply} b (Some Exists) None) e

pub root_made : {D : Type 0} (called : D → Ask → Told → D → Type 0) (seen : D → DeskSeen) (d : D) (s : SessionSeen) (call : Call) (what : New) (path : Path) → call ≡ making what path → is_root path ≡ true → MayCall (seen d) s
    → (s' : SessionSeen) → s' ≡ record s { room = s'.room } → (result : Result replied.Replied Stop)
    → MatchResult result (λ r. (r ≡ record { reply = Exists; made = 0 }) × (length s'.calls < s'.room.calls)) (λ stop. stop ≡ LacksMemory)
    → Goes called seen d s call (λ now. dir_needs now (seen d).creds (shows_root s) call) (try_ends result) (number_made result) d s'
root_made called seen d s call what path is root may s' kept result by =
    refused_goes called seen d s s' call (λ now. dir_needs now (seen d).creds (shows_root s) call) may kept
    (λ nodes rows p.
    let now : Nodes = batch_nodes (seen d).creds s.calls nodes in
    ap (dir_needs now (seen d).creds (shows_root s)) is ∙ root_needs what path root now (seen d).creds (shows_root s))
    Exists tt
    (λ nodes rows p.
    refused_by_path (seen d) (record { call = call; reply = Exists; made = 0 }) (batch_nodes (seen d).creds s.calls nodes) (ap early_refusal is ∙ root_early what path root) refl)
    result by
