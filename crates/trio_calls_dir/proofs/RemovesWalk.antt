-- A file is removed: its walk, and the look-up of its name.
use Rattle.trio_calls_dir.proofs.Words.{◌++◌, ◌<◌, ◌∙◌, ◌∷◌, ◌≡◌, Ask, At, Bool, Call, ComesInto, Creds, Denied, DeskSeen, Directory, FindsEntry, Goes, Hold, InAllShown, IsAlike, IsDir, IsMetIn, IsRefusal, IsRefusedAs, IsStopped, Kind, LacksMemory, List, MatchResult, MayCall, MayWalk, Met, Needed, Node, Nodes, None, NotDir, NotEmpty, NotFound, Option, Outcome, Path, Regular, Reply, Result, Rmdir, SessionSeen, Some, Stop, StopsBy, Told, Unlink, WalkEnd, Walked, WalksInto, [], ap, batch_nodes, cond, count_in, dir_needs, dir_of, early_refusal, false, find_named, into_needs, is_directory, is_root, length, ltb, may_alike, name_of, name_refusal, named_needs, node_at, node_needs, not, number_made, option_map, option_map_or, reached_by, refl, refused_at_entry, refused_by_name, refused_by_path, removing, removing_needs, rights_of, shows_root, subst, sym, true, try_ends, walk_into, ℕ}
use Rattle.trio_walk.specs.Needs.{removal_needs}
use Rattle.trio_calls_dir.specs.declared.replies.Replied as replied
use Rattle.trio_calls_dir.specs.inner.Removes.{other_kind}
use Rattle.trio_calls_dir.proofs.Ends.{refused_goes}
use Rattle.trio_calls_dir.proofs.Entered.{IsOneName, comes_into, one_goes, one_stops, removing_one}
use Rattle.trio_calls_dir.proofs.Walkable.{way_may}

remove_needs : (of_dirs : Bool) (path : Path) → is_root path ≡ false → (now : Nodes) (creds : Creds) (shown : Bool)
    → dir_needs now creds shown (removing of_dirs path)
    ≡ into_needs now creds shown (dir_of path ∷ []) (dir_of path) ++ reached_by (walk_into now creds (dir_of path ∷ []) (dir_of path)) (λ dir. named_needs now dir (name_of path) (removing_needs of_dirs))
remove_needs true path e now creds shown = ap (λ b. cond b [] (removal_needs now creds shown true path)) e
remove_needs false path e now creds shown = ap (λ b. cond b [] (removal_needs now creds shown false path)) e

absent_refusal : (of_dirs : Bool) (path : Path) → name_refusal (removing of_dirs path) None ≡ Some NotFound
absent_refusal true path = refl
absent_refusal false path = refl

other_is_refusal : (of_dirs : Bool) → IsRefusal (other_kind of_dirs)
other_is_refusal true = tt
other_is_refusal false = tt

-- a file of the other kind isn't held
other_needs : (of_dirs b : Bool) (n : ℕ) (x : Node) → is_directory x.kind ≡ b → (b ≡ of_dirs → ⊥) → removing_needs of_dirs n x ≡ []
other_needs true true n x e differ = absurd (differ refl)
other_needs true false n x e differ = ap (λ q. cond {A = List Needed} q (record { ino = n; kind = Hold } ∷ []) []) e
other_needs false true n x e differ = ap (λ q. cond {A = List Needed} q [] (record { ino = n; kind = Hold } ∷ [])) e
other_needs false false n x e differ = absurd (differ refl)

-- nor removed
other_refused : (desk : DeskSeen) (of_dirs b : Bool) (path : Path) (now : Nodes) (dir n : ℕ) (x : Node) → ComesInto now desk.creds (removing of_dirs path) path dir → find_named now dir (name_of path) ≡ Some n
    → node_at now n ≡ Some x → is_directory x.kind ≡ b → (b ≡ of_dirs → ⊥) → IsRefusedAs desk (removing of_dirs path) (other_kind of_dirs) now
other_refused desk true true path now dir n x comes found at is differ = absurd (differ refl)
other_refused desk true false path now dir n x comes found at is differ =
    refused_at_entry desk (record { call = Rmdir path; reply = NotDir; made = 0 }) now path dir n (rights_of x) (count_in now n) comes found (ap (option_map rights_of) at) refl
    (ap (λ q. cond {A = Option Reply} (not q) (Some NotDir) (cond {A = Option Reply} (ltb 0 (count_in now n)) (Some NotEmpty) None)) is) refl
other_refused desk false true path now dir n x comes found at is differ =
    refused_at_entry desk (record { call = Unlink path; reply = IsDir; made = 0 }) now path dir n (rights_of x) (count_in now n) comes found (ap (option_map rights_of) at) refl
    (ap (λ q. cond {A = Option Reply} q (Some IsDir) None) is) refl
other_refused desk false false path now dir n x comes found at is differ = absurd (differ refl)

-- what was found is found after the look-up
pub finds_alike : (s s' : SessionSeen) (dir k : ℕ) (n name : List ℕ) (file : Met) → s' ≡ record s { finds = k } → n ≡ name → FindsEntry s dir n (Some file) → FindsEntry s' dir name (Some file)
finds_alike s s' dir k n name file kept is e =
    subst (λ (z : List ℕ). FindsEntry s' dir z (Some file)) is
    (subst (λ (q : SessionSeen). FindsEntry q dir n (Some file)) (sym kept) (e.0, e.1, e.2, e.3, e.4, e.5))

module _ {D : Type 0} (called : D → Ask → Told → D → Type 0) (seen : D → DeskSeen) (d : D) (s : SessionSeen) (call : Call) (of_dirs : Bool) (path : Path) (is : call ≡ removing of_dirs path) (root : is_root path ≡ false) (may : MayCall (seen d) s) (d1 : D) (s1 : SessionSeen) where
  one : IsOneName call path
  one = subst (λ (c : Call). IsOneName c path) (sym is) (removing_one of_dirs path root)

  needs_are : (now : Nodes) (creds : Creds) → dir_needs now creds (shows_root s) call
      ≡ into_needs now creds (shows_root s) (dir_of path ∷ []) (dir_of path) ++ reached_by (walk_into now creds (dir_of path ∷ []) (dir_of path)) (λ dir. named_needs now dir (name_of path) (removing_needs of_dirs))
  needs_are now creds = ap (dir_needs now creds (shows_root s)) is ∙ remove_needs of_dirs path root now creds (shows_root s)

  abbrev ending : WalkEnd → Type 0
  ending end = Walked called seen d s (WalksInto (seen d1) s (dir_of path ∷ []) (dir_of path) end) end d1 s1

  module _ (dir : ℕ) (w : ending (At dir)) (walks : MayWalk (seen d1) s1) (s2 : SessionSeen) (near : IsAlike s1 s2) where
    pub remove_may : MayCall (seen d1) s2
    remove_may = may_alike (seen d1) s1 s2 near (way_may called seen d s w.more w.last d1 s1 may w.way walks)

    pub remove_comes : InAllShown (seen d1) s2 (λ now. ComesInto now (seen d1).creds call path dir)
    remove_comes = comes_into called seen d s call path one may d1 s1 (λ now n. named_needs now n (name_of path) (removing_needs of_dirs)) needs_are dir w walks s2 near

    -- what is done in the directory goes with the walk
    pub remove_goes : (end : Outcome) (number : ℕ) (d' : D) (s' : SessionSeen) → Goes called seen d1 s2 call (λ now. named_needs now dir (name_of path) (removing_needs of_dirs)) end number d' s'
        → Goes called seen d s call (λ now. dir_needs now (seen d').creds (shows_root s) call) end number d' s'
    remove_goes end number d' s' goes =
        one_goes called seen d s call path one may d1 s1 (λ now n. named_needs now n (name_of path) (removing_needs of_dirs)) needs_are dir w walks s2 near end number d' s' goes

    module _ (s' : SessionSeen) (kept : s' ≡ record s2 { room = s'.room }) (result : Result replied.Replied Stop) where
      -- the name isn't there
      pub remove_absent : InAllShown (seen d1) s2 (λ now. find_named now dir (name_of path) ≡ None)
          → MatchResult result (λ r. (r ≡ record { reply = NotFound; made = 0 }) × (length s'.calls < s'.room.calls)) (λ stop. stop ≡ LacksMemory)
          → Goes called seen d s call (λ now. dir_needs now (seen d1).creds (shows_root s) call) (try_ends result) (number_made result) d1 s'
      remove_absent found by =
          remove_goes (try_ends result) (number_made result) d1 s'
          (refused_goes called seen d1 s2 s' call (λ now. named_needs now dir (name_of path) (removing_needs of_dirs)) remove_may kept
          (λ nodes rows p.
          let now : Nodes = batch_nodes (seen d1).creds s2.calls nodes in
          ap (λ (o : Option ℕ). option_map_or (λ n. node_needs n (node_at now n) (removing_needs of_dirs)) o []) (found nodes rows p))
          NotFound tt
          (λ nodes rows p.
          refused_by_name (seen d1) (record { call = call; reply = NotFound; made = 0 }) (batch_nodes (seen d1).creds s2.calls nodes) path dir None (remove_comes nodes rows p) (found nodes rows p)
          (ap (λ (c : Call). name_refusal c None) is ∙ absent_refusal of_dirs path) refl)
          result by)

      -- its file is of the other kind
      pub remove_other : (file : Met) → ((shown : Bool) → IsMetIn shown (seen d1) s2 file) → InAllShown (seen d1) s2 (λ now. find_named now dir (name_of path) ≡ Some file.ino) → (is_directory file.kind ≡ of_dirs → ⊥)
          → MatchResult result (λ r. (r ≡ record { reply = other_kind of_dirs; made = 0 }) × (length s'.calls < s'.room.calls)) (λ stop. stop ≡ LacksMemory)
          → Goes called seen d s call (λ now. dir_needs now (seen d1).creds (shows_root s) call) (try_ends result) (number_made result) d1 s'
      remove_other file met found differ by =
          remove_goes (try_ends result) (number_made result) d1 s'
          (refused_goes called seen d1 s2 s' call (λ now. named_needs now dir (name_of path) (removing_needs of_dirs)) remove_may kept
          (λ nodes rows p.
          let now : Nodes = batch_nodes (seen d1).creds s2.calls nodes in
          let x = (met true).met nodes rows p in
          ap (λ (o : Option ℕ). option_map_or (λ n. node_needs n (node_at now n) (removing_needs of_dirs)) o []) (found nodes rows p)
          ∙ ap (λ (o : Option Node). node_needs file.ino o (removing_needs of_dirs)) x.there_now
          ∙ other_needs of_dirs (is_directory file.kind) file.ino x.after (ap is_directory x.kind) differ)
          (other_kind of_dirs) (other_is_refusal of_dirs)
          (λ nodes rows p.
          let now : Nodes = batch_nodes (seen d1).creds s2.calls nodes in
          let x = (met true).met nodes rows p in
          subst (λ (c : Call). IsRefusedAs (seen d1) c (other_kind of_dirs) now) (sym is)
          (other_refused (seen d1) of_dirs (is_directory file.kind) path now dir file.ino x.after (subst (λ (c : Call). ComesInto now (seen d1).creds c path dir) is (remove_comes nodes rows p)) (found nodes rows p) x.there_now (ap is_directory x.kind) differ))
          result by)

  pub remove_stops : (end : WalkEnd) (w : ending end) → MayWalk (seen d1) s1 → (s2 : SessionSeen) → s2 ≡ record s1 { room = s2.room } → IsStopped end → (result : Result replied.Replied Stop) → StopsBy end result s2
      → Goes called seen d s call (λ now. dir_needs now (seen d1).creds (shows_root s) call) (try_ends result) (number_made result) d1 s2
  remove_stops end w walks s2 kept st result by =
      one_stops called seen d s call path one may d1 s1 (λ now n. named_needs now n (name_of path) (removing_needs of_dirs)) needs_are end w walks s2 kept st result by

-- ---- the root

-- why the root isn't removed
abbrev root_refusal : Bool → Reply
root_refusal true = Denied
root_refusal false = IsDir

root_needs : (of_dirs : Bool) (path : Path) → is_root path ≡ true → (now : Nodes) (creds : Creds) (shown : Bool) → dir_needs now creds shown (removing of_dirs path) ≡ []
root_needs true path e now creds shown = ap (λ b. cond b [] (removal_needs now creds shown true path)) e
root_needs false path e now creds shown = ap (λ b. cond b [] (removal_needs now creds shown false path)) e

root_early : (of_dirs : Bool) (path : Path) → is_root path ≡ true → early_refusal (removing of_dirs path) ≡ Some (root_refusal of_dirs)
root_early true path e = ap (λ b. cond {A = Option Reply} b (Some Denied) None) e
root_early false path e = ap (λ b. cond {A = Option Reply} b (Some IsDir) None) e

root_is_refusal : (of_dirs : Bool) → IsRefusal (root_refusal of_dirs)
root_is_refusal true = tt
root_is_refusal false = tt

pub root_goes : {D : Type 0} (called : D → Ask → Told → D → Type 0) (seen : D → DeskSeen) (d : D) (s : SessionSeen) (call : Call) (of_dirs : Bool) (path : Path) → call ≡ removing of_dirs path → is_root path ≡ true → MayCall (seen d) s
    → (s' : SessionSeen) → s' ≡ record s { room = s'.room } → (result : Result replied.Replied Stop)
    → MatchResult result (λ r. (r ≡ record { reply = root_refusal of_dirs; made = 0 }) × (length s'.calls < s'.room.calls)) (λ stop. stop ≡ LacksMemory)
    → Goes called seen d s call (λ now. dir_needs now (seen d).creds (shows_root s) call) (try_ends result) (number_made result) d s'
root_goes called seen d s call of_dirs path is root may s' kept result by =
    refused_goes called seen d s s' call (λ now. dir_needs now (seen d).creds (shows_root s) call) may kept
    (λ nodes rows p.
    let now : Nodes = batch_nodes (seen d).creds s.calls nodes in
    ap (dir_needs now (seen d).creds (shows_root s)) is ∙ root_needs of_dirs path root now (seen d).creds (shows_root s))
    (root_refusal of_dirs) (root_is_refusal of_dirs)
    (λ nodes rows p.
    refused_by_path (seen d) (record { call = call; reply = root_refusal of_dirs; made = 0 }) (batch_nodes (seen d).creds s.calls nodes) (ap early_refusal is ∙ root_early of_dirs path root) refl)
    result by
