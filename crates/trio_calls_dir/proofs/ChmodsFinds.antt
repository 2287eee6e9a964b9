-- The search for the file whose mode is to be changed: its walk, and the look-up of its name.
use Rattle.trio_calls_dir.proofs.Words.{◌++◌, ◌∙◌, ◌≡◌, Applied, AreAsked, Ask, At, Bool, Chmod, ComesSo, Creds, Denied, DeskSeen, EndsBy, Err, Finds, InAllShown, IsAlike, IsDone, IsMet, IsMetIn, IsReplied, IsReply, IsStopped, List, LooksUp, MayCall, MayWalk, Met, Mode, Moded, Needed, Node, Nodes, None, NotFound, Ok, Option, Path, Reply, RightsAre, SessionSeen, Some, Told, WalkEnd, Walked, WalksInto, WalksTo, Way, [], ap, applied, asked, batch_nodes, chmod_needs, chmod_walk, comes_of, cond, dir_of, done, eqb, false, false≢true, find_named, inl, into_needs, is_root, is_some, map, may_alike, moded_in, name_of, need_of, node_at, not, ok_or, option_map, option_map_or, owner_met, reached, refl, refused, served_by, shows_root, subst, sym, true, walk_into, with_node, ℕ}
use Rattle.std.proofs.Common.{◌||◌}
use Rattle.trio_nodes.specs.Apply.{of_node}
use Rattle.trio_walk.specs.declared.met.Rights.{Rights}
use Rattle.trio_walk.specs.declared.walks.WalkEnd.TheVariants.{Busy, NoMemory}
use Rattle.trio_calls_dir.proofs.Walkable.{way_may}
use Rattle.trio_walk.proofs.Possible.{same_seen}

-- ---- the tree's own call

abbrev pub as_moded : Mode → ℕ → Moded
as_moded m n = record { ino = n; mode = m.0 }

module _ (now : Nodes) (creds : Creds) (path : Path) (mode : Mode) where
  -- the library acts for the owner of a node, or for uid 0
  abbrev owns : Node → Bool
  owns x = eqb creds.uid x.uid || eqb creds.uid 0

  -- what it does to the file of a number
  abbrev at_node : ℕ → Node → Applied
  at_node n x = cond (not (eqb creds.uid x.uid || eqb creds.uid 0)) (refused now Denied) (done (with_node now n (Some (record x { mode = mode }))) IsDone)

  -- in a directory
  abbrev in_it : ℕ → Applied
  in_it dir = reached now (ok_or (find_named now dir (name_of path)) NotFound) (λ n. of_node now (node_at now n) (at_node n))

  pub root_refused : is_root path ≡ true → applied now creds (Chmod path mode) 0 ≡ refused now Denied
  root_refused e = ap (λ b. cond b (refused now Denied) (reached now (walk_into now creds [] (dir_of path)) in_it)) e

  module _ (root : is_root path ≡ false) where
    beyond : applied now creds (Chmod path mode) 0 ≡ reached now (walk_into now creds [] (dir_of path)) in_it
    beyond = ap (λ b. cond b (refused now Denied) (reached now (walk_into now creds [] (dir_of path)) in_it)) root

    pub walk_refused : (reply : Reply) → walk_into now creds [] (dir_of path) ≡ Err reply → applied now creds (Chmod path mode) 0 ≡ refused now reply
    walk_refused reply e = beyond ∙ ap (λ r. reached now r in_it) e

    module _ (dir : ℕ) (into : walk_into now creds [] (dir_of path) ≡ Ok dir) where
      entered : applied now creds (Chmod path mode) 0 ≡ in_it dir
      entered = beyond ∙ ap (λ r. reached now r in_it) into

      pub absent_refused : find_named now dir (name_of path) ≡ None → applied now creds (Chmod path mode) 0 ≡ refused now NotFound
      absent_refused e = entered ∙ ap (λ o. reached now (ok_or o NotFound) (λ n. of_node now (node_at now n) (at_node n))) e

      module _ (n : ℕ) (x : Node) (found : find_named now dir (name_of path) ≡ Some n) (there : node_at now n ≡ Some x) where
        comes_at : applied now creds (Chmod path mode) 0 ≡ at_node n x
        comes_at =
            entered ∙ ap (λ o. reached now (ok_or o NotFound) (λ n. of_node now (node_at now n) (at_node n))) found
            ∙ ap (λ o. of_node now o (at_node n)) there

        pub stranger_refused : owns x ≡ false → applied now creds (Chmod path mode) 0 ≡ refused now Denied
        stranger_refused e = comes_at ∙ ap (λ b. cond (not b) (refused now Denied) (done (with_node now n (Some (record x { mode = mode }))) IsDone)) e

        pub owner_done : owns x ≡ true → (applied now creds (Chmod path mode) 0).reply ≡ IsReplied IsDone
        owner_done e = ap (λ (a : Applied). a.reply) (comes_at ∙ ap (λ b. cond (not b) (refused now Denied) (done (with_node now n (Some (record x { mode = mode }))) IsDone)) e)

        pub walk_is : chmod_walk now creds (Chmod path mode) ≡ Some (record { ino = n; mode = mode.0 })
        walk_is =
            ap (λ b. cond {A = Option Moded} b None (moded_in now (name_of path) mode (walk_into now creds [] (dir_of path)))) root
            ∙ ap (moded_in now (name_of path) mode) into
            ∙ ap (λ o. option_map (as_moded mode) o) found

  needs_none : (shown : Bool) → is_root path ≡ true → chmod_needs now creds shown path ≡ []
  needs_none shown e = ap (λ b. cond b [] (into_needs now creds shown [] (dir_of path))) e

  needs_into : (shown : Bool) → is_root path ≡ false → chmod_needs now creds shown path ≡ into_needs now creds shown [] (dir_of path)
  needs_into shown e = ap (λ b. cond b [] (into_needs now creds shown [] (dir_of path))) e

-- ---- what is met

-- whether the library acts for the owner of a file that was met, is so of its node
met_owner : (creds : Creds) (m : Met) (x : Node) (o : Option Rights) → m.rights ≡ o → is_some o ≡ true → RightsAre o x → (eqb creds.uid x.uid || eqb creds.uid 0) ≡ owner_met creds m
met_owner creds m x None e k r = absurd (false≢true k)
met_owner creds m x (Some q) e k r =
    ap (λ u. eqb creds.uid u || eqb creds.uid 0) r.1
    ∙ sym (ap (λ (o : Option Rights). option_map_or (λ (z : Rights). eqb creds.uid z.uid || eqb creds.uid 0) o (eqb creds.uid 0)) e)

owner_is : (s : SessionSeen) (nodes now : Nodes) (creds : Creds) (m : Met) (t : IsMet true s nodes now creds m) → (eqb creds.uid t.after.uid || eqb creds.uid 0) ≡ owner_met creds m
owner_is s nodes now creds m t = met_owner creds m t.after m.rights refl (sym t.known) t.rights

-- ---- the search

module _ {D : Type 0} (called : D → Ask → Told → D → Type 0) (seen : D → DeskSeen) (d : D) (s : SessionSeen) (path : Path) (mode : Mode) where
  -- nothing was asked
  stood : Way called seen d s [] [] d s
  stood = record { made = refl; took = record { same = refl; indexed = λ n i. i }; as_lent = λ f i. absurd i; lends = same_seen (seen d); busy = λ n kind holder i. absurd i; lib = refl; sizes = refl; root = refl; creds = refl; others = λ n kind holder i. absurd i }

  pub found_root : is_root path ≡ true → Walked called seen d s (Finds (seen d) s path mode (IsReply Denied)) (IsReply Denied) d s
  found_root e = record {
    more = [];
    last = [];
    need = [];
    way = stood;
    ends = inl (refl, refl);
    shown = λ nodes rows p.
        let now : Nodes = batch_nodes (seen d).creds s.calls nodes in
        record { so = root_refused now (seen d).creds path mode e; asks = ap (asked (served_by s)) (needs_none now (seen d).creds path mode (shows_root s) e) };
  }

  pub found_short : Walked called seen d s (Finds (seen d) s path mode NoMemory) NoMemory d s
  found_short = record {
    more = [];
    last = [];
    need = [];
    way = stood;
    ends = inl (refl, refl);
    shown = λ nodes rows p. record { so = tt; asks = (asked (served_by s) (chmod_needs (batch_nodes (seen d).creds s.calls nodes) (seen d).creds (shows_root s) path), refl) };
  }

  module _ (root : is_root path ≡ false) (d1 : D) (s1 : SessionSeen) where
    stopped_so : (now : Nodes) (end : WalkEnd) → WalksTo end (walk_into now (seen d1).creds [] (dir_of path)) → IsStopped end → ComesSo now (seen d1).creds path mode (comes_of end)
    stopped_so now (IsReply reply) w st = walk_refused now (seen d1).creds path mode root reply w
    stopped_so now (At n) w st = absurd st
    stopped_so now (Busy holder) w st = tt
    stopped_so now NoMemory w st = tt

    -- the walk has come to no directory
    pub found_stopped : (end : WalkEnd) → Walked called seen d s (WalksInto (seen d1) s [] (dir_of path) end) end d1 s1 → IsStopped end → Walked called seen d s (Finds (seen d1) s path mode end) end d1 s1
    found_stopped end w st = record {
      more = w.more;
      last = w.last;
      need = w.need;
      way = w.way;
      ends = w.ends;
      shown = λ nodes rows p.
          let now : Nodes = batch_nodes (seen d1).creds s1.calls nodes in
          let v = w.shown nodes rows p in
          record {
            so = stopped_so now end v.walks st;
            asks = subst (λ l. AreAsked end (map need_of w.more ++ w.need) (asked (served_by s) l)) (sym (needs_into now (seen d1).creds path mode (shows_root s) root)) v.asks;
          };
    }

    module _ (dir : ℕ) (w : Walked called seen d s (WalksInto (seen d1) s [] (dir_of path) (At dir)) (At dir) d1 s1) (k : ℕ) where
      -- after the look-up
      abbrev looked : SessionSeen
      looked = record s1 { finds = k }

      way_on : Way called seen d s w.more [] d1 looked
      way_on =
          let way : Way called seen d s w.more [] d1 s1 = subst (λ l. Way called seen d s w.more l d1 s1) w.ends.0 w.way in
          record {
            made = way.made;
            took = record { same = ap (λ (x : SessionSeen). record x { finds = k }) way.took.same; indexed = way.took.indexed };
            as_lent = way.as_lent;
            lends = way.lends;
            busy = way.busy;
            lib = way.lib;
            sizes = way.sizes;
            root = way.root;
            creds = way.creds;
            others = way.others;
          }

      found_with : (end : WalkEnd) → EndsBy end [] [] → ((these wanted : List Needed) → wanted ≡ these → AreAsked end these wanted)
          → InAllShown (seen d1) looked (λ now. walk_into now (seen d1).creds [] (dir_of path) ≡ Ok dir → ComesSo now (seen d1).creds path mode (comes_of end))
          → Walked called seen d s (Finds (seen d1) s path mode end) end d1 looked
      found_with end ends all so = record {
        more = w.more;
        last = [];
        need = [];
        way = way_on;
        ends = ends;
        shown = λ nodes rows p.
            let now : Nodes = batch_nodes (seen d1).creds s1.calls nodes in
            let v = w.shown nodes rows p in
            record {
              so = so nodes rows p v.walks;
              asks =
                  all (map need_of w.more ++ []) (asked (served_by s) (chmod_needs now (seen d1).creds (shows_root s) path))
                  (ap (asked (served_by s)) (needs_into now (seen d1).creds path mode (shows_root s) root) ∙ v.asks ∙ ap (λ l. map need_of w.more ++ l) w.ends.1);
            };
      }

      pub found_absent : InAllShown (seen d1) looked (λ now. find_named now dir (name_of path) ≡ None) → Walked called seen d s (Finds (seen d1) s path mode (IsReply NotFound)) (IsReply NotFound) d1 looked
      found_absent none =
          found_with (IsReply NotFound) (inl (refl, refl)) (λ these wanted e. e)
          (λ nodes rows p into. absent_refused (batch_nodes (seen d1).creds s1.calls nodes) (seen d1).creds path mode root dir into (none nodes rows p))

      module _ (m : Met) (met : (shown : Bool) → IsMetIn shown (seen d1) looked m) (found : InAllShown (seen d1) looked (λ now. find_named now dir (name_of path) ≡ Some m.ino)) where
        pub found_owned : owner_met (seen d1).creds m ≡ true → Walked called seen d s (Finds (seen d1) s path mode (At m.ino)) (At m.ino) d1 looked
        found_owned own =
            found_with (At m.ino) (refl, refl) (λ these wanted e. e)
            (λ nodes rows p into.
            let now : Nodes = batch_nodes (seen d1).creds s1.calls nodes in
            let t = (met true).met nodes rows p in (
              owner_done now (seen d1).creds path mode root dir into m.ino t.after (found nodes rows p) t.there_now (owner_is looked nodes now (seen d1).creds m t ∙ own),
              walk_is now (seen d1).creds path mode root dir into m.ino t.after (found nodes rows p) t.there_now,
            ))

        pub found_stranger : owner_met (seen d1).creds m ≡ false → Walked called seen d s (Finds (seen d1) s path mode (IsReply Denied)) (IsReply Denied) d1 looked
        found_stranger own =
            found_with (IsReply Denied) (inl (refl, refl)) (λ these wanted e. e)
            (λ nodes rows p into.
            let now : Nodes = batch_nodes (seen d1).creds s1.calls nodes in
            let t = (met true).met nodes rows p in
            stranger_refused now (seen d1).creds path mode root dir into m.ino t.after (found nodes rows p) t.there_now (owner_is looked nodes now (seen d1).creds m t ∙ own))

-- ---- as it is called

-- the walk to the path that is meant
pub walk_as : {D : Type 0} (called : D → Ask → Told → D → Type 0) (seen : D → DeskSeen) (d : D) (s : SessionSeen) (d1 : D) (s1 : SessionSeen) (p dir : Path) → p ≡ dir → (end : WalkEnd)
    → Walked called seen d s (WalksInto (seen d1) s [] p end) end d1 s1 → Walked called seen d s (WalksInto (seen d1) s [] dir end) end d1 s1
walk_as called seen d s d1 s1 p dir e end w = subst (λ (x : Path). Walked called seen d s (WalksInto (seen d1) s [] x end) end d1 s1) e w

-- the session after it
pub found_as : {D : Type 0} (called : D → Ask → Told → D → Type 0) (seen : D → DeskSeen) (d : D) (s : SessionSeen) (path : Path) (mode : Mode) (d1 : D) (s1 s2 : SessionSeen) (k : ℕ) (end : WalkEnd) → s2 ≡ record s1 { finds = k }
    → Walked called seen d s (Finds (seen d1) s path mode end) end d1 (record s1 { finds = k }) → Walked called seen d s (Finds (seen d1) s path mode end) end d1 s2
found_as called seen d s path mode d1 s1 s2 k end e w = subst (λ (x : SessionSeen). Walked called seen d s (Finds (seen d1) s path mode end) end d1 x) (sym e) w

-- it may make calls then
pub search_may : {D : Type 0} (called : D → Ask → Told → D → Type 0) (seen : D → DeskSeen) (d : D) (s : SessionSeen) (true_of : List Needed → Nodes → Type 0) (end : WalkEnd) (d1 : D) (s1 s2 : SessionSeen)
    → MayCall (seen d) s → Walked called seen d s true_of end d1 s1 → MayWalk (seen d1) s1 → IsAlike s1 s2 → MayCall (seen d1) s2
search_may called seen d s true_of end d1 s1 s2 may w walks near = may_alike (seen d1) s1 s2 near (way_may called seen d s w.more w.last d1 s1 may w.way walks)

-- what a name finds, by the name that is meant
pub looked_none : (desk : DeskSeen) (s s2 : SessionSeen) (k dir : ℕ) (n name : List ℕ) → s2 ≡ record s { finds = k } → n ≡ name → LooksUp desk s2 dir n None
    → InAllShown desk (record s { finds = k }) (λ now. find_named now dir name ≡ None)
looked_none desk s s2 k dir n name e is l = subst (λ (q : SessionSeen). LooksUp desk q dir name None) e (subst (λ (z : List ℕ). LooksUp desk s2 dir z None) is l)

pub looked_some : (desk : DeskSeen) (s s2 : SessionSeen) (k dir : ℕ) (n name : List ℕ) (m : Met) → s2 ≡ record s { finds = k } → n ≡ name → LooksUp desk s2 dir n (Some m) → LooksUp desk (record s { finds = k }) dir name (Some m)
looked_some desk s s2 k dir n name m e is l = subst (λ (q : SessionSeen). LooksUp desk q dir name (Some m)) e (subst (λ (z : List ℕ). LooksUp desk s2 dir z (Some m)) is l)
