-- What each call comes to, where its walk and its checks have come out so.
use Rattle.trio_onetree.proofs.Words.{if◌then◌else◌, ◌||◌, ◌∙◌, ◌∷◌, ◌≡◌, Answer, Applied, Bool, Creds, Denied, Err, Exists, IsDir, Kind, List, Mode, Node, Nodes, None, NotDir, NotEmpty, NotFound, Ok, Option, Path, Reached, Replied, Reply, Result, Some, [], ap, chmod, count_in, dir_of, done, false, find_named, in_directory, is_above, is_directory, is_root, is_some, listed_in, make, name_of, new_node, node_at, not, of_node, ok_or, on_file, reached, refl, refused, rename, rmdir, sym, true, unlink, walk_into, with_node, ℕ}
use Rattle.std.proofs.Common.{◌==◌, nat_lt}
use Rattle.trio_nodes.specs.declared.call.Answer.TheVariants.{Done}
use Rattle.trio_onetree.specs.inner.Gives.{with_its_node, node_reached, file_in, named_in, entry_of}
use Rattle.trio_onetree.proofs.Setting.{with_mode, with_place}

-- ---- answers

abbrev pub Refuses : Applied → Nodes → Reply → Type 0
Refuses a nodes reply = (a.reply ≡ reply) × (nodes ≡ a.nodes)

abbrev pub Does : Applied → Nodes → Answer → Type 0
Does a nodes answer = (a.reply ≡ Replied answer) × (nodes ≡ a.nodes)

pub refuses : (a : Applied) (nodes : Nodes) (reply : Reply) → a ≡ refused nodes reply → Refuses a nodes reply
refuses a nodes reply e = (ap (λ (b : Applied). b.reply) e, sym (ap (λ (b : Applied). b.nodes) e))

pub does : (a : Applied) (nodes new : Nodes) (answer : Answer) → a ≡ done new answer → nodes ≡ new → Does a nodes answer
does a nodes new answer e same = (ap (λ (b : Applied). b.reply) e, same ∙ sym (ap (λ (b : Applied). b.nodes) e))

-- ---- the file of a path in its directory

module _ (nodes : Nodes) (f : ℕ → Node → Applied) where
  of_its_node : (n : ℕ) (o : Option Node) → of_node nodes o (f n) ≡ on_file nodes (with_its_node n o) f
  of_its_node n None = refl
  of_its_node n (Some x) = refl

  pub of_reached : (r : Result ℕ Reply) → reached nodes r (λ n. of_node nodes (node_at nodes n) (f n)) ≡ on_file nodes (node_reached nodes r) f
  of_reached (Err reply) = refl
  of_reached (Ok n) = of_its_node n (node_at nodes n)

  of_named : (name : List ℕ) (r : Result ℕ Reply)
      → reached nodes r (λ dir. reached nodes (ok_or (find_named nodes dir name) NotFound) (λ n. of_node nodes (node_at nodes n) (f n))) ≡ on_file nodes (named_in nodes name r) f
  of_named name (Err reply) = refl
  of_named name (Ok dir) = of_reached (ok_or (find_named nodes dir name) NotFound)

  pub entered : (creds : Creds) (ws : List Path) (path : Path)
      → in_directory nodes creds ws path (λ dir. listed_in nodes dir path f) ≡ on_file nodes (entry_of nodes creds ws (dir_of path) (name_of path)) f
  entered creds ws path = of_named (name_of path) (walk_into nodes creds ws (dir_of path))

-- ---- the calls

module _ (nodes : Nodes) (creds : Creds) (path d : Path) (m : List ℕ) (root : is_root path ≡ false) (di : d ≡ dir_of path) (na : m ≡ name_of path) where
  walked : (ws : List Path) (r : Result ℕ Reply) (parent : ℕ) → r ≡ walk_into nodes creds ws d → r ≡ Ok parent → walk_into nodes creds ws (dir_of path) ≡ Ok parent
  walked ws r parent w was = ap (λ (p : Path). walk_into nodes creds ws p) (sym di) ∙ sym w ∙ was

  walked_one : (r : Result ℕ Reply) (parent : ℕ) → r ≡ walk_into nodes creds (d ∷ []) d → r ≡ Ok parent → walk_into nodes creds (dir_of path ∷ []) (dir_of path) ≡ Ok parent
  walked_one r parent w was = ap (λ (p : Path). walk_into nodes creds (p ∷ []) p) (sym di) ∙ sym w ∙ was

  found_there : (parent : ℕ) (o : Option ℕ) (b t : Bool) → o ≡ find_named nodes parent m → b ≡ is_some o → b ≡ t → is_some (find_named nodes parent (name_of path)) ≡ t
  found_there parent o b t f s is = ap (λ (n : List ℕ). is_some (find_named nodes parent n)) (sym na) ∙ ap (λ (p : Option ℕ). is_some p) (sym f) ∙ sym s ∙ is

  module _ (kind : Kind) (mode : Mode) (bytes : List ℕ) (made : ℕ) (r : Result ℕ Reply) (parent : ℕ) (w : r ≡ walk_into nodes creds (d ∷ []) d) (was : r ≡ Ok parent) (o : Option ℕ) (b : Bool) (f : o ≡ find_named nodes parent m) (s : b ≡ is_some o) where
    make_there : b ≡ true → make nodes creds kind path mode bytes made ≡ refused nodes Exists
    make_there is = rw (root, walked_one r parent w was, found_there parent o b true f s is) refl

    make_new : b ≡ false → make nodes creds kind path mode bytes made ≡ done (with_node nodes made (Some (new_node creds kind parent path mode bytes))) Done
    make_new is = rw (root, walked_one r parent w was, found_there parent o b false f s is) refl

    pub make_refuses : b ≡ true → Refuses (make nodes creds kind path mode bytes made) nodes Exists
    make_refuses is = refuses _ nodes Exists (make_there is)

    -- what is made has these bytes, by another name
    abbrev put : List ℕ → List ℕ → Nodes
    put name copy = with_node nodes made (Some (record { parent = parent; name = name; kind = kind; mode = mode; uid = creds.uid; gid = creds.gid; guard = false; bytes = copy }))

    pub make_does : (new : Nodes) (copy : List ℕ) → b ≡ false → copy ≡ bytes → new ≡ put m copy → Does (make nodes creds kind path mode bytes made) new Done
    make_does new copy is same e = does _ new _ Done (make_new is) (e ∙ ap (put m) same ∙ ap (λ (n : List ℕ). put n bytes) na)

  entry_one : (r : Reached) → entry_of nodes creds (d ∷ []) d m ≡ r → entry_of nodes creds (dir_of path ∷ []) (dir_of path) (name_of path) ≡ r
  entry_one r e = ap (λ (p : Path). entry_of nodes creds (p ∷ []) p (name_of path)) (sym di) ∙ ap (λ (n : List ℕ). entry_of nodes creds (d ∷ []) d n) (sym na) ∙ e

  entry_none : (r : Reached) → entry_of nodes creds [] d m ≡ r → entry_of nodes creds [] (dir_of path) (name_of path) ≡ r
  entry_none r e = ap (λ (p : Path). entry_of nodes creds [] p (name_of path)) (sym di) ∙ ap (λ (n : List ℕ). entry_of nodes creds [] d n) (sym na) ∙ e

  -- unlink

  abbrev unlink_file : ℕ → Node → Applied
  unlink_file n x = if is_directory x.kind then refused nodes IsDir else done (with_node nodes n None) Done

  unlink_is : (r : Reached) → entry_of nodes creds (d ∷ []) d m ≡ r → unlink nodes creds path ≡ on_file nodes r unlink_file
  unlink_is r e = rw root (entered nodes unlink_file creds (dir_of path ∷ []) path ∙ ap (λ (z : Reached). on_file nodes z unlink_file) (entry_one r e))

  pub unlink_stops : (reply : Reply) → entry_of nodes creds (d ∷ []) d m ≡ Err reply → Refuses (unlink nodes creds path) nodes reply
  unlink_stops reply e = refuses _ nodes reply (unlink_is (Err reply) e)

  pub unlink_refuses : (n : ℕ) (x : Node) → entry_of nodes creds (d ∷ []) d m ≡ Ok (n, x) → is_directory x.kind ≡ true → Refuses (unlink nodes creds path) nodes IsDir
  unlink_refuses n x e is = refuses _ nodes IsDir (unlink_is (Ok (n, x)) e ∙ rw is refl)

  pub unlink_does : (n : ℕ) (x : Node) (new : Nodes) → entry_of nodes creds (d ∷ []) d m ≡ Ok (n, x) → is_directory x.kind ≡ false → new ≡ with_node nodes n None → Does (unlink nodes creds path) new Done
  unlink_does n x new e is same = does _ new _ Done (unlink_is (Ok (n, x)) e ∙ rw is refl) same

  -- rmdir

  abbrev rmdir_file : ℕ → Node → Applied
  rmdir_file n x =
      if not (is_directory x.kind) then refused nodes NotDir else
      (if nat_lt 0 (count_in nodes n) then refused nodes NotEmpty else
      done (with_node nodes n None) Done)

  rmdir_is : (r : Reached) → entry_of nodes creds (d ∷ []) d m ≡ r → rmdir nodes creds path ≡ on_file nodes r rmdir_file
  rmdir_is r e = rw root (entered nodes rmdir_file creds (dir_of path ∷ []) path ∙ ap (λ (z : Reached). on_file nodes z rmdir_file) (entry_one r e))

  pub rmdir_stops : (reply : Reply) → entry_of nodes creds (d ∷ []) d m ≡ Err reply → Refuses (rmdir nodes creds path) nodes reply
  rmdir_stops reply e = refuses _ nodes reply (rmdir_is (Err reply) e)

  pub rmdir_refuses : (n : ℕ) (x : Node) → entry_of nodes creds (d ∷ []) d m ≡ Ok (n, x) → is_directory x.kind ≡ false → Refuses (rmdir nodes creds path) nodes NotDir
  rmdir_refuses n x e is = refuses _ nodes NotDir (rmdir_is (Ok (n, x)) e ∙ rw is refl)

  pub rmdir_full : (n : ℕ) (x : Node) → entry_of nodes creds (d ∷ []) d m ≡ Ok (n, x) → is_directory x.kind ≡ true → nat_lt 0 (count_in nodes n) ≡ true → Refuses (rmdir nodes creds path) nodes NotEmpty
  rmdir_full n x e is full = refuses _ nodes NotEmpty (rmdir_is (Ok (n, x)) e ∙ rw (is, full) refl)

  pub rmdir_does : (n : ℕ) (x : Node) (new : Nodes) → entry_of nodes creds (d ∷ []) d m ≡ Ok (n, x) → is_directory x.kind ≡ true → nat_lt 0 (count_in nodes n) ≡ false → new ≡ with_node nodes n None → Does (rmdir nodes creds path) new Done
  rmdir_does n x new e is full same = does _ new _ Done (rmdir_is (Ok (n, x)) e ∙ rw (is, full) refl) same

  -- chmod

  abbrev chmod_file : Mode → ℕ → Node → Applied
  chmod_file mode n x =
      if not (creds.uid == x.uid || creds.uid == 0) then refused nodes Denied else
      done (with_node nodes n (Some (with_mode mode x))) Done

  chmod_is : (mode : Mode) (r : Reached) → entry_of nodes creds [] d m ≡ r → chmod nodes creds path mode ≡ on_file nodes r (chmod_file mode)
  chmod_is mode r e = rw root (entered nodes (chmod_file mode) creds [] path ∙ ap (λ (z : Reached). on_file nodes z (chmod_file mode)) (entry_none r e))

  pub chmod_stops : (mode : Mode) (reply : Reply) → entry_of nodes creds [] d m ≡ Err reply → Refuses (chmod nodes creds path mode) nodes reply
  chmod_stops mode reply e = refuses _ nodes reply (chmod_is mode (Err reply) e)

  pub chmod_refuses : (mode : Mode) (n : ℕ) (x : Node) → entry_of nodes creds [] d m ≡ Ok (n, x) → (creds.uid == x.uid || creds.uid == 0) ≡ false → Refuses (chmod nodes creds path mode) nodes Denied
  chmod_refuses mode n x e is = refuses _ nodes Denied (chmod_is mode (Ok (n, x)) e ∙ rw is refl)

  pub chmod_does : (mode : Mode) (n : ℕ) (x : Node) (new : Nodes) → entry_of nodes creds [] d m ≡ Ok (n, x) → (creds.uid == x.uid || creds.uid == 0) ≡ true → new ≡ with_node nodes n (Some (with_mode mode x)) → Does (chmod nodes creds path mode) new Done
  chmod_does mode n x new e is same = does _ new _ Done (chmod_is mode (Ok (n, x)) e ∙ rw is refl) same

-- rename

module _ (nodes : Nodes) (creds : Creds) (from to d e : Path) (m k : List ℕ) (root : is_root from ≡ false) (di : d ≡ dir_of from) (na : m ≡ name_of from)
    (root' : is_root to ≡ false) (dj : e ≡ dir_of to) (nb : k ≡ name_of to) (b : Bool) (above : b ≡ is_above from to) (not_above : b ≡ false)
    (r s : Result ℕ Reply) (parent new_parent : ℕ) (w : r ≡ walk_into nodes creds (d ∷ e ∷ []) d) (was : r ≡ Ok parent) (v : s ≡ walk_into nodes creds (d ∷ e ∷ []) e) (vas : s ≡ Ok new_parent) where
  one_walked : walk_into nodes creds (dir_of from ∷ dir_of to ∷ []) (dir_of from) ≡ Ok parent
  one_walked = ap (λ (p : Path). walk_into nodes creds (p ∷ dir_of to ∷ []) p) (sym di) ∙ ap (λ (p : Path). walk_into nodes creds (d ∷ p ∷ []) d) (sym dj) ∙ sym w ∙ was

  two_walked : walk_into nodes creds (dir_of from ∷ dir_of to ∷ []) (dir_of to) ≡ Ok new_parent
  two_walked = ap (λ (p : Path). walk_into nodes creds (p ∷ dir_of to ∷ []) (dir_of to)) (sym di) ∙ ap (λ (p : Path). walk_into nodes creds (d ∷ p ∷ []) p) (sym dj) ∙ sym v ∙ vas

  abbrev rename_file : ℕ → Node → Applied
  rename_file n x =
      if is_some (find_named nodes new_parent (name_of to)) then refused nodes Exists else
      done (with_node nodes n (Some (with_place new_parent (name_of to) x))) Done

  rename_is : (q : Reached) → file_in nodes parent m ≡ q → rename nodes creds from to ≡ on_file nodes q rename_file
  rename_is q f =
      rw (root, root', sym above ∙ not_above, one_walked, two_walked)
      (of_reached nodes rename_file (ok_or (find_named nodes parent (name_of from)) NotFound)
      ∙ ap (λ (n : List ℕ). on_file nodes (file_in nodes parent n) rename_file) (sym na) ∙ ap (λ (z : Reached). on_file nodes z rename_file) f)

  pub rename_stops : (reply : Reply) → file_in nodes parent m ≡ Err reply → Refuses (rename nodes creds from to) nodes reply
  rename_stops reply f = refuses _ nodes reply (rename_is (Err reply) f)

  module _ (n : ℕ) (x : Node) (f : file_in nodes parent m ≡ Ok (n, x)) (o : Option ℕ) (t : Bool) (g : o ≡ find_named nodes new_parent k) (h : t ≡ is_some o) where
    there : (u : Bool) → t ≡ u → is_some (find_named nodes new_parent (name_of to)) ≡ u
    there u is = ap (λ (l : List ℕ). is_some (find_named nodes new_parent l)) (sym nb) ∙ ap (λ (p : Option ℕ). is_some p) (sym g) ∙ sym h ∙ is

    pub rename_refuses : t ≡ true → Refuses (rename nodes creds from to) nodes Exists
    rename_refuses is = refuses _ nodes Exists (rename_is (Ok (n, x)) f ∙ rw (there true is) refl)

    pub rename_does : (new : Nodes) → t ≡ false → new ≡ with_node nodes n (Some (with_place new_parent k x)) → Does (rename nodes creds from to) new Done
    rename_does new is same =
        does _ new _ Done (rename_is (Ok (n, x)) f ∙ rw (there false is) refl) (same ∙ ap (λ (l : List ℕ). with_node nodes n (Some (with_place new_parent l x))) nb)

ok_same : (p q : ℕ × Node) → (let ok : ℕ × Node → Reached = λ z. Ok z in ok p ≡ ok q) → p ≡ q
ok_same p q e = cc

-- a file that was reached has its node
pub named_node : (nodes : Nodes) (dir : ℕ) (m : List ℕ) (n : ℕ) (x : Node) → file_in nodes dir m ≡ Ok (n, x) → node_at nodes n ≡ Some x
named_node nodes dir m n x e = by_name (ok_or (find_named nodes dir m) NotFound) e
  where
    by_node : (k : ℕ) (o : Option Node) → node_at nodes k ≡ o → with_its_node k o ≡ Ok (n, x) → node_at nodes n ≡ Some x
    by_node k None is e = absurd cc
    by_node k (Some y) is e = let first : ℕ × Node → ℕ = λ p. p.0 in let second : ℕ × Node → Node = λ p. p.1 in let pair : (k, y) ≡ (n, x) = ok_same (k, y) (n, x) e in ap (λ (i : ℕ). node_at nodes i) (sym (ap first pair)) ∙ is ∙ ap (λ (z : Node). Some z) (ap second pair)

    by_name : (r : Result ℕ Reply) → node_reached nodes r ≡ Ok (n, x) → node_at nodes n ≡ Some x
    by_name (Err reply) e = absurd cc
    by_name (Ok k) e = by_node k (node_at nodes k) refl e

pub reached_node : (nodes : Nodes) (creds : Creds) (ws : List Path) (d : Path) (m : List ℕ) (n : ℕ) (x : Node) → entry_of nodes creds ws d m ≡ Ok (n, x) → node_at nodes n ≡ Some x
reached_node nodes creds ws d m n x e = by_walk (walk_into nodes creds ws d) e
  where
    by_walk : (r : Result ℕ Reply) → named_in nodes m r ≡ Ok (n, x) → node_at nodes n ≡ Some x
    by_walk (Err reply) e = absurd cc
    by_walk (Ok dir) e = named_node nodes dir m n x e
