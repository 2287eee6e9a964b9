-- A tree stays a tree through each call.
use Rattle.trio_onetree.proofs.Words.{◌++◌, ◌+◌, ◌||◌, ◌∙◌, ◌∷◌, ◌≡◌, Applied, AreNames, Bool, Bytes, Call, Chmod, Count, Create, Creds, Denied, Directory, Exists, IntoItself, IsDir, IsDirectory, IsDone, IsStat, IsTree, Kind, List, ListNames, MadeFits, MatchBool, Mkdir, Mode, Node, Nodes, None, NotDir, NotEmpty, Path, Read, Regular, Rename, Reply, Rmdir, Some, Stat, ToRead, ToWrite, TooLarge, Truncate, Unlink, Write, [], ap, append_assoc, applied, arith, both_ways, bytes_eq-Decides, call_nodes, chmod, cond, count_in, dir_of, done, drop, eqb, false, find_named, found_from, in_directory, inl, inr, is_above, is_directory, is_done, is_root, is_some, lacks, largest_size, length, list, listed_in, ltb, make, name_of, names_in, new_node, node_at, not, put_at, read, refl, refused, rename, resized, rmdir, size_of, stat, subst, sym, take, true, truncate, unlink, with_node, write, ℕ, IsLink, NotLink, Link, Symlink, Readlink, Guard, guard, is_link, link_mode, readlink, is_directory-false}
use Rattle.std.proofs.lemmas.Bool.{ltb-false}
use Rattle.trio_onetree.specs.CallLaws.{TreeStays, TreeStaysThrough}
use Rattle.trio_onetree.proofs.Children.{Child, one_node, find_named-Child, Child-is_some, child-counts, found-more, found-one, one_path, found_live}
use Rattle.trio_onetree.proofs.TreePut.{Fits, tree_put, tree_same, tree_without}
use Rattle.trio_onetree.proofs.CallCases.{Entered, dir_and_name, on_if, on_file_at, on_directory, on_listed}

-- a path is above one that goes on from it
above_more : (ps rest : Path) (name : List ℕ) → is_above ps (ps ++ (rest ++ name ∷ [])) ≡ true
above_more [] [] name = refl
above_more [] (r ∷ rest) name = refl
above_more (p ∷ ps) rest name = ap (λ b. cond b (is_above ps (ps ++ (rest ++ name ∷ []))) false) ((bytes_eq-Decides p p).1 refl) ∙ above_more ps rest name

module _ (nodes : Nodes) (creds : Creds) (tree : IsTree nodes) where
  -- what a directory lists is no root, and a number with a node isn't 0
  unrooted : (dir n : ℕ) (name : List ℕ) (d : Node) → node_at nodes dir ≡ Some d → Child nodes dir name n → n ≡ 1 → ⊥
  unrooted dir n name d at c one =
      let same : c.node ≡ tree.root.0 = one_node (node_at nodes 1) c.node tree.root.0 (ap (node_at nodes) (sym one) ∙ c.at) tree.root.1 in
      let zero : dir ≡ 0 = sym c.parent ∙ ap (λ (x : Node). x.parent) same ∙ tree.root.3 in
      let wrong : None ≡ Some d = sym tree.none ∙ ap (node_at nodes) (sym zero) ∙ at in absurd (cc wrong)

  not_low : (n : ℕ) (x : Node) → node_at nodes n ≡ Some x → n ≡ 0 → ⊥
  not_low n x at zero = (let wrong : None ≡ Some x = sym tree.none ∙ ap (node_at nodes) (sym zero) ∙ at in absurd (cc wrong))

  not_root : (n : ℕ) (x : Node) → node_at nodes n ≡ Some x → is_directory x.kind ≡ false → n ≡ 1 → ⊥
  not_root n x at file one =
      let same : x ≡ tree.root.0 = one_node (node_at nodes 1) x tree.root.0 (ap (node_at nodes) (sym one) ∙ at) tree.root.1 in
      is_directory-false x.kind file (ap (λ (z : Node). z.kind) same ∙ tree.root.2)

  -- what is no directory has no entries
  file_leaf : (n : ℕ) (x : Node) → node_at nodes n ≡ Some x → is_directory x.kind ≡ false → (m : ℕ) (z : Node) → node_at nodes m ≡ Some z → z.parent ≡ n → ⊥
  file_leaf n x at file m z there parent =
      is_directory-false x.kind file (subst IsDirectory (ap (node_at nodes) parent ∙ at) (tree.parents m z there listed))
    where
      listed : m ≡ 1 → ⊥
      listed one =
          let same : z ≡ tree.root.0 = one_node (node_at nodes 1) z tree.root.0 (ap (node_at nodes) (sym one) ∙ there) tree.root.1 in
          not_low n x at (sym parent ∙ ap (λ (y : Node). y.parent) same ∙ tree.root.3)

  -- nor has a directory that counts none
  empty_leaf : (n : ℕ) → ltb 0 (count_in nodes n) ≡ false → (m : ℕ) (z : Node) → node_at nodes m ≡ Some z → z.parent ≡ n → ⊥
  empty_leaf n none m z there parent =
      let a = child-counts nodes n m z there parent in
      let b = ltb-false 0 (count_in nodes n) none in omega (arith, a, b)

  -- ---- what makes a file

  abbrev Made : ℕ → Type 0
  Made made = (node_at nodes made ≡ None) × (made ≡ 0 → ⊥)

  abbrev Makes : ℕ → Applied → Type 0
  Makes made a = (is_done a.reply ≡ true → Made made) → IsTree a.nodes

  made_fits : (kind : Kind) (path : Path) (mode : Mode) (bytes : List ℕ) (made dir : ℕ) (writes : List Path) → Entered nodes creds writes (dir_of path) dir → is_some (find_named nodes dir (name_of path)) ≡ false → Made made → Fits nodes made (new_node creds kind dir path mode bytes)
  made_fits kind path mode bytes made dir writes d free new = record {
    low = new.1;
    root = λ one. (let wrong : None ≡ Some tree.root.0 = sym new.0 ∙ ap (node_at nodes) one ∙ tree.root.1 in absurd (cc wrong));
    dir = subst IsDirectory (sym d.at) d.is;
    path = dir_of path;
    leads = d.leads;
    around = λ front rest whole e. (let x = found_live nodes tree front made e in let wrong : None ≡ Some x.0 = sym new.0 ∙ x.1 in absurd (cc wrong));
    kind = λ x at. (let wrong : None ≡ Some x = sym new.0 ∙ at in absurd (cc wrong));
    alone = λ m z differ there p q. both_ways (is_some (find_named nodes dir (name_of path))) free (Child-is_some nodes dir (name_of path) m (record { node = z; at = there; parent = p; name = q }));
  }

  make_stays : (kind : Kind) (path : Path) (mode : Mode) (bytes : List ℕ) (made : ℕ) → Makes made (make nodes creds kind path mode bytes made)
  make_stays kind path mode bytes made =
      let M : Applied → Type 0 = Makes made in
      let stops : (reply : Reply) → is_done reply ≡ false → M (refused nodes reply) = λ reply undone f. tree in
      let new : ℕ → Applied = λ dir. cond (is_some (find_named nodes dir (name_of path))) (refused nodes Exists) (done (with_node nodes made (Some (new_node creds kind dir path mode bytes))) IsDone) in
      on_if nodes creds M stops (is_root path) (refused nodes Exists) (in_directory nodes creds (dir_of path ∷ []) path new) (λ is f. tree)
      (λ isn't. on_directory nodes creds M stops (dir_of path ∷ []) path new
      (λ dir d. on_if nodes creds M stops (is_some (find_named nodes dir (name_of path))) (refused nodes Exists) (done (with_node nodes made (Some (new_node creds kind dir path mode bytes))) IsDone) (λ is f. tree)
      (λ free f. tree_put nodes tree made (new_node creds kind dir path mode bytes) (made_fits kind path mode bytes made dir (dir_of path ∷ []) d free (f refl)))))

  -- ---- what changes a file, or none

  abbrev T : Applied → Type 0
  T a = IsTree a.nodes

  stops : (reply : Reply) → is_done reply ≡ false → T (refused nodes reply)
  stops reply undone = tree

  same : (b : Bool) (reply : Reply) (c : Applied) → (b ≡ false → T c) → T (cond b (refused nodes reply) c)
  same b reply c else' = on_if nodes creds T stops b (refused nodes reply) c (λ is. tree) else'

  -- what is done to a file that has places: it is neither a directory nor a link
  abbrev to_regular : Node → Applied → Applied
  to_regular x a = cond (is_directory x.kind) (refused nodes IsDir) (cond (is_link x.kind) (refused nodes IsLink) a)

  on_regular : (x : Node) (a : Applied) → (is_directory x.kind ≡ false → T a) → T (to_regular x a)
  on_regular x a goes =
      same (is_directory x.kind) IsDir (cond (is_link x.kind) (refused nodes IsLink) a) (λ file. same (is_link x.kind) IsLink a (λ regular. goes file))

  write_stays : (path : Path) (at : ℕ) (bytes : List ℕ) → T (write nodes creds path at bytes)
  write_stays path at bytes =
      let new : ℕ → Node → Applied = λ n x. done (with_node nodes n (Some (record x { bytes = put_at at bytes x.bytes }))) (Count (length bytes)) in
      let may : ℕ → Node → Applied = λ n x. cond (lacks creds ToWrite x) (refused nodes Denied) (cond (ltb largest_size (at + length bytes)) (refused nodes TooLarge) (new n x)) in
      on_file_at nodes creds T stops path (λ n x. to_regular x (may n x)) (λ n x w there.
      on_regular x (may n x) (λ file.
      same (lacks creds ToWrite x) Denied (cond (ltb largest_size (at + length bytes)) (refused nodes TooLarge) (new n x)) (λ may.
      same (ltb largest_size (at + length bytes)) TooLarge (new n x) (λ fits.
      tree_same nodes tree n x (record x { bytes = put_at at bytes x.bytes }) there (not_root n x there file) refl refl refl))))

  truncate_stays : (path : Path) (size : ℕ) → T (truncate nodes creds path size)
  truncate_stays path size =
      let new : ℕ → Node → Applied = λ n x. done (with_node nodes n (Some (record x { bytes = resized size x.bytes }))) IsDone in
      let may : ℕ → Node → Applied = λ n x. cond (lacks creds ToWrite x) (refused nodes Denied) (cond (ltb largest_size size) (refused nodes TooLarge) (new n x)) in
      on_file_at nodes creds T stops path (λ n x. to_regular x (may n x)) (λ n x w there.
      on_regular x (may n x) (λ file.
      same (lacks creds ToWrite x) Denied (cond (ltb largest_size size) (refused nodes TooLarge) (new n x)) (λ may.
      same (ltb largest_size size) TooLarge (new n x) (λ fits.
      tree_same nodes tree n x (record x { bytes = resized size x.bytes }) there (not_root n x there file) refl refl refl))))

  guard_stays : (path : Path) (on : Bool) → T (guard nodes creds path on)
  guard_stays path on =
      let new : ℕ → Node → Applied = λ n x. done (with_node nodes n (Some (record x { guard = on }))) IsDone in
      let may : ℕ → Node → Applied = λ n x. cond (lacks creds ToWrite x) (refused nodes Denied) (new n x) in
      on_file_at nodes creds T stops path (λ n x. to_regular x (may n x)) (λ n x w there.
      on_regular x (may n x) (λ file.
      same (lacks creds ToWrite x) Denied (new n x) (λ may.
      tree_same nodes tree n x (record x { guard = on }) there (not_root n x there file) refl refl refl)))

  unlink_stays : (path : Path) → T (unlink nodes creds path)
  unlink_stays path =
      let new : ℕ → Node → Applied = λ n x. cond (is_directory x.kind) (refused nodes IsDir) (done (with_node nodes n None) IsDone) in
      same (is_root path) IsDir (in_directory nodes creds (dir_of path ∷ []) path (λ dir. listed_in nodes dir path new)) (λ isn't.
      on_directory nodes creds T stops (dir_of path ∷ []) path (λ dir. listed_in nodes dir path new) (λ dir d.
      on_listed nodes creds T stops dir path new (λ n x f there.
      same (is_directory x.kind) IsDir (done (with_node nodes n None) IsDone) (λ file.
      tree_without nodes tree n (not_root n x there file) (file_leaf n x there file)))))

  rmdir_stays : (path : Path) → T (rmdir nodes creds path)
  rmdir_stays path =
      let new : ℕ → Node → Applied = λ n x. cond (not (is_directory x.kind)) (refused nodes NotDir) (cond (ltb 0 (count_in nodes n)) (refused nodes NotEmpty) (done (with_node nodes n None) IsDone)) in
      same (is_root path) Denied (in_directory nodes creds (dir_of path ∷ []) path (λ dir. listed_in nodes dir path new)) (λ isn't.
      on_directory nodes creds T stops (dir_of path ∷ []) path (λ dir. listed_in nodes dir path new) (λ dir d.
      on_listed nodes creds T stops dir path new (λ n x f there.
      same (not (is_directory x.kind)) NotDir (cond (ltb 0 (count_in nodes n)) (refused nodes NotEmpty) (done (with_node nodes n None) IsDone)) (λ is.
      same (ltb 0 (count_in nodes n)) NotEmpty (done (with_node nodes n None) IsDone) (λ none.
      tree_without nodes tree n (unrooted dir n (name_of path) d.node d.at (find_named-Child nodes dir (name_of path) n f)) (empty_leaf n none))))))

  chmod_stays : (path : Path) (mode : Mode) → T (chmod nodes creds path mode)
  chmod_stays path mode =
      let new : ℕ → Node → Applied = λ n x. cond (not (eqb creds.uid x.uid || eqb creds.uid 0)) (refused nodes Denied) (done (with_node nodes n (Some (record x { mode = mode }))) IsDone) in
      same (is_root path) Denied (in_directory nodes creds [] path (λ dir. listed_in nodes dir path new)) (λ isn't.
      on_directory nodes creds T stops [] path (λ dir. listed_in nodes dir path new) (λ dir d.
      on_listed nodes creds T stops dir path new (λ n x f there.
      same (not (eqb creds.uid x.uid || eqb creds.uid 0)) Denied (done (with_node nodes n (Some (record x { mode = mode }))) IsDone) (λ may.
      tree_same nodes tree n x (record x { mode = mode }) there (unrooted dir n (name_of path) d.node d.at (find_named-Child nodes dir (name_of path) n f)) refl refl refl))))

  -- a file that moves isn't above the directory to which it moves
  moved_fits : (from to : Path) (writes : List Path) (dir new_dir n : ℕ) (x : Node) → is_root from ≡ false → is_root to ≡ false → is_above from to ≡ false
      → Entered nodes creds writes (dir_of from) dir → Entered nodes creds writes (dir_of to) new_dir → find_named nodes dir (name_of from) ≡ Some n → node_at nodes n ≡ Some x
      → is_some (find_named nodes new_dir (name_of to)) ≡ false → Fits nodes n (record x { parent = new_dir; name = name_of to })
  moved_fits from to writes dir new_dir n x from_named to_named apart d e f there free = record {
    low = not_low n x there;
    root = unrooted dir n (name_of from) d.node d.at (find_named-Child nodes dir (name_of from) n f);
    dir = subst IsDirectory (sym e.at) e.is;
    path = dir_of to;
    leads = e.leads;
    around = λ front rest whole leads.
        let own : found_from nodes 1 from ≡ Some n = ap (found_from nodes 1) (sym (dir_and_name from from_named)) ∙ found-more nodes 1 dir n (dir_of from) (name_of from ∷ []) d.leads (found-one nodes dir n (name_of from) f) in
        let same : front ≡ from = one_path nodes tree n front from leads own in
        let long : to ≡ from ++ (rest ++ name_of to ∷ []) = sym (dir_and_name to to_named) ∙ ap (λ l. l ++ name_of to ∷ []) (whole ∙ ap (λ l. l ++ rest) same) ∙ append_assoc from rest (name_of to ∷ []) in
        both_ways (is_above from to) apart (ap (is_above from) long ∙ above_more from rest (name_of to));
    kind = λ z at. ap (λ (q : Node). q.kind) (one_node (node_at nodes n) x z there at);
    alone = λ m z differ at p q. both_ways (is_some (find_named nodes new_dir (name_of to))) free (Child-is_some nodes new_dir (name_of to) m (record { node = z; at = at; parent = p; name = q }));
  }

  rename_stays : (from to : Path) → T (rename nodes creds from to)
  rename_stays from to =
      let writes : List Path = dir_of from ∷ dir_of to ∷ [] in
      let end : ℕ → ℕ → Node → Applied = λ new_dir n x. done (with_node nodes n (Some (record x { parent = new_dir; name = name_of to }))) IsDone in
      let new : ℕ → ℕ → Node → Applied = λ new_dir n x. cond (is_some (find_named nodes new_dir (name_of to))) (refused nodes Exists) (end new_dir n x) in
      let into : ℕ → ℕ → Applied = λ dir new_dir. listed_in nodes dir from (new new_dir) in
      let out : ℕ → Applied = λ dir. in_directory nodes creds writes to (into dir) in
      same (is_root from) Denied (cond (is_root to) (refused nodes Exists) (cond (is_above from to) (refused nodes IntoItself) (in_directory nodes creds writes from out))) (λ from_named.
      same (is_root to) Exists (cond (is_above from to) (refused nodes IntoItself) (in_directory nodes creds writes from out)) (λ to_named.
      same (is_above from to) IntoItself (in_directory nodes creds writes from out) (λ apart.
      on_directory nodes creds T stops writes from out (λ dir d.
      on_directory nodes creds T stops writes to (into dir) (λ new_dir e.
      on_listed nodes creds T stops dir from (new new_dir) (λ n x f there.
      same (is_some (find_named nodes new_dir (name_of to))) Exists (end new_dir n x) (λ free.
      tree_put nodes tree n (record x { parent = new_dir; name = name_of to }) (moved_fits from to writes dir new_dir n x from_named to_named apart d e f there free))))))))

  read_stays : (path : Path) (at len : ℕ) → T (read nodes creds path at len)
  read_stays path at len =
      let new : ℕ → Node → Applied = λ n x. done nodes (Bytes (take len (drop at x.bytes))) in
      let may : ℕ → Node → Applied = λ n x. cond (lacks creds ToRead x) (refused nodes Denied) (new n x) in
      on_file_at nodes creds T stops path (λ n x. to_regular x (may n x))
      (λ n x w there. on_regular x (may n x) (λ file. same (lacks creds ToRead x) Denied (new n x) (λ may. tree)))

  readlink_stays : (path : Path) → T (readlink nodes creds path)
  readlink_stays path =
      let new : ℕ → Node → Applied = λ n x. done nodes (Bytes x.bytes) in
      on_file_at nodes creds T stops path (λ n x. cond (not (is_link x.kind)) (refused nodes NotLink) (cond (lacks creds ToRead x) (refused nodes Denied) (new n x)))
      (λ n x w there. same (not (is_link x.kind)) NotLink (cond (lacks creds ToRead x) (refused nodes Denied) (new n x)) (λ is. same (lacks creds ToRead x) Denied (new n x) (λ may. tree)))

  list_stays : (path : Path) (from : ℕ) → T (list nodes creds path from)
  list_stays path from =
      let new : ℕ → Node → Applied = λ n x. done nodes (AreNames (count_in nodes n) (take 64 (drop from (names_in nodes n)))) in
      on_file_at nodes creds T stops path (λ n x. cond (not (is_directory x.kind)) (refused nodes NotDir) (cond (lacks creds ToRead x) (refused nodes Denied) (new n x)))
      (λ n x w there. same (not (is_directory x.kind)) NotDir (cond (lacks creds ToRead x) (refused nodes Denied) (new n x)) (λ is. same (lacks creds ToRead x) Denied (new n x) (λ may. tree)))

  stat_stays : (path : Path) → T (stat nodes creds path)
  stat_stays path =
      let new : ℕ → Node → Applied = λ n x. done nodes (IsStat x.kind x.mode x.uid x.gid (size_of nodes n x)) in
      on_file_at nodes creds T stops path (λ n x. cond (lacks creds ToRead x) (refused nodes Denied) (new n x))
      (λ n x w there. same (lacks creds ToRead x) Denied (new n x) (λ may. tree))

  -- ---- any call

  new_number : (call : Call) (made : ℕ) (reply : Reply) → MatchBool (is_done reply) ((node_at nodes made ≡ None) × (made ≡ 0 → ⊥)) (made ≡ 0) → reply ≡ (applied nodes creds call made).reply → is_done (applied nodes creds call made).reply ≡ true → Made made
  new_number call made reply fits e done = subst (λ b. MatchBool b (Made made) (made ≡ 0)) (ap is_done e ∙ done) fits

  call_stays : (call : Call) (made : ℕ) (reply : Reply) → reply ≡ (applied nodes creds call made).reply → MadeFits nodes (record { call = call; reply = reply; made = made }) → T (applied nodes creds call made)
  call_stays (Mkdir path mode) made reply e fits = make_stays Directory path mode [] made (new_number (Mkdir path mode) made reply fits e)
  call_stays (Create path mode) made reply e fits = make_stays Regular path mode [] made (new_number (Create path mode) made reply fits e)
  call_stays (Write path at bytes) made reply e fits = write_stays path at bytes
  call_stays (Read path at len) made reply e fits = read_stays path at len
  call_stays (Truncate path size) made reply e fits = truncate_stays path size
  call_stays (Unlink path) made reply e fits = unlink_stays path
  call_stays (Rmdir path) made reply e fits = rmdir_stays path
  call_stays (Rename from to) made reply e fits = rename_stays from to
  call_stays (ListNames path from) made reply e fits = list_stays path from
  call_stays (Stat path) made reply e fits = stat_stays path
  call_stays (Chmod path mode) made reply e fits = chmod_stays path mode
  call_stays (Symlink path text) made reply e fits = make_stays Link path link_mode text made (new_number (Symlink path text) made reply fits e)
  call_stays (Readlink path) made reply e fits = readlink_stays path
  call_stays (Guard path on) made reply e fits = guard_stays path on

pub tree_stays : TreeStays
tree_stays nodes creds d nodes' tree (inl a) fits = subst IsTree (sym a.1) (call_stays nodes creds tree d.call d.made d.reply a.0 fits)
tree_stays nodes creds d nodes' tree (inr a) fits = subst IsTree (sym a.2) tree

pub tree_stays_through : TreeStaysThrough
tree_stays_through nodes creds [] tree legal = tree
tree_stays_through nodes creds (d ∷ ds) tree legal =
    tree_stays_through (call_nodes creds nodes d) creds ds (tree_stays nodes creds d (call_nodes creds nodes d) tree legal.0 legal.1) legal.2
