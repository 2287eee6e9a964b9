-- The ways that a call can go, and what a walk that comes to its end has found.
use Rattle.trio_onetree.proofs.Words.{◌++◌, ◌∙◌, ◌∷◌, ◌≡◌, Applied, Bool, Creds, Denied, Directory, Err, IsDirectory, Kind, List, Need, Node, Nodes, None, NotDir, NotFound, Ok, Option, Path, Reply, Result, Some, [], ap, arith, cond, dir_of, enter, false, false≢true, find_named, found_from, in_directory, is_directory, is_directory-true, is_done, is_root, is_some, lacks, length, listed_in, name_of, need_at, node_at, not, of_node, ok_or, path_found, reached, refl, refused, suc, sym, take, then_found, true, walk, walk_from, walk_into, zero, ℕ}
use Rattle.std.proofs.Common.{◌-◌}
use Rattle.std.specs.Prelude.{slice_index_or}
use Rattle.trio_nodes.specs.Walk.{enter_node, and_then}
use Rattle.trio_nodes.specs.Apply.{at_file}

-- ---- a path with its last name

split_at : (k : ℕ) (path : Path) → length path ≡ suc k → take k path ++ slice_index_or path k [] ∷ [] ≡ path
split_at k [] e = absurd (omega (arith, e))
split_at zero (name ∷ []) e = refl
split_at zero (name ∷ (other ∷ path)) e = absurd (omega (arith, e))
split_at (suc k) (name ∷ path) e = ap (λ l. name ∷ l) (split_at k path (omega (arith, e)))

pub dir_and_name : (path : Path) → is_root path ≡ false → dir_of path ++ name_of path ∷ [] ≡ path
dir_and_name [] e = absurd (false≢true (sym e))
dir_and_name (name ∷ path) e = split_at (length (name ∷ path) - 1) (name ∷ path) (let l : length (name ∷ path) ≡ suc (length path) = refl in omega (arith, l))

-- ---- walks

pub directory_is : (k : Kind) → not (is_directory k) ≡ false → k ≡ Directory
directory_is k e = by (is_directory k) refl e
  where
    by : (b : Bool) → is_directory k ≡ b → not b ≡ false → k ≡ Directory
    by true is f = is_directory-true k is
    by false is f = absurd (false≢true (sym f))

and_then-Ok : (r : Result ℕ Reply) (f : ℕ → Result ℕ Reply) (n : ℕ) → and_then r f ≡ Ok n → (m : ℕ) × (r ≡ Ok m) × (f m ≡ Ok n)
and_then-Ok (Ok m) f n e = (m, refl, e)
and_then-Ok (Err reply) f n e = absurd cc

ok_or-Ok : (o : Option ℕ) (reply : Reply) (n : ℕ) → ok_or o reply ≡ Ok n → o ≡ Some n
ok_or-Ok (Some m) reply n e = (let same : m ≡ n = cc e in ap Some same)
ok_or-Ok None reply n e = absurd cc

entered : (creds : Creds) (need : Need) (n m : ℕ) (x : Node) (a b : Bool) → not (is_directory x.kind) ≡ a → cond a (Err NotDir) (cond b (Err Denied) (Ok n)) ≡ Ok m → (n ≡ m) × (x.kind ≡ Directory)
entered creds need n m x true b is e = absurd cc
entered creds need n m x false true is e = absurd cc
entered creds need n m x false false is e = (cc e, directory_is x.kind is)

enter_node-Ok : (creds : Creds) (need : Need) (n m : ℕ) (o : Option Node) → enter_node creds need n o ≡ Ok m → (n ≡ m) × IsDirectory o
enter_node-Ok creds need n m None e = absurd cc
enter_node-Ok creds need n m (Some x) e = entered creds need n m x (not (is_directory x.kind)) (lacks creds need x) refl e

-- where it is a refusal, it is none that says that the call was done
abbrev pub Undone : Result ℕ Reply → Type 0
Undone r = (reply : Reply) → r ≡ Err reply → is_done reply ≡ false

abbrev refusal : Reply → Result ℕ Reply
refusal reply = Err reply

undone_by : (given reply : Reply) → is_done given ≡ false → refusal given ≡ refusal reply → is_done reply ≡ false
undone_by given reply undone e = (let same : given ≡ reply = cc e in ap is_done (sym same) ∙ undone)

and_then-Undone : (r : Result ℕ Reply) (f : ℕ → Result ℕ Reply) → Undone r → ((m : ℕ) → Undone (f m)) → Undone (and_then r f)
and_then-Undone (Ok m) f first more = more m
and_then-Undone (Err given) f first more = λ reply e. first reply e

pub ok_or-Undone : (o : Option ℕ) → Undone (ok_or o NotFound)
ok_or-Undone (Some n) reply e = absurd cc
ok_or-Undone None reply e = undone_by NotFound reply refl e

entered-Undone : (n : ℕ) (a b : Bool) → Undone (cond a (Err NotDir) (cond b (Err Denied) (Ok n)))
entered-Undone n true b reply e = undone_by NotDir reply refl e
entered-Undone n false true reply e = undone_by Denied reply refl e
entered-Undone n false false reply e = absurd cc

enter_node-Undone : (creds : Creds) (need : Need) (n : ℕ) (o : Option Node) → Undone (enter_node creds need n o)
enter_node-Undone creds need n None reply e = undone_by NotFound reply refl e
enter_node-Undone creds need n (Some x) reply e = entered-Undone n (not (is_directory x.kind)) (lacks creds need x) reply e

module _ (nodes : Nodes) (creds : Creds) (writes : List Path) where
  walk_from-found : (path passed : Path) (at n : ℕ) → walk_from nodes creds writes passed at path ≡ Ok n → found_from nodes at path ≡ Some n
  walk_from-found [] passed at n e = (let same : at ≡ n = cc e in ap Some same)
  walk_from-found (name ∷ path) passed at n e =
      let next : ℕ → Result ℕ Reply = λ dir. and_then (ok_or (find_named nodes dir name) NotFound) (λ child. walk_from nodes creds writes (passed ++ name ∷ []) child path) in
      let a = and_then-Ok (enter nodes creds (need_at writes passed) at) next n e in
      let same = (enter_node-Ok creds (need_at writes passed) at a.0 (node_at nodes at) a.1).0 in
      let b = and_then-Ok (ok_or (find_named nodes a.0 name) NotFound) (λ child. walk_from nodes creds writes (passed ++ name ∷ []) child path) n a.2 in
      let f : find_named nodes at name ≡ Some b.0 = ap (λ d. find_named nodes d name) same ∙ ok_or-Ok (find_named nodes a.0 name) NotFound b.0 b.1 in
      ap (λ o. then_found o (λ child. found_from nodes child path)) f ∙ walk_from-found path (passed ++ name ∷ []) b.0 n b.2

  walk_from-Undone : (path passed : Path) (at : ℕ) → Undone (walk_from nodes creds writes passed at path)
  walk_from-Undone [] passed at reply e = absurd cc
  walk_from-Undone (name ∷ path) passed at reply e =
      and_then-Undone (enter nodes creds (need_at writes passed) at) (λ dir. and_then (ok_or (find_named nodes dir name) NotFound) (λ child. walk_from nodes creds writes (passed ++ name ∷ []) child path))
      (enter_node-Undone creds (need_at writes passed) at (node_at nodes at))
      (λ dir. and_then-Undone (ok_or (find_named nodes dir name) NotFound) (λ child. walk_from nodes creds writes (passed ++ name ∷ []) child path) (ok_or-Undone (find_named nodes dir name)) (λ child. walk_from-Undone path (passed ++ name ∷ []) child))
      reply e

  pub walk_into-Undone : (path : Path) → Undone (walk_into nodes creds writes path)
  walk_into-Undone path =
      and_then-Undone (walk nodes creds writes path) (enter nodes creds (need_at writes path)) (walk_from-Undone path [] 1) (λ m. enter_node-Undone creds (need_at writes path) m (node_at nodes m))

  -- a walk that comes to a live file has found it, and the root was live
  root_live : (path : Path) (n : ℕ) (x : Node) → walk nodes creds writes path ≡ Ok n → node_at nodes n ≡ Some x → is_some (node_at nodes 1) ≡ true
  root_live [] n x e at = (let same : 1 ≡ n = cc e in ap (λ m. is_some (node_at nodes m)) same ∙ ap is_some at)
  root_live (name ∷ path) n x e at =
      let next : ℕ → Result ℕ Reply = λ dir. and_then (ok_or (find_named nodes dir name) NotFound) (λ child. walk_from nodes creds writes ([] ++ name ∷ []) child path) in
      let a = and_then-Ok (enter nodes creds (need_at writes []) 1) next n e in
      there (node_at nodes 1) (enter_node-Ok creds (need_at writes []) 1 a.0 (node_at nodes 1) a.1).1
    where
      there : (o : Option Node) → IsDirectory o → is_some o ≡ true
      there None is = absurd is
      there (Some z) is = refl

  pub walk_found : (path : Path) (n : ℕ) (x : Node) → walk nodes creds writes path ≡ Ok n → node_at nodes n ≡ Some x → path_found nodes path ≡ Some n
  walk_found path n x e at = ap (λ b. cond b (found_from nodes 1 path) None) (root_live path n x e at) ∙ walk_from-found path [] 1 n e

  -- a directory that was entered
  pub record Entered (path : Path) (dir : ℕ) : Type 0 where
    pub node : Node
    pub at : node_at nodes dir ≡ Some node
    pub is : node.kind ≡ Directory
    pub leads : found_from nodes 1 path ≡ Some dir
    pub found : path_found nodes path ≡ Some dir

  pub walk_into-Ok : (path : Path) (dir : ℕ) → walk_into nodes creds writes path ≡ Ok dir → Entered path dir
  walk_into-Ok path dir e =
      let a = and_then-Ok (walk nodes creds writes path) (enter nodes creds (need_at writes path)) dir e in
      let d = enter_node-Ok creds (need_at writes path) a.0 dir (node_at nodes a.0) a.2 in
      let x = live (node_at nodes a.0) d.1 in
      record {
        node = x.0;
        at = ap (node_at nodes) (sym d.0) ∙ x.1;
        is = x.2;
        leads = walk_from-found path [] 1 a.0 a.1 ∙ ap Some d.0;
        found = walk_found path a.0 x.0 a.1 x.1 ∙ ap Some d.0;
      }
    where
      live : (o : Option Node) → IsDirectory o → (z : Node) × (o ≡ Some z) × (z.kind ≡ Directory)
      live None is = absurd is
      live (Some z) is = (z, refl, is)

-- ---- what holds of a call, whichever way it goes

module _ (nodes : Nodes) (creds : Creds) (Q : Applied → Type 0) (none : (reply : Reply) → is_done reply ≡ false → Q (refused nodes reply)) where
  pub on_if : (b : Bool) (a c : Applied) → (b ≡ true → Q a) → (b ≡ false → Q c) → Q (cond b a c)
  on_if true a c goes stops = goes refl
  on_if false a c goes stops = stops refl

  on_reached : (r : Result ℕ Reply) (f : ℕ → Applied) → Undone r → ((n : ℕ) → r ≡ Ok n → Q (f n)) → Q (reached nodes r f)
  on_reached (Ok n) f stops goes = goes n refl
  on_reached (Err reply) f stops goes = none reply (stops reply refl)

  on_node : (o : Option Node) (f : Node → Applied) → ((x : Node) → o ≡ Some x → Q (f x)) → Q (of_node nodes o f)
  on_node None f goes = none NotFound refl
  on_node (Some x) f goes = goes x refl

  pub on_file_at : (path : Path) (f : ℕ → Node → Applied) → ((n : ℕ) (x : Node) → walk nodes creds [] path ≡ Ok n → node_at nodes n ≡ Some x → Q (f n x)) → Q (at_file nodes creds path f)
  on_file_at path f goes =
      on_reached (walk nodes creds [] path) (λ n. of_node nodes (node_at nodes n) (f n)) (walk_from-Undone nodes creds [] path [] 1)
      (λ n w. on_node (node_at nodes n) (f n) (λ x at. goes n x w at))

  pub on_directory : (writes : List Path) (path : Path) (f : ℕ → Applied) → ((dir : ℕ) → Entered nodes creds writes (dir_of path) dir → Q (f dir)) → Q (in_directory nodes creds writes path f)
  on_directory writes path f goes =
      on_reached (walk_into nodes creds writes (dir_of path)) f (walk_into-Undone nodes creds writes (dir_of path))
      (λ dir w. goes dir (walk_into-Ok nodes creds writes (dir_of path) dir w))

  pub on_listed : (dir : ℕ) (path : Path) (f : ℕ → Node → Applied) → ((n : ℕ) (x : Node) → find_named nodes dir (name_of path) ≡ Some n → node_at nodes n ≡ Some x → Q (f n x)) → Q (listed_in nodes dir path f)
  on_listed dir path f goes =
      on_reached (ok_or (find_named nodes dir (name_of path)) NotFound) (λ n. of_node nodes (node_at nodes n) (f n)) (ok_or-Undone (find_named nodes dir (name_of path)))
      (λ n w. on_node (node_at nodes n) (f n) (λ x at. goes n x (ok_or-Ok (find_named nodes dir (name_of path)) NotFound n w) at))
