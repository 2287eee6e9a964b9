-- A change of mode that the tree does isn't refused for a cause that is true of it.
use Rattle.trio_calls_dir.proofs.Words.{◌&&◌, ◌∙◌, ◌≡◌, ◌≢◌, Applied, Bool, Chmod, Creds, Denied, Err, IsDone, IsReplied, IsTree, Mode, Moded, Need, Node, Nodes, None, NotDir, Ok, Option, Path, Reply, Result, Some, [], and_then, ap, applied, chmod_walk, cond, dir_of, enter, eqb, eqb-true, false, false≢true, find_named, find_named-Child, is_directory, is_root, moded_in, name_of, need_at, node_at, not, option_map, refl, sym, true, walk, walk_into, ℕ}
use Rattle.std.proofs.Common.{◌||◌}
use Rattle.trio_nodes.specs.Walk.{enter_node, lacks}
use Rattle.trio_nodes.specs.Legal.{is_owner}
use Rattle.trio_calls_dir.proofs.ChmodsFinds.{as_moded, stranger_refused}

-- a directory that is entered is there
is_there : (now : Nodes) (creds : Creds) (need : Need) (n dir : ℕ) (o : Option Node) → node_at now n ≡ o → enter_node creds need n o ≡ Ok dir → node_at now dir ≢ None
is_there now creds need n dir None at e = absurd cc
is_there now creds need n dir (Some x) at e = by (not (is_directory x.kind)) (lacks creds need x) e
  where
    by : (a b : Bool) → cond {A = Result ℕ Reply} a (Err NotDir) (cond {A = Result ℕ Reply} b (Err Denied) (Ok n)) ≡ Ok dir → node_at now dir ≢ None
    by true b e = absurd cc
    by false true e = absurd cc
    by false false e = λ none.
        let same : n ≡ dir = cc e in
        let wrong : Some x ≡ None = sym at ∙ ap (node_at now) same ∙ none in
        cc wrong

walk_there : (now : Nodes) (creds : Creds) (need : Need) (w : Result ℕ Reply) (dir : ℕ) → and_then w (enter now creds need) ≡ Ok dir → node_at now dir ≢ None
walk_there now creds need (Err r) dir e = absurd cc
walk_there now creds need (Ok n) dir e = is_there now creds need n dir (node_at now n) refl e

-- where a chmod comes to a file: it is no root, its walk enters a directory, and this lists the file
record ComesAt (now : Nodes) (creds : Creds) (path : Path) (ino : ℕ) : Type 0 where
  root : is_root path ≡ false
  dir : ℕ
  into : walk_into now creds [] (dir_of path) ≡ Ok dir
  found : find_named now dir (name_of path) ≡ Some ino

comes_at : (now : Nodes) (creds : Creds) (path : Path) (mode : Mode) (ino m : ℕ) → chmod_walk now creds (Chmod path mode) ≡ Some (record { ino = ino; mode = m }) → ComesAt now creds path ino
comes_at now creds path mode ino m e = by (is_root path) (walk_into now creds [] (dir_of path)) refl refl e
  where
    at : (dir : ℕ) → is_root path ≡ false → walk_into now creds [] (dir_of path) ≡ Ok dir → (o : Option ℕ) → find_named now dir (name_of path) ≡ o → option_map (as_moded mode) o ≡ Some (record { ino = ino; mode = m }) → ComesAt now creds path ino
    at dir r w None f e = absurd cc
    at dir r w (Some n) f e =
        let one : Moded = as_moded mode n in
        let is : Some one ≡ Some (record { ino = ino; mode = m }) = e in
        let both : one ≡ record { ino = ino; mode = m } = cc is in
        record { root = r; dir = dir; into = w; found = f ∙ ap (λ (q : Moded). Some q.ino) both }

    by : (b : Bool) (r : Result ℕ Reply) → is_root path ≡ b → walk_into now creds [] (dir_of path) ≡ r → cond {A = Option Moded} b None (moded_in now (name_of path) mode r) ≡ Some (record { ino = ino; mode = m }) → ComesAt now creds path ino
    by true r root w e = absurd cc
    by false (Err reply) root w e = absurd cc
    by false (Ok dir) root w e = at dir root w (find_named now dir (name_of path)) refl e

module _ (now : Nodes) (creds : Creds) (path : Path) (mode : Mode) (ino m : ℕ) (comes : chmod_walk now creds (Chmod path mode) ≡ Some (record { ino = ino; mode = m })) where
  abbrev c : ComesAt now creds path ino
  c = comes_at now creds path mode ino m comes

  -- the file is live
  pub comes_live : node_at now ino ≢ None
  comes_live none =
      let f = find_named-Child now c.dir (name_of path) ino c.found in
      let wrong : Some f.node ≡ None = sym f.at ∙ none in
      cc wrong

  -- and not the root
  not_root : IsTree now → ino ≢ 1
  not_root tree one =
      let f = find_named-Child now c.dir (name_of path) ino c.found in
      let r = tree.root in
      let same : Some f.node ≡ Some r.0 = sym f.at ∙ ap (node_at now) one ∙ r.1 in
      let node : f.node ≡ r.0 = cc same in
      let zero : c.dir ≡ 0 = sym f.parent ∙ ap (λ (x : Node). x.parent) node ∙ r.3 in
      walk_there now creds (need_at [] (dir_of path)) (walk now creds [] (dir_of path)) c.dir c.into (ap (node_at now) zero ∙ tree.none)

  -- the library acts for its owner, or for uid 0
  pub comes_owned : IsTree now → (applied now creds (Chmod path mode) 0).reply ≡ IsReplied IsDone → is_owner creds ino (node_at now ino) ≢ false
  comes_owned tree done other =
      let f = find_named-Child now c.dir (name_of path) ino c.found in
      let own : (not (eqb ino 1) && (eqb creds.uid 0 || eqb creds.uid f.node.uid)) ≡ false = sym (ap (is_owner creds ino) f.at) ∙ other in
      by (eqb ino 1) (eqb creds.uid 0) (eqb creds.uid f.node.uid) refl refl refl own
    where
      by : (a b e : Bool) → eqb ino 1 ≡ a → eqb creds.uid 0 ≡ b → eqb creds.uid (find_named-Child now c.dir (name_of path) ino c.found).node.uid ≡ e → (not a && (b || e)) ≡ false → ⊥
      by true b e p q r own = not_root tree (eqb-true ino 1 p)
      by false true e p q r own = false≢true (sym own)
      by false false true p q r own = false≢true (sym own)
      by false false false p q r own =
          let f = find_named-Child now c.dir (name_of path) ino c.found in
          let strange : (eqb creds.uid f.node.uid || eqb creds.uid 0) ≡ false = ap (λ x. x || eqb creds.uid 0) r ∙ q in
          let denied = stranger_refused now creds path mode c.root c.dir c.into ino f.node c.found f.at strange in
          let wrong : Denied ≡ IsReplied IsDone = sym (ap (λ (a : Applied). a.reply) denied) ∙ done in
          cc wrong
