-- In one tree walks need one kind of grant on each directory.
use Rattle.trio_walk.proofs.Words.{◌++◌, ◌||◌, ◌∙◌, ◌∷◌, ◌≡◌, Bool, Creds, Denied, Err, Exists, In, In-cases, IntoItself, IsDir, IsTree, List, Need, Needed, NoInodes, NoSpace, Node, Nodes, None, NotDir, NotEmpty, NotFound, Ok, Option, Path, Result, Some, TooLarge, [], and_then, ap, append-nil, append_assoc, arith, asked_beside, cond, enter, enter_node, entered_needs, eqb, false, find_named, find_named-Child, found_needs, inl, inr, into_needs, is_directory, kind_for, lacks, list_any, need_at, needs_from, node_at, not, reached_by, refl, serves_need, some_one, subst, sym, true, walk, walk_from, walk_needs, ℕ, IsLink, NotLink}
use Rattle.std.specs.Option.{ok_or}
use Rattle.trio_nodes.specs.declared.call.Reply.{Reply}
use Rattle.trio_nodes.specs.declared.call.Reply.TheVariants.{Ok as Replied}
use Rattle.trio_walk.specs.Needs.{needs_if}

abbrev Reached : Type 0
Reached = Result ℕ Reply

-- ---- paths

-- a file is found by these names, the last one first
abbrev pub IsAt : Nodes → List (List ℕ) → ℕ → Type 0
IsAt now [] n = n ≡ 1
IsAt now (name ∷ names) n = (dir : ℕ) × IsAt now names dir × (find_named now dir name ≡ Some n)

-- the path of such names
abbrev pub in_order : List (List ℕ) → Path
in_order [] = []
in_order (name ∷ names) = in_order names ++ name ∷ []

module _ (now : Nodes) (tree : IsTree now) where
  some_at : (names : List (List ℕ)) (n : ℕ) → IsAt now names n → n ≡ 0 → ⊥
  some_at [] n a z = absurd (omega (arith, a, z))
  some_at (name ∷ names) n a z =
      let c = find_named-Child now a.0 name n a.2 in
      let wrong : None ≡ Some c.node = sym tree.none ∙ ap (node_at now) (sym z) ∙ c.at in cc wrong

  below_root : (name : List ℕ) (names : List (List ℕ)) (n : ℕ) → IsAt now (name ∷ names) n → n ≡ 1 → ⊥
  below_root name names n a z =
      let c = find_named-Child now a.0 name n a.2 in
      let r = tree.root in
      let same : c.node ≡ r.0 = some_one (node_at now n) c.node r.0 c.at (ap (node_at now) z ∙ r.1) in
      some_at names a.0 a.1 (sym c.parent ∙ ap (λ (x : Node). x.parent) same ∙ r.3)

  -- there is one path to a file
  pub one_path : (p q : List (List ℕ)) (n : ℕ) → IsAt now p n → IsAt now q n → p ≡ q
  one_path [] [] n a b = refl
  one_path [] (y ∷ q) n a b = absurd (below_root y q n b a)
  one_path (x ∷ p) [] n a b = absurd (below_root x p n a b)
  one_path (x ∷ p) (y ∷ q) n a b =
      let c = find_named-Child now a.0 x n a.2 in
      let d = find_named-Child now b.0 y n b.2 in
      let same : c.node ≡ d.node = some_one (node_at now n) c.node d.node c.at d.at in
      let dir : a.0 ≡ b.0 = sym c.parent ∙ ap (λ (z : Node). z.parent) same ∙ d.parent in
      let name : x ≡ y = sym c.name ∙ ap (λ (z : Node). z.name) same ∙ d.name in
      ap (λ z. z ∷ p) name ∙ ap (λ l. y ∷ l) (one_path p q b.0 (subst (λ k. IsAt now p k) dir a.1) b.1)

-- what is entered is the directory itself
pub same_dir : (creds : Creds) (need : Need) (n k : ℕ) (o : Option Node) → enter_node creds need n o ≡ Ok k → k ≡ n
same_dir creds need n k None h = (let wrong : Err NotFound ≡ Ok k = h in absurd (cc wrong))
same_dir creds need n k (Some x) h = by (not (is_directory x.kind)) (lacks creds need x) h
  where
    by : (b c : Bool) → cond {A = Reached} b (Err NotDir) (cond {A = Reached} c (Err Denied) (Ok n)) ≡ Ok k → k ≡ n
    by true c q = (let wrong : Err NotDir ≡ Ok k = q in absurd (cc wrong))
    by false true q = (let wrong : Err Denied ≡ Ok k = q in absurd (cc wrong))
    by false false q = (let same : Ok n ≡ Ok k = q in sym (cc same))

-- ---- needs by their paths

module _ (now : Nodes) (creds : Creds) (shown : Bool) (writes : List Path) where
  -- a need of the directory at a path
  pub record IsNeedAt (x : Needed) : Type 0 where
    pub names : List (List ℕ)
    pub at : IsAt now names x.ino
    pub kind : x.kind ≡ kind_for (need_at writes (in_order names))

  -- the one need of a directory that is entered
  need_if : (names : List (List ℕ)) (at : ℕ) → IsAt now names at → (b : Bool) (x : Needed) → In x (cond b [] (record { ino = at; kind = kind_for (need_at writes (in_order names)) } ∷ [])) → IsNeedAt x
  need_if names at a true x i = absurd i
  need_if names at a false x (inr i) = absurd i
  need_if names at a false x (inl e) = record { names = names; at = subst (λ n. IsAt now names n) (sym (ap (λ (z : Needed). z.ino) e)) a; kind = ap (λ (z : Needed). z.kind) e }

  entered_need : (names : List (List ℕ)) (at : ℕ) → IsAt now names at → (r : Reached) (f : ℕ → List Needed) → ((dir : ℕ) → r ≡ Ok dir → (x : Needed) → In x (f dir) → IsNeedAt x)
      → (x : Needed) → In x (entered_needs shown at (kind_for (need_at writes (in_order names))) r f) → IsNeedAt x
  entered_need names at a (Ok dir) f later x i =
      elim (In-cases x (needs_if shown at (kind_for (need_at writes (in_order names))) false) (f dir) i) [
        | inl own ↦ need_if names at a false x own
        | inr j ↦ later dir refl x j
      ]
  entered_need names at a (Err Denied) f later x i = need_if names at a (shown || not (eqb at 1)) x i
  entered_need names at a (Err (Replied q)) f later x i = absurd i
  entered_need names at a (Err NotFound) f later x i = absurd i
  entered_need names at a (Err Exists) f later x i = absurd i
  entered_need names at a (Err NotDir) f later x i = absurd i
  entered_need names at a (Err IsDir) f later x i = absurd i
  entered_need names at a (Err NotEmpty) f later x i = absurd i
  entered_need names at a (Err IntoItself) f later x i = absurd i
  entered_need names at a (Err (NoSpace w k)) f later x i = absurd i
  entered_need names at a (Err (NoInodes w k)) f later x i = absurd i
  entered_need names at a (Err TooLarge) f later x i = absurd i
  entered_need names at a (Err IsLink) f later x i = absurd i
  entered_need names at a (Err NotLink) f later x i = absurd i

  found_need : (o : Option ℕ) (f : ℕ → List Needed) → ((child : ℕ) → o ≡ Some child → (x : Needed) → In x (f child) → IsNeedAt x) → (x : Needed) → In x (found_needs o f) → IsNeedAt x
  found_need None f later x i = absurd i
  found_need (Some child) f later x i = later child refl x i

  from_need : (rest : Path) (names : List (List ℕ)) (at : ℕ) → IsAt now names at → (x : Needed) → In x (needs_from now creds shown writes (in_order names) at rest) → IsNeedAt x
  from_need [] names at a x i = absurd i
  from_need (name ∷ rest) names at a x i =
      let need : Need = need_at writes (in_order names) in
      entered_need names at a (enter now creds need at) (λ dir. found_needs (find_named now dir name) (λ child. needs_from now creds shown writes (in_order names ++ name ∷ []) child rest))
      (λ dir e y j.
      let same : dir ≡ at = same_dir creds need at dir (node_at now at) e in
      found_need (find_named now dir name) (λ child. needs_from now creds shown writes (in_order names ++ name ∷ []) child rest)
      (λ child f z k. from_need rest (name ∷ names) child (at, a, ap (λ q. find_named now q name) (sym same) ∙ f) z k) y j) x i

  -- each need of a walk is one of a directory at its path
  pub walk_need : (path : Path) (x : Needed) → In x (walk_needs now creds shown writes path) → IsNeedAt x
  walk_need path x i = from_need path [] 1 refl x i

  from_at : (rest : Path) (names : List (List ℕ)) (at n : ℕ) → IsAt now names at → walk_from now creds writes (in_order names) at rest ≡ Ok n → (rp : List (List ℕ)) × IsAt now rp n × (in_order rp ≡ in_order names ++ rest)
  from_at [] names at n a h =
      let same : Ok at ≡ Ok n = h in
      let is : at ≡ n = cc same in
      (names, subst (λ k. IsAt now names k) is a, sym (append-nil (in_order names)))
  from_at (name ∷ rest) names at n a h = by (λ child f q. from_at rest (name ∷ names) child n (at, a, f) q) (enter now creds (need_at writes (in_order names)) at) refl h
    where
      by_child : ((child : ℕ) → find_named now at name ≡ Some child → walk_from now creds writes (in_order names ++ name ∷ []) child rest ≡ Ok n → (rp : List (List ℕ)) × IsAt now rp n × (in_order rp ≡ in_order (name ∷ names) ++ rest))
          → (o : Option ℕ) → find_named now at name ≡ o → and_then (ok_or o NotFound) (λ child. walk_from now creds writes (in_order names ++ name ∷ []) child rest) ≡ Ok n
          → (rp : List (List ℕ)) × IsAt now rp n × (in_order rp ≡ in_order names ++ name ∷ rest)
      by_child again None e q = (let wrong : Err NotFound ≡ Ok n = q in absurd (cc wrong))
      by_child again (Some child) e q = (let r = again child e q in (r.0, r.1, r.2 ∙ append_assoc (in_order names) (name ∷ []) rest))

      by : ((child : ℕ) → find_named now at name ≡ Some child → walk_from now creds writes (in_order names ++ name ∷ []) child rest ≡ Ok n → (rp : List (List ℕ)) × IsAt now rp n × (in_order rp ≡ in_order (name ∷ names) ++ rest))
          → (r : Reached) → enter now creds (need_at writes (in_order names)) at ≡ r
          → and_then r (λ dir. and_then (ok_or (find_named now dir name) NotFound) (λ child. walk_from now creds writes (in_order names ++ name ∷ []) child rest)) ≡ Ok n
          → (rp : List (List ℕ)) × IsAt now rp n × (in_order rp ≡ in_order names ++ name ∷ rest)
      by again (Err reply) e q = (let wrong : Err reply ≡ Ok n = q in absurd (cc wrong))
      by again (Ok dir) e q =
          let same : dir ≡ at = same_dir creds (need_at writes (in_order names)) at dir (node_at now at) e in
          let q2 : and_then (ok_or (find_named now at name) NotFound) (λ child. walk_from now creds writes (in_order names ++ name ∷ []) child rest) ≡ Ok n =
          ap (λ k. and_then (ok_or (find_named now k name) NotFound) (λ child. walk_from now creds writes (in_order names ++ name ∷ []) child rest)) (sym same) ∙ q in
          by_child again (find_named now at name) refl q2

  -- a walk comes to the file at its path
  pub walk_at : (path : Path) (n : ℕ) → walk now creds writes path ≡ Ok n → (rp : List (List ℕ)) × IsAt now rp n × (in_order rp ≡ path)
  walk_at path n h = from_at path [] 1 n refl h

  -- so it is of the needs of a walk into a directory
  pub into_need : (path : Path) (x : Needed) → In x (into_needs now creds shown writes path) → IsNeedAt x
  into_need path x i =
      elim (In-cases x (walk_needs now creds shown writes path) (reached_by (walk now creds writes path) (λ n. entered_needs shown n (kind_for (need_at writes path)) (enter now creds (need_at writes path) n) (λ dir. []))) i) [
        | inl j ↦ walk_need path x j
        | inr j ↦ by (walk now creds writes path) refl j
      ]
    where
      by : (r : Reached) → walk now creds writes path ≡ r → In x (reached_by r (λ n. entered_needs shown n (kind_for (need_at writes path)) (enter now creds (need_at writes path) n) (λ dir. []))) → IsNeedAt x
      by (Err reply) e j = absurd j
      by (Ok n) e j =
          let w = walk_at path n e in
          entered_need w.0 n w.1 (enter now creds (need_at writes path) n) (λ dir. []) (λ dir q y k. absurd k) x
          (subst (λ p. In x (entered_needs shown n (kind_for (need_at writes p)) (enter now creds (need_at writes path) n) (λ dir. []))) (sym w.2) j)

  -- two needs on one file are of one kind
  pub need_one : IsTree now → (x y : Needed) → IsNeedAt x → IsNeedAt y → x.ino ≡ y.ino → x.kind ≡ y.kind
  need_one tree x y a b e =
      a.kind ∙ ap (λ p. kind_for (need_at writes (in_order p))) (one_path now tree a.names b.names y.ino (subst (λ n. IsAt now a.names n) e a.at) b.at) ∙ sym b.kind

-- ---- what is asked

-- what is asked is needed
pub asked_beside-In : (served : Needed → Bool) (ns got : List Needed) (x : Needed) → In x (asked_beside served got ns) → In x ns
asked_beside-In served [] got x i = absurd i
asked_beside-In served (n ∷ ns) got x i = by (λ g j. asked_beside-In served ns g x j) (served n || list_any (serves_need n) got) i
  where
    by : ((g : List Needed) → In x (asked_beside served g ns) → In x ns) → (b : Bool) → In x (cond b (asked_beside served got ns) (n ∷ asked_beside served (got ++ n ∷ []) ns)) → In x (n ∷ ns)
    by again true j = inr (again got j)
    by again false (inl e) = inl e
    by again false (inr j) = inr (again (got ++ n ∷ []) j)

-- what is asked of some needs and then of more
pub asked_beside-append : (served : Needed → Bool) (ns ms got : List Needed) → asked_beside served got (ns ++ ms) ≡ asked_beside served got ns ++ asked_beside served (got ++ asked_beside served got ns) ms
asked_beside-append served [] ms got = ap (λ g. asked_beside served g ms) (sym (append-nil got))
asked_beside-append served (n ∷ ns) ms got = by (asked_beside-append served ns ms) (served n || list_any (serves_need n) got)
  where
    by : ((g : List Needed) → asked_beside served g (ns ++ ms) ≡ asked_beside served g ns ++ asked_beside served (g ++ asked_beside served g ns) ms) → (b : Bool)
        → cond b (asked_beside served got (ns ++ ms)) (n ∷ asked_beside served (got ++ n ∷ []) (ns ++ ms))
        ≡ cond b (asked_beside served got ns) (n ∷ asked_beside served (got ++ n ∷ []) ns) ++ asked_beside served (got ++ cond b (asked_beside served got ns) (n ∷ asked_beside served (got ++ n ∷ []) ns)) ms
    by again true = again got
    by again false =
        let rest : List Needed = asked_beside served (got ++ n ∷ []) ns in
        ap (λ l. n ∷ l) (again (got ++ n ∷ []) ∙ ap (λ g. rest ++ asked_beside served g ms) (append_assoc got (n ∷ []) rest))
