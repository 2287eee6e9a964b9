-- The grants that a walk into a directory needs are of directories on the way to it.
use Rattle.trio_calls_dir.proofs.Words.{◌++◌, ◌+◌, ◌||◌, ◌∙◌, ◌∷◌, ◌≡◌, Bool, Creds, Denied, Err, Exists, GrantKind, In, In-cases, IntoItself, IsAt, IsDir, IsReplied, IsTree, List, Need, Needed, NoInodes, NoSpace, Nodes, None, NotDir, NotEmpty, NotFound, Ok, Option, Path, Reply, Result, Some, TooLarge, [], and_then, ap, append-nil, append_assoc, arith, cond, enter, eqb, false, find_named, in_order, inl, inr, into_needs, kind_for, length, ne_eqb, need_at, node_at, not, ok_or, one_path, reached_by, refl, subst, sym, true, walk, walk_into, walk_needs, ℕ, IsLink, NotLink}
use Rattle.std.proofs.lemmas.List.{length-append}
use Rattle.trio_nodes.specs.Walk.{walk_from}
use Rattle.trio_walk.specs.Needs.{entered_needs, found_needs, needs_from, needs_if}
use Rattle.trio_walk.proofs.Agreeing.{same_dir, walk_at}

-- a need of a file on the way to the one at this path
pub record IsOnWay (now : Nodes) (path : Path) (x' : Needed) : Type 0 where
  pub names : List (List ℕ)
  pub at : IsAt now names x'.ino
  pub rest : Path
  pub whole : in_order names ++ rest ≡ path

module _ (now : Nodes) (creds : Creds) (shown : Bool) (writes : List Path) where
  on_one : (path rest : Path) (names : List (List ℕ)) (at : ℕ) (kind : GrantKind) → IsAt now names at → in_order names ++ rest ≡ path → (b : Bool) (x : Needed) → In x (cond b [] (record { ino = at; kind = kind } ∷ [])) → IsOnWay now path x
  on_one path rest names at kind a w true x i = absurd i
  on_one path rest names at kind a w false x (inr i) = absurd i
  on_one path rest names at kind a w false x (inl e) = record { names = names; at = subst (λ n. IsAt now names n) (sym (ap (λ (z : Needed). z.ino) e)) a; rest = rest; whole = w }

  on_entered : (path rest : Path) (names : List (List ℕ)) (at : ℕ) (kind : GrantKind) → IsAt now names at → in_order names ++ rest ≡ path → (r : Result ℕ Reply) (f : ℕ → List Needed)
      → ((dir : ℕ) → r ≡ Ok dir → (x : Needed) → In x (f dir) → IsOnWay now path x) → (x : Needed) → In x (entered_needs shown at kind r f) → IsOnWay now path x
  on_entered path rest names at kind a w (Ok dir) f later x i =
      elim (In-cases x (record { ino = at; kind = kind } ∷ []) (f dir) i) [
        | inl own ↦ on_one path rest names at kind a w false x own
        | inr j ↦ later dir refl x j
      ]
  on_entered path rest names at kind a w (Err Denied) f later x i = on_one path rest names at kind a w (shown || not (eqb at 1)) x i
  on_entered path rest names at kind a w (Err (IsReplied q)) f later x i = absurd i
  on_entered path rest names at kind a w (Err NotFound) f later x i = absurd i
  on_entered path rest names at kind a w (Err Exists) f later x i = absurd i
  on_entered path rest names at kind a w (Err NotDir) f later x i = absurd i
  on_entered path rest names at kind a w (Err IsDir) f later x i = absurd i
  on_entered path rest names at kind a w (Err NotEmpty) f later x i = absurd i
  on_entered path rest names at kind a w (Err IntoItself) f later x i = absurd i
  on_entered path rest names at kind a w (Err (NoSpace m k)) f later x i = absurd i
  on_entered path rest names at kind a w (Err (NoInodes m k)) f later x i = absurd i
  on_entered path rest names at kind a w (Err TooLarge) f later x i = absurd i
  on_entered path rest names at kind a w (Err IsLink) f later x i = absurd i
  on_entered path rest names at kind a w (Err NotLink) f later x i = absurd i

  on_found : (path : Path) (o : Option ℕ) (f : ℕ → List Needed) → ((child : ℕ) → o ≡ Some child → (x : Needed) → In x (f child) → IsOnWay now path x) → (x : Needed) → In x (found_needs o f) → IsOnWay now path x
  on_found path None f later x i = absurd i
  on_found path (Some child) f later x i = later child refl x i

  on_from : (path rest passed : Path) (names : List (List ℕ)) (at : ℕ) → IsAt now names at → in_order names ++ rest ≡ path → (x : Needed) → In x (needs_from now creds shown writes passed at rest) → IsOnWay now path x
  on_from path [] passed names at a w x i = absurd i
  on_from path (name ∷ rest) passed names at a w x i =
      let need : Need = need_at writes passed in
      on_entered path (name ∷ rest) names at (kind_for need) a w (enter now creds need at) (λ dir. found_needs (find_named now dir name) (λ child. needs_from now creds shown writes (passed ++ name ∷ []) child rest))
      (λ dir e y j.
      let same : dir ≡ at = same_dir creds need at dir (node_at now at) e in
      on_found path (find_named now dir name) (λ child. needs_from now creds shown writes (passed ++ name ∷ []) child rest)
      (λ child f z k. on_from path rest (passed ++ name ∷ []) (name ∷ names) child (at, a, ap (λ q. find_named now q name) (sym same) ∙ f) (append_assoc (in_order names) (name ∷ []) rest ∙ w) z k) y j) x i

  -- each need of a walk into a directory is of one on the way to it
  pub on_way : (path : Path) (x : Needed) → In x (into_needs now creds shown writes path) → IsOnWay now path x
  on_way path x i =
      elim (In-cases x (walk_needs now creds shown writes path) (reached_by (walk now creds writes path) (λ n. entered_needs shown n (kind_for (need_at writes path)) (enter now creds (need_at writes path) n) (λ dir. []))) i) [
        | inl j ↦ on_from path path [] [] 1 refl refl x j
        | inr j ↦ by (walk now creds writes path) refl j
      ]
    where
      by : (r : Result ℕ Reply) → walk now creds writes path ≡ r → In x (reached_by r (λ n. entered_needs shown n (kind_for (need_at writes path)) (enter now creds (need_at writes path) n) (λ dir. []))) → IsOnWay now path x
      by (Err reply) e j = absurd j
      by (Ok n) e j =
          let w = walk_at now creds shown writes path n e in
          on_entered path [] w.0 n (kind_for (need_at writes path)) w.1 (append-nil (in_order w.0) ∙ w.2) (enter now creds (need_at writes path) n) (λ dir. []) (λ dir q y k. absurd k) x j

  -- the directory that is entered is at its path
  pub into_at : (path : Path) (dir : ℕ) → walk_into now creds writes path ≡ Ok dir → (rp : List (List ℕ)) × IsAt now rp dir × (in_order rp ≡ path)
  into_at path dir e = by (walk now creds writes path) refl e
    where
      by : (r : Result ℕ Reply) → walk now creds writes path ≡ r → and_then r (enter now creds (need_at writes path)) ≡ Ok dir → (rp : List (List ℕ)) × IsAt now rp dir × (in_order rp ≡ path)
      by (Err reply) w q = (let wrong : Err reply ≡ Ok dir = q in absurd (cc wrong))
      by (Ok n) w q =
          let same : dir ≡ n = same_dir creds (need_at writes path) n dir (node_at now n) q in
          let at = walk_at now creds shown writes path n w in
          (at.0, subst (λ k. IsAt now at.0 k) (sym same) at.1, at.2)

  -- none of them is of a file in it
  pub not_below : IsTree now → (path : Path) (dir n : ℕ) (name : List ℕ) → walk_into now creds writes path ≡ Ok dir → find_named now dir name ≡ Some n → (x : Needed) → In x (into_needs now creds shown writes path) → x.ino ≡ n → ⊥
  not_below tree path dir n name e f x i is =
      let on = on_way path x i in
      let at = into_at path dir e in
      let one : on.names ≡ name ∷ at.0 = one_path now tree on.names (name ∷ at.0) n (subst (λ k. IsAt now on.names k) is on.at) (dir, at.1, f) in
      let whole : (path ++ name ∷ []) ++ on.rest ≡ path = ap (λ q. (q ++ name ∷ []) ++ on.rest) (sym at.2) ∙ ap (λ ns. in_order ns ++ on.rest) (sym one) ∙ on.whole in
      let many : length ((path ++ name ∷ []) ++ on.rest) ≡ length path = ap (λ (p : Path). length p) whole in
      let more : length ((path ++ name ∷ []) ++ on.rest) ≡ length (path ++ name ∷ []) + length on.rest = length-append (path ++ name ∷ []) on.rest in
      let one_more : length (path ++ name ∷ []) ≡ length path + 1 = length-append path (name ∷ []) in
      omega (arith, many, more, one_more)

-- ---- whether or not the root's rights are shown

module _ (now : Nodes) (tree : IsTree now) (creds : Creds) (writes : List Path) (b c : Bool) where
  not_root : (name : List ℕ) (names : List (List ℕ)) (n : ℕ) → IsAt now (name ∷ names) n → n ≡ 1 → ⊥
  not_root name names n a one = (let none : name ∷ names ≡ [] = one_path now tree (name ∷ names) [] n a one in cc none)

  if_alike : (at : ℕ) (kind : GrantKind) → (at ≡ 1 → ⊥) → needs_if b at kind true ≡ needs_if c at kind true
  if_alike at kind low = by b c
    where
      one : (t : Bool) → cond {A = List Needed} (t || not (eqb at 1)) [] (record { ino = at; kind = kind } ∷ []) ≡ []
      one true = refl
      one false = ap (λ t. cond {A = List Needed} (not t) [] (record { ino = at; kind = kind } ∷ [])) (ne_eqb at 1 low)

      by : (t u : Bool) → cond {A = List Needed} (t || not (eqb at 1)) [] (record { ino = at; kind = kind } ∷ []) ≡ cond {A = List Needed} (u || not (eqb at 1)) [] (record { ino = at; kind = kind } ∷ [])
      by t u = one t ∙ sym (one u)

  -- a directory that is entered, or is not the root, needs the same
  entered_alike : (at : ℕ) (kind : GrantKind) (r : Result ℕ Reply) (f g : ℕ → List Needed) → (r ≡ Err Denied → at ≡ 1 → ⊥) → ((dir : ℕ) → r ≡ Ok dir → f dir ≡ g dir) → entered_needs b at kind r f ≡ entered_needs c at kind r g
  entered_alike at kind (Ok dir) f g low later = ap (λ l. record { ino = at; kind = kind } ∷ l) (later dir refl)
  entered_alike at kind (Err Denied) f g low later = if_alike at kind (low refl)
  entered_alike at kind (Err (IsReplied q)) f g low later = refl
  entered_alike at kind (Err NotFound) f g low later = refl
  entered_alike at kind (Err Exists) f g low later = refl
  entered_alike at kind (Err NotDir) f g low later = refl
  entered_alike at kind (Err IsDir) f g low later = refl
  entered_alike at kind (Err NotEmpty) f g low later = refl
  entered_alike at kind (Err IntoItself) f g low later = refl
  entered_alike at kind (Err (NoSpace m k)) f g low later = refl
  entered_alike at kind (Err (NoInodes m k)) f g low later = refl
  entered_alike at kind (Err TooLarge) f g low later = refl
  entered_alike at kind (Err IsLink) f g low later = refl
  entered_alike at kind (Err NotLink) f g low later = refl

  found_alike : (o : Option ℕ) (f g : ℕ → List Needed) → ((child : ℕ) → o ≡ Some child → f child ≡ g child) → found_needs o f ≡ found_needs o g
  found_alike None f g later = refl
  found_alike (Some child) f g later = later child refl

  from_alike : (rest passed : Path) (names : List (List ℕ)) (at : ℕ) → IsAt now names at → (enter now creds (need_at writes passed) at ≡ Err Denied → at ≡ 1 → ⊥)
      → needs_from now creds b writes passed at rest ≡ needs_from now creds c writes passed at rest
  from_alike [] passed names at a low = refl
  from_alike (name ∷ rest) passed names at a low =
      let need : Need = need_at writes passed in
      entered_alike at (kind_for need) (enter now creds need at) (λ dir. found_needs (find_named now dir name) (λ child. needs_from now creds b writes (passed ++ name ∷ []) child rest))
      (λ dir. found_needs (find_named now dir name) (λ child. needs_from now creds c writes (passed ++ name ∷ []) child rest)) low
      (λ dir e.
      let same : dir ≡ at = same_dir creds need at dir (node_at now at) e in
      found_alike (find_named now dir name) (λ child. needs_from now creds b writes (passed ++ name ∷ []) child rest) (λ child. needs_from now creds c writes (passed ++ name ∷ []) child rest)
      (λ child f.
      let at_child : IsAt now (name ∷ names) child = (at, a, ap (λ q. find_named now q name) (sym same) ∙ f) in
      from_alike rest (passed ++ name ∷ []) (name ∷ names) child at_child (λ denied. not_root name names child at_child)))

  module _ (enters : enter now creds (need_at writes []) 1 ≡ Err Denied → ⊥) where
    reached_alike : (path : Path) (n : ℕ) → walk now creds writes path ≡ Ok n
        → entered_needs b n (kind_for (need_at writes path)) (enter now creds (need_at writes path) n) (λ dir. []) ≡ entered_needs c n (kind_for (need_at writes path)) (enter now creds (need_at writes path) n) (λ dir. [])
    reached_alike path n e =
        entered_alike n (kind_for (need_at writes path)) (enter now creds (need_at writes path) n) (λ dir. []) (λ dir. [])
        (λ denied one.
        let at = walk_at now creds b writes path n e in
        let top : at.0 ≡ [] = one_path now tree at.0 [] n at.1 one in
        let none : path ≡ [] = sym at.2 ∙ ap in_order top in
        enters (ap (λ k. enter now creds (need_at writes []) k) (sym one) ∙ ap (λ (p : Path). enter now creds (need_at writes p) n) (sym none) ∙ denied))
        (λ dir q. refl)

    -- a walk into a directory needs the same, where the root isn't denied
    pub into_alike : (path : Path) → into_needs now creds b writes path ≡ into_needs now creds c writes path
    into_alike path =
        ap (λ l. l ++ reached_by (walk now creds writes path) (λ n. entered_needs b n (kind_for (need_at writes path)) (enter now creds (need_at writes path) n) (λ dir. [])))
        (from_alike path [] [] 1 refl (λ denied one. enters denied))
        ∙ ap (λ l. walk_needs now creds c writes path ++ l) (by (walk now creds writes path) refl)
      where
        by : (r : Result ℕ Reply) → walk now creds writes path ≡ r
            → reached_by r (λ n. entered_needs b n (kind_for (need_at writes path)) (enter now creds (need_at writes path) n) (λ dir. [])) ≡ reached_by r (λ n. entered_needs c n (kind_for (need_at writes path)) (enter now creds (need_at writes path) n) (λ dir. []))
        by (Err reply) e = refl
        by (Ok n) e = reached_alike path n e

-- where a directory is entered the root isn't denied
pub root_entered : (now : Nodes) (creds : Creds) (writes : List Path) (path : Path) (dir : ℕ) → walk_into now creds writes path ≡ Ok dir → enter now creds (need_at writes []) 1 ≡ Err Denied → ⊥
root_entered now creds writes [] dir e denied = (let wrong : Err Denied ≡ Ok dir = sym denied ∙ e in cc wrong)
root_entered now creds writes (name ∷ names) dir e denied =
    let stops : walk now creds writes (name ∷ names) ≡ Err Denied =
    ap (λ r. and_then r (λ k. and_then (ok_or (find_named now k name) NotFound) (λ child. walk_from now creds writes ([] ++ name ∷ []) child names))) denied in
    let wrong : Err Denied ≡ Ok dir = sym (ap (λ r. and_then r (enter now creds (need_at writes (name ∷ names)))) stops) ∙ e in cc wrong
