-- A tree with another node at one number, and one without a node.
use Rattle.trio_onetree.proofs.Words.{◌++◌, ◌∙◌, ◌∷◌, ◌≡◌, ◌⊎◌, Directory, IsDirectory, IsTree, List, Node, Nodes, None, Option, Path, Some, [], ap, append_assoc, arith, cond, find_named, found_from, inl, inr, is_some, length, node_at, path_found, refl, subst, sym, with_node, ℕ}
use Rattle.std.proofs.Common.{append-nil}
use Rattle.std.proofs.lemmas.Bool.{cases_eq}
use Rattle.std.proofs.lemmas.List.{length-append}
use Rattle.trio_nodes.proofs.NodeFacts.{with_node-same, with_node-else}
use Rattle.trio_onetree.proofs.Children.{Child, Names, one_node, find_named-Child, Child-find_named, then_found-Some, found-more, found-one, found-each, one_path, path_found-is}

-- a path leads to the file
abbrev pub Found : Nodes → ℕ → Type 0
Found nodes n = (path : Path) × (found_from nodes 1 path ≡ Some n)

pub found_at : (nodes : Nodes) (x : Node) (n : ℕ) → node_at nodes 1 ≡ Some x → Found nodes n → (path : Path) × (path_found nodes path ≡ Some n)
found_at nodes x n root f = (f.0, ap (λ o. cond (is_some o) (found_from nodes 1 f.0) None) root ∙ f.1)

-- and on to what it lists
pub found_child : (nodes : Nodes) → Names nodes → (at mid : ℕ) (name : List ℕ) → Found nodes at → Child nodes at name mid → Found nodes mid
found_child nodes names at mid name f c =
    (f.0 ++ name ∷ [], found-more nodes 1 at mid f.0 (name ∷ []) f.1 (found-one nodes at mid name (Child-find_named nodes names at name mid c)))

-- ---- a node is put

-- What is asked of a node that is put: it is no root; its directory is live, and found by a path that doesn't lead over the node itself;
-- it keeps its kind; and no other has its name there.
pub record Fits (nodes : Nodes) (n : ℕ) (y : Node) : Type 0 where
  pub low : n ≡ 0 → ⊥
  pub root : n ≡ 1 → ⊥
  pub dir : IsDirectory (node_at nodes y.parent)
  pub path : Path
  pub leads : found_from nodes 1 path ≡ Some y.parent
  pub around : (front rest : Path) → path ≡ front ++ rest → found_from nodes 1 front ≡ Some n → ⊥
  pub kind : (x : Node) → node_at nodes n ≡ Some x → y.kind ≡ x.kind
  pub alone : (m : ℕ) (z : Node) → (m ≡ n → ⊥) → node_at nodes m ≡ Some z → z.parent ≡ y.parent → z.name ≡ y.name → ⊥

module _ (nodes : Nodes) (tree : IsTree nodes) (n : ℕ) (y : Node) (fits : Fits nodes n y) where
  abbrev after : Nodes
  after = with_node nodes n (Some y)

  put : node_at after n ≡ Some y
  put = with_node-same nodes n (Some y)

  stays : (m : ℕ) → (m ≡ n → ⊥) → node_at after m ≡ node_at nodes m
  stays m differ = with_node-else nodes n m (Some y) differ

  apart : y.parent ≡ n → ⊥
  apart e = fits.around fits.path [] (sym (append-nil fits.path)) (fits.leads ∙ ap Some e)

  abbrev root' : (x : Node) × (node_at after 1 ≡ Some x) × (x.kind ≡ Directory) × (x.parent ≡ 0)
  root' = (tree.root.0, stays 1 (λ e. fits.root (sym e)) ∙ tree.root.1, tree.root.2, tree.root.3)

  directory : (d : ℕ) → IsDirectory (node_at nodes d) → IsDirectory (node_at after d)
  directory d is =
      elim (cases_eq d n) [
        | inl same ↦ subst IsDirectory (sym (ap (node_at after) same ∙ put)) (kept (node_at nodes n) refl (subst (λ m. IsDirectory (node_at nodes m)) same is))
        | inr differ ↦ subst IsDirectory (sym (stays d differ)) is
      ]
    where
      kept : (o : Option Node) → node_at nodes n ≡ o → IsDirectory o → y.kind ≡ Directory
      kept None e is = absurd is
      kept (Some x) e is = fits.kind x e ∙ is

  parents' : (m : ℕ) (x : Node) → node_at after m ≡ Some x → (m ≡ 1 → ⊥) → IsDirectory (node_at after x.parent)
  parents' m x at other =
      elim (cases_eq m n) [
        | inl same ↦
            let is : y ≡ x = one_node (node_at after n) y x put (ap (node_at after) (sym same) ∙ at) in
            directory x.parent (subst (λ (z : Node). IsDirectory (node_at nodes z.parent)) is fits.dir)
        | inr differ ↦ directory x.parent (tree.parents m x (sym (stays m differ) ∙ at) other)
      ]

  names' : Names after
  names' a b x z at bt parent name =
      elim (cases_eq a n) [
        | inl first ↦
            elim (cases_eq b n) [
              | inl second ↦ first ∙ sym second
              | inr other ↦
                  let is : y ≡ x = one_node (node_at after n) y x put (ap (node_at after) (sym first) ∙ at) in
                  absurd (fits.alone b z other (sym (stays b other) ∙ bt) (sym parent ∙ ap (λ (q : Node). q.parent) (sym is)) (sym name ∙ ap (λ (q : Node). q.name) (sym is)))
            ]
        | inr other ↦
            elim (cases_eq b n) [
              | inl second ↦
                  let is : y ≡ z = one_node (node_at after n) y z put (ap (node_at after) (sym second) ∙ bt) in
                  absurd (fits.alone a x other (sym (stays a other) ∙ at) (parent ∙ ap (λ (q : Node). q.parent) (sym is)) (name ∙ ap (λ (q : Node). q.name) (sym is)))
              | inr another ↦ tree.names a b x z (sym (stays a other) ∙ at) (sym (stays b another) ∙ bt) parent name
            ]
      ]

  child' : (at mid : ℕ) (name : List ℕ) → (mid ≡ n → ⊥) → Child nodes at name mid → Child after at name mid
  child' at mid name differ c = record { node = c.node; at = stays mid differ ∙ c.at; parent = c.parent; name = c.name }

  -- the way to the node's directory doesn't lead over it
  way : (front rest : Path) (at : ℕ) → fits.path ≡ front ++ rest → found_from nodes 1 front ≡ Some at → found_from nodes at rest ≡ Some y.parent → Found after at → Found after y.parent
  way front [] at whole before on f = (let same : at ≡ y.parent = cc on in subst (Found after) same f)
  way front (name ∷ rest) at whole before on f =
      let s = then_found-Some (find_named nodes at name) (λ child. found_from nodes child rest) y.parent on in
      let c = find_named-Child nodes at name s.0 s.1 in
      let more : found_from nodes 1 (front ++ name ∷ []) ≡ Some s.0 = found-more nodes 1 at s.0 front (name ∷ []) before (found-one nodes at s.0 name s.1) in
      let whole' : fits.path ≡ (front ++ name ∷ []) ++ rest = whole ∙ sym (append_assoc front (name ∷ []) rest) in
      let differ : s.0 ≡ n → ⊥ = λ e. fits.around (front ++ name ∷ []) rest whole' (more ∙ ap Some e) in
      way (front ++ name ∷ []) rest s.0 whole' more s.2 (found_child after names' at s.0 name f (child' at s.0 name differ c))

  found_n : Found after n
  found_n =
      found_child after names' y.parent n y.name (way [] fits.path 1 refl refl fits.leads ([], refl))
      (record { node = y; at = put; parent = refl; name = refl })

  found' : (m : ℕ) (x : Node) → node_at after m ≡ Some x → Found after m
  found' m x at =
      elim (cases_eq m n) [
        | inl same ↦ subst (Found after) (sym same) found_n
        | inr differ ↦
            let p = tree.found m x (sym (stays m differ) ∙ at) in
            found-each nodes (Found after) over p.0 1 m (sym (path_found-is nodes tree p.0) ∙ p.1) ([], refl)
      ]
    where
      over : (at mid : ℕ) (name : List ℕ) → Found after at → Child nodes at name mid → Found after mid
      over at mid name f c =
          elim (cases_eq mid n) [
            | inl same ↦ subst (Found after) (sym same) found_n
            | inr differ ↦ found_child after names' at mid name f (child' at mid name differ c)
          ]

  pub tree_put : IsTree after
  tree_put = record {
    root = root';
    none = stays 0 (λ e. fits.low (sym e)) ∙ tree.none;
    parents = parents';
    names = names';
    found = λ m x at. found_at after tree.root.0 m root'.1 (found' m x at);
  }

-- ---- a node that stays in its place

module _ (nodes : Nodes) (tree : IsTree nodes) (n : ℕ) (x y : Node) (at : node_at nodes n ≡ Some x) (other : n ≡ 1 → ⊥) (parent : y.parent ≡ x.parent) (name : y.name ≡ x.name) (kind : y.kind ≡ x.kind) where
  pub tree_same : IsTree (with_node nodes n (Some y))
  tree_same =
      tree_put nodes tree n y (record {
        low = λ e. (let wrong : None ≡ Some x = sym tree.none ∙ ap (node_at nodes) (sym e) ∙ at in absurd (cc wrong));
        root = other;
        dir = subst (λ d. IsDirectory (node_at nodes d)) (sym parent) (tree.parents n x at other);
        path = way.0;
        leads = way.1 ∙ ap Some (sym parent);
        around = λ front rest whole e.
            let own : found_from nodes 1 (way.0 ++ x.name ∷ []) ≡ Some n = found-more nodes 1 x.parent n way.0 (x.name ∷ []) way.1 (found-one nodes x.parent n x.name (Child-find_named nodes tree.names x.parent x.name n (record { node = x; at = at; parent = refl; name = refl }))) in
            let same : front ≡ way.0 ++ x.name ∷ [] = one_path nodes tree n front (way.0 ++ x.name ∷ []) e own in
            let l = ap length whole in
            let a = length-append front rest in
            let b = length-append way.0 (x.name ∷ []) in
            let c = ap length same in
            let one : length (x.name ∷ []) ≡ 1 = refl in
            omega (arith, l, a, b, c, one);
        kind = λ z there. kind ∙ ap (λ (q : Node). q.kind) (one_node (node_at nodes n) x z at there);
        alone = λ m z differ there p q. differ (tree.names m n z x there at (p ∙ parent) (q ∙ name));
      })
    where
      live : (o : Option Node) → IsDirectory o → (z : Node) × (o ≡ Some z)
      live None is = absurd is
      live (Some z) is = (z, refl)

      way : Found nodes x.parent
      way =
          let z = live (node_at nodes x.parent) (tree.parents n x at other) in
          let p = tree.found x.parent z.0 z.1 in (p.0, sym (path_found-is nodes tree p.0) ∙ p.1)

-- ---- a node is taken away

module _ (nodes : Nodes) (tree : IsTree nodes) (n : ℕ) (other : n ≡ 1 → ⊥) (leaf : (m : ℕ) (z : Node) → node_at nodes m ≡ Some z → z.parent ≡ n → ⊥) where
  abbrev left : Nodes
  left = with_node nodes n None

  still : (m : ℕ) → (m ≡ n → ⊥) → node_at left m ≡ node_at nodes m
  still m differ = with_node-else nodes n m None differ

  away : (m : ℕ) (x : Node) → node_at left m ≡ Some x → m ≡ n → ⊥
  away m x at same = (let wrong : None ≡ Some x = sym (with_node-same nodes n None) ∙ ap (node_at left) (sym same) ∙ at in absurd (cc wrong))

  abbrev left_root : (x : Node) × (node_at left 1 ≡ Some x) × (x.kind ≡ Directory) × (x.parent ≡ 0)
  left_root = (tree.root.0, still 1 (λ e. other (sym e)) ∙ tree.root.1, tree.root.2, tree.root.3)

  left_names : Names left
  left_names a b x z at bt parent name =
      tree.names a b x z (sym (still a (away a x at)) ∙ at) (sym (still b (away b z bt)) ∙ bt) parent name

  -- no way leads over it
  over : (at mid : ℕ) (name : List ℕ) → (at ≡ n) ⊎ Found left at → Child nodes at name mid → (mid ≡ n) ⊎ Found left mid
  over at mid name (inl same) c = absurd (leaf mid c.node c.at (c.parent ∙ same))
  over at mid name (inr f) c =
      elim (cases_eq mid n) [
        | inl same ↦ inl same
        | inr differ ↦ inr (found_child left left_names at mid name f (record { node = c.node; at = still mid differ ∙ c.at; parent = c.parent; name = c.name }))
      ]

  left_found : (m : ℕ) (x : Node) → node_at left m ≡ Some x → Found left m
  left_found m x at =
      let p = tree.found m x (sym (still m (away m x at)) ∙ at) in
      let f = found-each nodes (λ k. (k ≡ n) ⊎ Found left k) over p.0 1 m (sym (path_found-is nodes tree p.0) ∙ p.1) (inr ([], refl)) in
      elim f [ inl same ↦ absurd (away m x at same) | inr there ↦ there ]

  left_none : node_at left 0 ≡ None
  left_none =
      elim (cases_eq 0 n) [
        | inl same ↦ ap (node_at left) same ∙ with_node-same nodes n None
        | inr differ ↦ still 0 differ ∙ tree.none
      ]

  pub tree_without : IsTree left
  tree_without = record {
    root = left_root;
    none = left_none;
    parents = λ m x at one.
        let is = tree.parents m x (sym (still m (away m x at)) ∙ at) one in
        subst IsDirectory (sym (still x.parent (leaf m x (sym (still m (away m x at)) ∙ at)))) is;
    names = left_names;
    found = λ m x at. found_at left tree.root.0 m left_root.1 (left_found m x at);
  }
