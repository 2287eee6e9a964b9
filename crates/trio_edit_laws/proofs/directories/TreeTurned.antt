-- A file that is no directory gets another kind and other content in its place: the nodes are one tree still.
use Rattle.trio_edit_laws.proofs.Words.{◌∙◌, ◌≡◌, Directory, In, IsTree, List, Node, Nodes, None, Option, Some, [], ap, cases_eq, false, false≢true, inl, inr, is_directory, node_at, refl, subst, sym, true, with_node, with_node-else, with_node-same, ℕ}
use Rattle.trio_nodes.specs.Tree.{IsDirectory}
use Rattle.trio_onetree.proofs.Children.{Child, Names, found-each, path_found-is}
use Rattle.trio_onetree.proofs.TreePut.{Found, found_at, found_child}

-- a node with the same parent and name
record IsPlacedAs (nodes : Nodes) (n' : ℕ) (x : Node) : Type 0 where
  pub node : Node
  pub at : node_at nodes n' ≡ Some node
  pub parent : node.parent ≡ x.parent
  pub name : node.name ≡ x.name

module _ (nodes : Nodes) (tree : IsTree nodes) (n : ℕ) (x y : Node) (here : node_at nodes n ≡ Some x) (plain : is_directory x.kind ≡ false) (parent : y.parent ≡ x.parent)
    (name : y.name ≡ x.name) where
  abbrev after : Nodes
  after = with_node nodes n (Some y)

  put : node_at after n ≡ Some y
  put = with_node-same nodes n (Some y)

  stays : (m : ℕ) → (m ≡ n → ⊥) → node_at after m ≡ node_at nodes m
  stays m differ = with_node-else nodes n m (Some y) differ

  no_directory : (d : ℕ) → IsDirectory (node_at nodes d) → d ≡ n → ⊥
  no_directory d is same =
      let k : x.kind ≡ Directory = subst IsDirectory (ap (node_at nodes) same ∙ here) is in
      false≢true (sym plain ∙ ap is_directory k)

  directory : (d : ℕ) → IsDirectory (node_at nodes d) → IsDirectory (node_at after d)
  directory d is = subst IsDirectory (sym (stays d (no_directory d is))) is

  was : (m : ℕ) (z : Node) → node_at after m ≡ Some z → IsPlacedAs nodes m z
  was m z at = elim (cases_eq m n) [
    | inl same ↦
        let both : Some y ≡ Some z = sym put ∙ ap (node_at after) (sym same) ∙ at in
        let is : y ≡ z = cc both in
        record {
          node = x;
          at = ap (node_at nodes) same ∙ here;
          parent = sym parent ∙ ap (λ (q : Node). q.parent) is;
          name = sym name ∙ ap (λ (q : Node). q.name) is;
        }
    | inr differ ↦ record { node = z; at = sym (stays m differ) ∙ at; parent = refl; name = refl }
  ]

  now : (m : ℕ) (z : Node) → node_at nodes m ≡ Some z → IsPlacedAs after m z
  now m z at = elim (cases_eq m n) [
    | inl same ↦
        let both : Some x ≡ Some z = sym here ∙ ap (node_at nodes) (sym same) ∙ at in
        let is : x ≡ z = cc both in
        record {
          node = y;
          at = ap (node_at after) same ∙ put;
          parent = parent ∙ ap (λ (q : Node). q.parent) is;
          name = name ∙ ap (λ (q : Node). q.name) is;
        }
    | inr differ ↦ record { node = z; at = stays m differ ∙ at; parent = refl; name = refl }
  ]

  root_differs : 1 ≡ n → ⊥
  root_differs e = no_directory 1 (subst IsDirectory (sym tree.root.1) tree.root.2) e

  none_differs : 0 ≡ n → ⊥
  none_differs e = (let wrong : None ≡ Some x = sym tree.none ∙ ap (node_at nodes) e ∙ here in absurd (cc wrong))

  abbrev root' : (z : Node) × (node_at after 1 ≡ Some z) × (z.kind ≡ Directory) × (z.parent ≡ 0)
  root' = (tree.root.0, stays 1 root_differs ∙ tree.root.1, tree.root.2, tree.root.3)

  parents' : (m : ℕ) (z : Node) → node_at after m ≡ Some z → (m ≡ 1 → ⊥) → IsDirectory (node_at after z.parent)
  parents' m z at other =
      let b = was m z at in
      subst (λ d. IsDirectory (node_at after d)) b.parent (directory b.node.parent (tree.parents m b.node b.at other))

  names' : Names after
  names' a b p q at bt same named =
      let u = was a p at in
      let v = was b q bt in
      tree.names a b u.node v.node u.at v.at (u.parent ∙ same ∙ sym v.parent) (u.name ∙ named ∙ sym v.name)

  child' : (at mid : ℕ) (called : List ℕ) → Child nodes at called mid → Child after at called mid
  child' at mid called c =
      let b = now mid c.node c.at in
      record { node = b.node; at = b.at; parent = b.parent ∙ c.parent; name = b.name ∙ c.name }

  found' : (m : ℕ) (z : Node) → node_at after m ≡ Some z → Found after m
  found' m z at =
      let b = was m z at in
      let p = tree.found m b.node b.at in
      found-each nodes (Found after) (λ on mid called f c. found_child after names' on mid called f (child' on mid called c)) p.0 1 m (sym (path_found-is nodes tree p.0) ∙ p.1) ([], refl)

  pub tree_turned : IsTree (with_node nodes n (Some y))
  tree_turned = record {
    root = root';
    none = stays 0 none_differs ∙ tree.none;
    parents = parents';
    names = names';
    found = λ m z at. found_at after tree.root.0 m root'.1 (found' m z at);
  }
