-- Lists of nodes that say the same of every number are one tree together.
use Rattle.trio_calls_dir.proofs.Words.{◌∙◌, ◌∷◌, ◌≡◌, Child-find_named, IsDirectory, IsTree, List, Node, Nodes, None, Path, Some, [], ap, cases_eq, cond, find_named, find_named-Child, inl, inr, is_some, node_at, option_map, subst, sym, true, with_changed, ℕ}
use Rattle.trio_nodes.specs.Nodes.{SameNodes}
use Rattle.trio_nodes.specs.Found.{found_from, path_found, then_found}
use Rattle.trio_nodes.proofs.NodeFacts.{with_node-else, with_node-same}
use Rattle.trio_onetree.proofs.Children.{Child, Names, then_found-Some}

module _ (a b : Nodes) (same : SameNodes a b) (tree : IsTree a) where
  names_alike : Names b
  names_alike n m x y e f = tree.names n m x y (same n ∙ e) (same m ∙ f)

  child_alike : (dir n : ℕ) (name : List ℕ) → find_named a dir name ≡ Some n → find_named b dir name ≡ Some n
  child_alike dir n name e =
      let c : Child a dir name n = find_named-Child a dir name n e in
      Child-find_named b names_alike dir name n (record { node = c.node; at = sym (same n) ∙ c.at; parent = c.parent; name = c.name })

  from_alike : (path : Path) (at n : ℕ) → found_from a at path ≡ Some n → found_from b at path ≡ Some n
  from_alike [] at n e = e
  from_alike (name ∷ path) at n e =
      let c = then_found-Some (find_named a at name) (λ child. found_from a child path) n e in
      ap (λ o. then_found o (λ child. found_from b child path)) (child_alike at c.0 name c.1) ∙ from_alike path c.0 n c.2

  found_alike : (path : Path) (n : ℕ) → path_found a path ≡ Some n → path_found b path ≡ Some n
  found_alike path n e =
      let some : is_some (node_at a 1) ≡ true = ap is_some tree.root.1 in
      let from : found_from a 1 path ≡ Some n = sym (ap (λ t. cond t (found_from a 1 path) None) some) ∙ e in
      ap (λ t. cond t (found_from b 1 path) None) (ap is_some (sym (same 1)) ∙ some) ∙ from_alike path 1 n from

  pub tree_alike : IsTree b
  tree_alike = record {
    root = (tree.root.0, sym (same 1) ∙ tree.root.1, tree.root.2, tree.root.3);
    none = sym (same 0) ∙ tree.none;
    parents = λ n x at other. subst IsDirectory (same x.parent) (tree.parents n x (same n ∙ at) other);
    names = names_alike;
    found = λ n x at. (let f = tree.found n x (same n ∙ at) in (f.0, found_alike f.0 n f.1));
  }

-- so they do with one node changed
pub changed_alike : (a b : Nodes) → SameNodes a b → (n : ℕ) (change : Node → Node) → SameNodes (with_changed n change a) (with_changed n change b)
changed_alike a b same n change m =
    elim (cases_eq m n) [
      | inl here ↦
          ap (node_at (with_changed n change a)) here ∙ with_node-same a n (option_map change (node_at a n))
          ∙ ap (option_map change) (same n)
          ∙ sym (with_node-same b n (option_map change (node_at b n))) ∙ ap (node_at (with_changed n change b)) (sym here)
      | inr other ↦
          with_node-else a n m (option_map change (node_at a n)) other ∙ same m ∙ sym (with_node-else b n m (option_map change (node_at b n)) other)
    ]
