-- The files that a directory lists, and the paths that lead to them.
use Rattle.trio_onetree.proofs.Words.{◌++◌, ◌+◌, ◌<◌, ◌∙◌, ◌∷◌, ◌≡◌, Bool, IsTree, List, Node, Nodes, None, Option, Path, Some, [], ap, arith, both_ways, bytes_eq, bytes_eq-Decides, cond, count_in, eqb, false, false≢true, find_named, found_from, is_some, node_at, path_found, refl, subst, suc, sym, then_found, true, zero, ℕ}
use Rattle.std.specs.List.{position_from}
use Rattle.std.specs.Prelude.{count_by}
use Rattle.std.proofs.lemmas.Bool.{and_parts, and_from, eqb-true, eq-eqb}
use Rattle.std.proofs.lemmas.List.Sums.{sum_by-cons}
use Rattle.trio_nodes.specs.Nodes.{is_named, is_in}

-- the directory lists this file by this name
pub record Child (nodes : Nodes) (dir : ℕ) (name' : List ℕ) (n : ℕ) : Type 0 where
  pub node : Node
  pub at : node_at nodes n ≡ Some node
  pub parent : node.parent ≡ dir
  pub name : node.name ≡ name'

-- no two files have one name in one directory
abbrev pub Names : Nodes → Type 0
Names nodes = (n m : ℕ) (x y : Node) → node_at nodes n ≡ Some x → node_at nodes m ≡ Some y → x.parent ≡ y.parent → x.name ≡ y.name → n ≡ m

pub one_node : (o : Option Node) (x y : Node) → o ≡ Some x → o ≡ Some y → x ≡ y
one_node (Some z) x y a b = (let p : z ≡ x = cc a in let q : z ≡ y = cc b in sym p ∙ q)
one_node None x y a b = absurd cc

-- ---- the first node that passes a test

first_step : (test : Option Node → Bool) (i : ℕ) (x : Option Node) (xs : Nodes) (n : ℕ) (b : Bool) → test x ≡ b
    → (position_from test (i + 1) xs ≡ Some n → (k : ℕ) × (n ≡ (i + 1) + k) × (test (node_at xs k) ≡ true))
    → cond b (Some i) (position_from test (i + 1) xs) ≡ Some n → (k : ℕ) × (n ≡ i + k) × (test (node_at (x ∷ xs) k) ≡ true)
first_step test i x xs n true is rest e = (let same : i ≡ n = cc e in (0, omega (arith, same), is))
first_step test i x xs n false is rest e = (let r = rest e in let m = r.1 in (suc r.0, omega (arith, m), r.2))

position-passes : (test : Option Node → Bool) (i : ℕ) (xs : Nodes) (n : ℕ) → position_from test i xs ≡ Some n → (k : ℕ) × (n ≡ i + k) × (test (node_at xs k) ≡ true)
position-passes test i [] n e = absurd cc
position-passes test i (x ∷ xs) n e = first_step test i x xs n (test x) refl (position-passes test (i + 1) xs n) e

passes_step : (test : Option Node → Bool) (i : ℕ) (xs : Nodes) (b : Bool) → ((n : ℕ) × (position_from test (i + 1) xs ≡ Some n)) → (n : ℕ) × (cond b (Some i) (position_from test (i + 1) xs) ≡ Some n)
passes_step test i xs true rest = (i, refl)
passes_step test i xs false rest = rest

passes-position : (test : Option Node → Bool) (i : ℕ) (xs : Nodes) (k : ℕ) → test None ≡ false → test (node_at xs k) ≡ true → (n : ℕ) × (position_from test i xs ≡ Some n)
passes-position test i [] k none is = absurd (both_ways (test None) none is)
passes-position test i (x ∷ xs) zero none is = (i, ap (λ b. cond b (Some i) (position_from test (i + 1) xs)) is)
passes-position test i (x ∷ xs) (suc k) none is = passes_step test i xs (test x) (passes-position test (i + 1) xs k none is)

count_step : (b : Bool) (rest : ℕ) → 0 < rest → 0 < cond b 1 0 + rest
count_step true rest l = omega arith
count_step false rest l = omega (arith, l)

count_first : (b : Bool) (rest : ℕ) → b ≡ true → 0 < cond b 1 0 + rest
count_first true rest e = omega arith
count_first false rest e = absurd (false≢true e)

passes-count : (test : Option Node → Bool) (xs : Nodes) (k : ℕ) → test None ≡ false → test (node_at xs k) ≡ true → 0 < count_by test xs
passes-count test [] k none is = absurd (both_ways (test None) none is)
passes-count test (x ∷ xs) zero none is = subst (λ c. 0 < c) (sym (sum_by-cons (λ y. cond (test y) 1 0) x xs)) (count_first (test x) (count_by test xs) is)
passes-count test (x ∷ xs) (suc k) none is = subst (λ c. 0 < c) (sym (sum_by-cons (λ y. cond (test y) 1 0) x xs)) (count_step (test x) (count_by test xs) (passes-count test xs k none is))

-- ---- a name looked up in a directory

named-Child : (dir : ℕ) (name : List ℕ) (o : Option Node) → is_named dir name o ≡ true → (x : Node) × (o ≡ Some x) × (x.parent ≡ dir) × (x.name ≡ name)
named-Child dir name None e = absurd cc
named-Child dir name (Some x) e =
    let p = and_parts (eqb x.parent dir) (bytes_eq x.name name) e in
    (x, refl, eqb-true x.parent dir p.0, (bytes_eq-Decides x.name name).0 p.1)

pub find_named-Child : (nodes : Nodes) (dir : ℕ) (name : List ℕ) (n : ℕ) → find_named nodes dir name ≡ Some n → Child nodes dir name n
find_named-Child nodes dir name n e =
    let f = position-passes (is_named dir name) 0 nodes n e in
    let m = f.1 in
    let same : f.0 ≡ n = omega (arith, m) in
    let c = named-Child dir name (node_at nodes f.0) f.2 in
    record { node = c.0; at = ap (node_at nodes) (sym same) ∙ c.1; parent = c.2; name = c.3 }

child_passes : (nodes : Nodes) (dir : ℕ) (name : List ℕ) (n : ℕ) → Child nodes dir name n → is_named dir name (node_at nodes n) ≡ true
child_passes nodes dir name n c =
    ap (is_named dir name) c.at
    ∙ and_from (eqb c.node.parent dir) (bytes_eq c.node.name name) (eq-eqb c.node.parent dir c.parent) ((bytes_eq-Decides c.node.name name).1 c.name)

-- what is listed is found
pub Child-is_some : (nodes : Nodes) (dir : ℕ) (name : List ℕ) (n : ℕ) → Child nodes dir name n → is_some (find_named nodes dir name) ≡ true
Child-is_some nodes dir name n c = ap is_some (passes-position (is_named dir name) 0 nodes n refl (child_passes nodes dir name n c)).1

pub Child-find_named : (nodes : Nodes) → Names nodes → (dir : ℕ) (name : List ℕ) (n : ℕ) → Child nodes dir name n → find_named nodes dir name ≡ Some n
Child-find_named nodes names dir name n c =
    let f = passes-position (is_named dir name) 0 nodes n refl (child_passes nodes dir name n c) in
    let d = find_named-Child nodes dir name f.0 f.1 in
    f.1 ∙ ap Some (names f.0 n d.node c.node d.at c.at (d.parent ∙ sym c.parent) (d.name ∙ sym c.name))

-- a directory with an entry counts it
pub child-counts : (nodes : Nodes) (dir n : ℕ) (x : Node) → node_at nodes n ≡ Some x → x.parent ≡ dir → 0 < count_in nodes dir
child-counts nodes dir n x at parent = passes-count (is_in dir) nodes n refl (ap (is_in dir) at ∙ eq-eqb x.parent dir parent)

-- ---- paths

pub then_found-Some : (o : Option ℕ) (f : ℕ → Option ℕ) (n : ℕ) → then_found o f ≡ Some n → (m : ℕ) × (o ≡ Some m) × (f m ≡ Some n)
then_found-Some None f n e = absurd cc
then_found-Some (Some m) f n e = (m, refl, e)

-- a path goes on by what the file at its end lists
pub found-more : (nodes : Nodes) (at mid n : ℕ) (path rest : Path) → found_from nodes at path ≡ Some mid → found_from nodes mid rest ≡ Some n → found_from nodes at (path ++ rest) ≡ Some n
found-more nodes at mid n [] rest e f = (let same : at ≡ mid = cc e in ap (λ m. found_from nodes m rest) same ∙ f)
found-more nodes at mid n (name ∷ path) rest e f =
    let s = then_found-Some (find_named nodes at name) (λ child. found_from nodes child path) mid e in
    ap (λ o. then_found o (λ child. found_from nodes child (path ++ rest))) s.1 ∙ found-more nodes s.0 mid n path rest s.2 f

pub found-one : (nodes : Nodes) (at n : ℕ) (name : List ℕ) → find_named nodes at name ≡ Some n → found_from nodes at (name ∷ []) ≡ Some n
found-one nodes at n name e = ap (λ o. then_found o (λ child. Some child)) e

-- what holds of a file, and of each entry of a file of which it holds, holds of all that paths lead to from there
pub found-each : (nodes : Nodes) (P : ℕ → Type 0) → ((at mid : ℕ) (name : List ℕ) → P at → Child nodes at name mid → P mid) → (path : Path) (at n : ℕ) → found_from nodes at path ≡ Some n → P at → P n
found-each nodes P step [] at n e p = (let same : at ≡ n = cc e in subst P same p)
found-each nodes P step (name ∷ path) at n e p =
    let s = then_found-Some (find_named nodes at name) (λ child. found_from nodes child path) n e in
    found-each nodes P step path s.0 n s.2 (step at s.0 name p (find_named-Child nodes at name s.0 s.1))

-- ---- no file has two paths

-- the names from a file up to the root
abbrev pub Up : Nodes → ℕ → Path → Type 0
Up nodes n [] = n ≡ 1
Up nodes n (name ∷ names) = (x : Node) × (node_at nodes n ≡ Some x) × (x.name ≡ name) × Up nodes x.parent names

-- the names of a path on a way up, the last one first
abbrev pub turned : Path → Path → Path
turned [] seen = seen
turned (name ∷ names) seen = turned names (name ∷ seen)

pub found-up : (nodes : Nodes) (path : Path) (at n : ℕ) (seen : Path) → found_from nodes at path ≡ Some n → Up nodes at seen → Up nodes n (turned path seen)
found-up nodes [] at n seen e u = (let same : at ≡ n = cc e in subst (λ m. Up nodes m seen) same u)
found-up nodes (name ∷ path) at n seen e u =
    let s = then_found-Some (find_named nodes at name) (λ child. found_from nodes child path) n e in
    let c = find_named-Child nodes at name s.0 s.1 in
    found-up nodes path s.0 n (name ∷ seen) s.2 (c.node, c.at, c.name, subst (λ m. Up nodes m seen) (sym c.parent) u)

module _ (nodes : Nodes) (tree : IsTree nodes) where
  -- nothing lists the root
  pub root_unlisted : (n : ℕ) (name : List ℕ) (names : Path) → n ≡ 1 → Up nodes n (name ∷ names) → ⊥
  root_unlisted n name names one u =
      let same : u.0 ≡ tree.root.0 = one_node (node_at nodes 1) u.0 tree.root.0 (ap (node_at nodes) (sym one) ∙ u.1) tree.root.1 in
      let zero_up : Up nodes 0 names = subst (λ m. Up nodes m names) (ap (λ (x : Node). x.parent) same ∙ tree.root.3) u.3 in
      nowhere names zero_up
    where
      nowhere : (names : Path) → Up nodes 0 names → ⊥
      nowhere [] u = absurd cc
      nowhere (name ∷ names) u = (let wrong : None ≡ Some u.0 = sym tree.none ∙ u.1 in absurd (cc wrong))

  pub up_one : (n : ℕ) (p q : Path) → Up nodes n p → Up nodes n q → p ≡ q
  up_one n [] [] a b = refl
  up_one n [] (y ∷ q) a b = absurd (root_unlisted n y q a b)
  up_one n (x ∷ p) [] a b = absurd (root_unlisted n x p b a)
  up_one n (x ∷ p) (y ∷ q) a b =
      let same : a.0 ≡ b.0 = one_node (node_at nodes n) a.0 b.0 a.1 b.1 in
      let first : x ≡ y = sym a.2 ∙ ap (λ (z : Node). z.name) same ∙ b.2 in
      let rest : p ≡ q = up_one b.0.parent p q (subst (λ (z : Node). Up nodes z.parent p) same a.3) b.3 in
      ap (λ z. z ∷ p) first ∙ ap (λ l. y ∷ l) rest

  turned-back : (path seen : Path) → turned (turned path seen) [] ≡ turned seen path
  turned-back [] seen = refl
  turned-back (name ∷ path) seen = turned-back path (name ∷ seen)

  pub one_path : (n : ℕ) (p q : Path) → found_from nodes 1 p ≡ Some n → found_from nodes 1 q ≡ Some n → p ≡ q
  one_path n p q a b =
      let e : turned p [] ≡ turned q [] = up_one n (turned p []) (turned q []) (found-up nodes p 1 n [] a refl) (found-up nodes q 1 n [] b refl) in
      sym (turned-back p []) ∙ ap (λ l. turned l []) e ∙ turned-back q []

  pub path_found-is : (path : Path) → path_found nodes path ≡ found_from nodes 1 path
  path_found-is path = ap (λ o. cond (is_some o) (found_from nodes 1 path) None) tree.root.1

  -- a path leads to a live file
  pub found_live : (path : Path) (n : ℕ) → found_from nodes 1 path ≡ Some n → (x : Node) × (node_at nodes n ≡ Some x)
  found_live path n e =
      found-each nodes (λ m. (x : Node) × (node_at nodes m ≡ Some x)) (λ at mid name p c. (c.node, c.at)) path 1 n e (tree.root.0, tree.root.1)
