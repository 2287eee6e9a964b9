-- The names of a directory in their order, from the entries that it lists.
use Rattle.trio_laws.proofs.Words.{◌++◌, ◌+◌, ◌∙◌, ◌∷◌, ◌≡◌, Bool, In, In-cases, In-left, In-map, In-right, Kind, List, Node, Nodes, None, Option, Some, [], ap, arith, bytes_eq-Decides, cond, cons_option, count_by, entry_in, eqb-true, false, false≢true, inl, inr, is_in, length, length-append, length-map, node_at, not, not-true, refl, some_one, subst, suc, sum_by-cons, sym, true, zero, ℕ}
use Rattle.std.proofs.Common.{map}
use Rattle.std.specs.List.{filter_map}
use Rattle.std.specs.Cmp.Lexicographic.{slice_cmp, texts_ties}
use Rattle.std.specs.Ordering.{nat_cmp, is_le, is_lt, is_eq, ordering_reverse}
use Rattle.std.specs.declared.cmp.Ordering.{Ordering}
use Rattle.std.specs.declared.cmp.Ordering.TheVariants.{Equal}
use Rattle.std.proofs.lemmas.Cmp.{nat_list_cmp_total}
use Rattle.std.proofs.lemmas.List.Sorted.{ranks_by}
use Rattle.trio_lists.specs.Sorting.{inserted_by_name, sorted_by_name}
use Rattle.trio_nodes.specs.Nodes.{entry_name}
use Rattle.trio_laws.specs.session.DirCalls.{NamesInOrder, name_and_kind}

-- ---- the order of names

turned_le : (o : Ordering) → is_le (ordering_reverse o) ≡ not (is_lt o)
turned_le o = search arith

one_way : (o : Ordering) → (o ≡ Equal → ⊥) → is_le o ≡ not (is_le (ordering_reverse o))
one_way o differ = search arith

module _ {X : Type 0} (name : X → List ℕ) where
  abbrev le : X → X → Bool
  le x y = is_le (slice_cmp nat_cmp (name x) (name y))

  le-lt : (x y : X) → le x y ≡ not (is_lt (slice_cmp nat_cmp (name y) (name x)))
  le-lt x y = ap is_le (nat_list_cmp_total.antisymm (name x) (name y)) ∙ turned_le (slice_cmp nat_cmp (name y) (name x))

  le-trans : (x y z : X) → le x y ≡ true → le y z ≡ true → le x z ≡ true
  le-trans x y z a b = search (arith, le-lt, ranks_by, nat_list_cmp_total, not-true)

  le-one : (x y : X) → (name x ≡ name y → ⊥) → le y x ≡ not (le x y)
  le-one x y differ =
      one_way (slice_cmp nat_cmp (name y) (name x)) (λ e. differ (sym (same_name (name y) (name x) e)))
      ∙ ap (λ o. not (is_le o)) (sym (nat_list_cmp_total.antisymm (name x) (name y)))
    where
      same_name : (m n : List ℕ) → slice_cmp nat_cmp m n ≡ Equal → m ≡ n
      same_name m n e = (bytes_eq-Decides m n).0 (texts_ties m n ∙ ap is_eq e)

  -- ---- two that are inserted

  below : (x y : X) → le x y ≡ true → le y x ≡ false → (l : List X) → inserted_by_name name x (inserted_by_name name y l) ≡ inserted_by_name name y (inserted_by_name name x l)
  below x y xy yx [] =
      ap (λ t. cond t (x ∷ (y ∷ [])) (y ∷ (x ∷ []))) xy ∙ sym (ap (λ t. cond t (y ∷ (x ∷ [])) (x ∷ (y ∷ []))) yx)
  below x y xy yx (z ∷ zs) = by (le x z) (le y z) refl refl (below x y xy yx zs)
    where
      by : (a b : Bool) → le x z ≡ a → le y z ≡ b → inserted_by_name name x (inserted_by_name name y zs) ≡ inserted_by_name name y (inserted_by_name name x zs)
          → inserted_by_name name x (inserted_by_name name y (z ∷ zs)) ≡ inserted_by_name name y (inserted_by_name name x (z ∷ zs))
      by a b p q again = search (arith, false≢true, le-trans)

  inserted-inserted : (x y : X) → (name x ≡ name y → ⊥) → (l : List X) → inserted_by_name name x (inserted_by_name name y l) ≡ inserted_by_name name y (inserted_by_name name x l)
  inserted-inserted x y differ l = search (arith, below, le-one)

  sorted-past : (x : X) (front back : List X) → ((z : X) → In z front → name x ≡ name z → ⊥)
      → sorted_by_name name (front ++ x ∷ back) ≡ inserted_by_name name x (sorted_by_name name (front ++ back))
  sorted-past x [] back differ = refl
  sorted-past x (z ∷ front) back differ =
      ap (inserted_by_name name z) (sorted-past x front back (λ w i. differ w (inr i)))
      ∙ inserted-inserted z x (λ e. differ z (inl refl) (sym e)) (sorted_by_name name (front ++ back))

  -- ---- two lists with the same members

  -- no two elements have one name
  abbrev pub AreApart : List X → Type 0
  AreApart [] = Unit {0}
  AreApart (x ∷ xs) = ((z : X) → In z xs → name x ≡ name z → ⊥) × AreApart xs

  In-split : (x : X) (xs : List X) → In x xs → (front : List X) × (back : List X) × (xs ≡ front ++ x ∷ back)
  In-split x [] i = absurd i
  In-split x (y ∷ xs) (inl e) = ([], xs, ap (λ z. z ∷ xs) (sym e))
  In-split x (y ∷ xs) (inr i) = (let s = In-split x xs i in (y ∷ s.0, s.1, ap (λ l. y ∷ l) s.2))

  In-without : (x z : X) (front back : List X) → (z ≡ x → ⊥) → In z (front ++ x ∷ back) → In z (front ++ back)
  In-without x z front back differ i =
      elim (In-cases z front (x ∷ back) i) [
        | inl a ↦ In-left z front back a
        | inr b ↦ elim b [ inl e ↦ absurd (differ e) | inr c ↦ In-right z front back c ]
      ]

  pub sorted_by_name-same : (xs ys : List X) → AreApart xs → ((z : X) → In z xs → In z ys) → length ys ≡ length xs
      → (sorted_by_name name ys ≡ sorted_by_name name xs) × ((z : X) → In z ys → In z xs)
  sorted_by_name-same [] [] apart sub long = (refl, λ z i. i)
  sorted_by_name-same [] (y ∷ ys) apart sub long = absurd (omega (arith, long))
  sorted_by_name-same (x ∷ xs) ys apart sub long =
      let s = In-split x ys (sub x (inl refl)) in
      let front : List X = s.0 in
      let back : List X = s.1 in
      let more : (z : X) → In z xs → In z (front ++ back) =
      λ z i. In-without x z front back (λ e. apart.0 z i (ap name (sym e))) (subst (λ l. In z l) s.2 (sub z (inr i))) in
      let a = ap length s.2 in
      let b = length-append front (x ∷ back) in
      let c = length-append front back in
      let left : length (front ++ back) ≡ length xs = omega (arith, a, b, c, long) in
      let ih = sorted_by_name-same xs (front ++ back) apart.1 more left in (
        ap (sorted_by_name name) s.2 ∙ sorted-past x front back (λ z i. apart.0 z (ih.1 z (In-left z front back i))) ∙ ap (inserted_by_name name x) ih.0,
        λ z i. elim (In-cases z front (x ∷ back) (subst (λ l. In z l) s.2 i)) [
          | inl p ↦ inr (ih.1 z (In-left z front back p))
          | inr q ↦ elim q [ inl e ↦ inl e | inr r ↦ inr (ih.1 z (In-right z front back r)) ]
        ],
      )

-- ---- the nodes of a directory

-- an entry is that of a node in the directory
entry_in-Some : (dir : ℕ) (o : Option Node) (e : List ℕ × Kind) → entry_in dir o ≡ Some e → (x : Node) × (o ≡ Some x) × (x.parent ≡ dir) × ((x.name, x.kind) ≡ e)
entry_in-Some dir o e t = search (arith, eqb-true)

entries_are : (dir : ℕ) (nodes : Nodes) (e : List ℕ × Kind) → In e (filter_map (entry_in dir) nodes)
    → (n : ℕ) × (x : Node) × (node_at nodes n ≡ Some x) × (x.parent ≡ dir) × ((x.name, x.kind) ≡ e)
entries_are dir [] e i = absurd i
entries_are dir (o ∷ nodes) e i = by (entries_are dir nodes e) (entry_in dir o) refl i
  where
    by : (In e (filter_map (entry_in dir) nodes) → (n : ℕ) × (x : Node) × (node_at nodes n ≡ Some x) × (x.parent ≡ dir) × ((x.name, x.kind) ≡ e))
        → (p : Option (List ℕ × Kind)) → entry_in dir o ≡ p → In e (cons_option p (filter_map (entry_in dir) nodes))
        → (n : ℕ) × (x : Node) × (node_at (o ∷ nodes) n ≡ Some x) × (x.parent ≡ dir) × ((x.name, x.kind) ≡ e)
    by again None t j = (let r = again j in (suc r.0, r.1, r.2, r.3, r.4))
    by again (Some k) t (inl same) = (let r = entry_in-Some dir o k t in (zero, r.0, r.1, r.2, r.3 ∙ sym same))
    by again (Some k) t (inr j) = (let r = again j in (suc r.0, r.1, r.2, r.3, r.4))

entries_apart : (dir : ℕ) (nodes : Nodes) → ((n m : ℕ) (x y : Node) → node_at nodes n ≡ Some x → node_at nodes m ≡ Some y → x.parent ≡ y.parent → x.name ≡ y.name → n ≡ m)
    → AreApart entry_name (filter_map (entry_in dir) nodes)
entries_apart dir [] one = tt
entries_apart dir (o ∷ nodes) one =
    by (entries_apart dir nodes (λ n m x y a b p q. (let e : suc n ≡ suc m = one (suc n) (suc m) x y a b p q in omega (arith, e)))) (entry_in dir o) refl
  where
    by : AreApart entry_name (filter_map (entry_in dir) nodes) → (p : Option (List ℕ × Kind)) → entry_in dir o ≡ p
        → AreApart entry_name (cons_option p (filter_map (entry_in dir) nodes))
    by rest None t = rest
    by rest (Some k) t =
        let here = entry_in-Some dir o k t in (
          λ z i same.
              let there = entries_are dir nodes z i in
              let name : here.0.name ≡ there.1.name = ap entry_name here.3 ∙ same ∙ sym (ap entry_name there.4) in
              let wrong : zero ≡ suc there.0 = one zero (suc there.0) here.0 there.1 here.1 there.2 (here.2 ∙ sym there.3) name in
              omega (arith, wrong),
          rest,
        )

entries_count : (dir : ℕ) (nodes : Nodes) → length (filter_map (entry_in dir) nodes) ≡ count_by (is_in dir) nodes
entries_count dir [] = refl
entries_count dir (o ∷ nodes) = by o (entries_count dir nodes) ∙ sym (sum_by-cons (λ y. cond (is_in dir y) 1 0) o nodes)
  where
    by : (p : Option Node) → length (filter_map (entry_in dir) nodes) ≡ count_by (is_in dir) nodes
        → length (cons_option (entry_in dir p) (filter_map (entry_in dir) nodes)) ≡ cond (is_in dir p) 1 0 + count_by (is_in dir) nodes
    by p ih = search arith

pub names_in_order : NamesInOrder
names_in_order nodes dir entries tree lists =
    sym (sorted_by_name-same entry_name (filter_map (entry_in dir) nodes) (map name_and_kind entries) (entries_apart dir nodes tree.names) among long).0
  where
    among : (e : List ℕ × Kind) → In e (filter_map (entry_in dir) nodes) → In e (map name_and_kind entries)
    among e i =
        let r = entries_are dir nodes e i in
        let l = lists.only r.0 r.1 r.2 r.3 in
        let x = lists.each l.0 l.1 in
        let one : x.0 ≡ r.1 = some_one (node_at nodes r.0) x.0 r.1 (ap (node_at nodes) (sym l.2) ∙ x.1) r.2 in
        let name : l.0.entry.name ≡ r.1.name = sym x.3 ∙ ap (λ (z : Node). z.name) one in
        let kind : l.0.entry.kind ≡ r.1.kind = sym x.4 ∙ ap (λ (z : Node). z.kind) one in
        let same : name_and_kind l.0 ≡ e = ap (λ m. (m, l.0.entry.kind)) name ∙ ap (λ k. (r.1.name, k)) kind ∙ r.4 in
        subst (λ z. In z (map name_and_kind entries)) same (In-map name_and_kind l.0 entries l.1)

    long : length (map name_and_kind entries) ≡ length (filter_map (entry_in dir) nodes)
    long = length-map entries name_and_kind ∙ sym lists.count ∙ sym (entries_count dir nodes)
