-- A way up to the root is a climb, of no more steps than there are numbers.
use Rattle.trio_laws.proofs.Words.{◌++◌, ◌<◌, ◌∙◌, ◌∷◌, ◌≡◌, ◌≤◌, In, In-cases, IsTree, List, Node, Nodes, Path, Some, Up, [], and_from, ap, are_new, arith, climbs, eq-eqb, eqb, inl, inr, is_among, is_among-not, length, node_at, not, not_from_false, or_right, pigeons, refl, some_one, subst, suc, sym, true, ℕ}
use Rattle.trio_onetree.proofs.Children.{turned, found-up, root_unlisted, up_one, path_found-is}

module _ (nodes : Nodes) (tree : IsTree nodes) where
  -- each node has a way up
  pub way_of : (n : ℕ) (x : Node) → node_at nodes n ≡ Some x → (names : Path) × Up nodes n names
  way_of n x at =
      let p = tree.found n x at in
      (turned p.0 [], found-up nodes p.0 1 n [] (sym (path_found-is nodes tree p.0) ∙ p.1) refl)

  -- the numbers on a way
  on_way : (n : ℕ) (names : Path) → Up nodes n names → List ℕ
  on_way n [] w = n ∷ []
  on_way n (name ∷ names) w = n ∷ on_way w.0.parent names w.3

  -- from each number on a way the rest is a way
  rest_way : (n : ℕ) (names : Path) (w : Up nodes n names) (q : ℕ) → In q (on_way n names w)
      → (rest : Path) × Up nodes q rest × (length rest ≤ length names)
  unfolding on_way
  rest_way n [] w q (inl e) = (let z : Path = [] in let l : length z ≤ length z = omega arith in (z, e ∙ w, l))
  rest_way n [] w q (inr i) = absurd i
  rest_way n (name ∷ names) w q (inl e) =
      (let l : suc (length names) ≤ suc (length names) = omega arith in (name ∷ names, subst (λ k. Up nodes k (name ∷ names)) (sym e) w, l))
  rest_way n (name ∷ names) w q (inr i) =
      let r = rest_way w.0.parent names w.3 q i in
      let less : length r.0 ≤ length names = r.2 in
      let l : length r.0 ≤ suc (length names) = omega (arith, less) in
      (r.0, r.1, l)

  -- a number isn't met again further up
  not_again : (n : ℕ) (name : List ℕ) (names : Path) (w : Up nodes n (name ∷ names)) → In n (on_way w.0.parent names w.3) → ⊥
  not_again n name names w i =
      let r = rest_way w.0.parent names w.3 n i in
      let same : r.0 ≡ name ∷ names = up_one nodes tree n r.0 (name ∷ names) r.1 w in
      let long : length r.0 ≡ suc (length names) = ap length same in
      let less : length r.0 ≤ length names = r.2 in
      omega (arith, long, less)

  -- no node is its own parent
  pub own_parent : (n : ℕ) (x : Node) → node_at nodes n ≡ Some x → x.parent ≡ n → ⊥
  unfolding on_way
  own_parent n x at own =
      let w = way_of n x at in by w.0 w.1
    where
      first : (q : ℕ) (names : Path) (w : Up nodes q names) → In q (on_way q names w)
      first q [] w = inl refl
      first q (name ∷ names) w = inl refl

      by : (names : Path) → Up nodes n names → ⊥
      by [] w =
          let same : x ≡ tree.root.0 = some_one (node_at nodes 1) x tree.root.0 (ap (node_at nodes) (sym w) ∙ at) tree.root.1 in
          let zero' : 0 ≡ 1 = sym (ap (λ (z : Node). z.parent) same ∙ tree.root.3) ∙ own ∙ w in
          absurd (cc zero')
      by (name ∷ names) w =
          let same : w.0 ≡ x = some_one (node_at nodes n) w.0 x w.1 at in
          let up : w.0.parent ≡ n = ap (λ (z : Node). z.parent) same ∙ own in
          not_again n name names w (subst (λ k. In k (on_way w.0.parent names w.3)) up (first w.0.parent names w.3))

  way_new : (n : ℕ) (names : Path) (w : Up nodes n names) (seen : List ℕ) → ((q : ℕ) → In q (on_way n names w) → In q seen → ⊥) → are_new seen (on_way n names w) ≡ true
  unfolding on_way
  way_new n [] w seen apart =
      and_from (not (is_among n seen)) true (not_from_false (is_among n seen) (is_among-not n seen (λ i. apart n (inl refl) i))) refl
  way_new n (name ∷ names) w seen apart =
      and_from (not (is_among n seen)) (are_new (seen ++ n ∷ []) (on_way w.0.parent names w.3))
      (not_from_false (is_among n seen) (is_among-not n seen (λ i. apart n (inl refl) i)))
      (way_new w.0.parent names w.3 (seen ++ n ∷ [])
      (λ q i j. elim (In-cases q seen (n ∷ []) j) [
        | inl before ↦ apart q (inr i) before
        | inr here ↦ elim here [ inl e ↦ not_again n name names w (subst (λ k. In k (on_way w.0.parent names w.3)) e i) | inr no' ↦ no' ]
      ]))

  way_length : (n : ℕ) (names : Path) (w : Up nodes n names) → length (on_way n names w) ≡ suc (length names)
  unfolding on_way
  way_length n [] w = refl
  way_length n (name ∷ names) w = ap suc (way_length w.0.parent names w.3)

  -- a number from which there is a way has a node
  way_live : (q : ℕ) (names : Path) → Up nodes q names → (x : Node) × (node_at nodes q ≡ Some x)
  way_live q [] w = (tree.root.0, ap (node_at nodes) w ∙ tree.root.1)
  way_live q (name ∷ names) w = (w.0, w.1)

  module _ (bound : ℕ) (inside : (n : ℕ) (x : Node) → node_at nodes n ≡ Some x → n < bound) where
    -- a way is shorter than there are numbers
    pub way_short : (n : ℕ) (names : Path) → Up nodes n names → length names < bound
    way_short n names w =
        let few : length (on_way n names w) ≤ bound =
        pigeons bound (on_way n names w) (way_new n names w [] (λ q i j. j))
        (λ q i. (let r = rest_way n names w q i in let x = way_live q r.0 r.1 in inside q x.0 x.1)) in
        let long : length (on_way n names w) ≡ suc (length names) = way_length n names w in
        omega (arith, few, long)

  -- a way is a climb over any parents that are those of the nodes
  pub way_climbs : (parent : ℕ → ℕ) → ((n : ℕ) (x : Node) → node_at nodes n ≡ Some x → (n ≡ 1 → ⊥) → parent n ≡ x.parent)
      → (n : ℕ) (names : Path) → Up nodes n names → climbs parent (length names) n ≡ true
  way_climbs parent same n [] w = eq-eqb n 1 w
  way_climbs parent same n (name ∷ names) w =
      or_right (eqb n 1) (climbs parent (length names) (parent n))
      (ap (climbs parent (length names)) (same n w.0 w.1 (λ one. root_unlisted nodes tree n name names one w)) ∙ way_climbs parent same w.0.parent names w.3)
