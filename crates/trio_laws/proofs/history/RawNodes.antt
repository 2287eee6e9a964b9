-- The nodes after a release, one by one.
use Rattle.trio_laws.proofs.Words.{◌*◌, ◌++◌, ◌+◌, ◌<◌, ◌∙◌, ◌∷◌, ◌≡◌, ◌≤◌, ◌⊎◌, List, Node, Nodes, None, Option, RawFile, Some, ToldBlock, [], arith, cases_eq, cond, cons_option, count_up, eqb, filter_map, inl, inr, length, node_at, put_within, raw_node, raw_nodes, refl, suc, with_blocks, with_node-else, with_node-same, zero, ℕ}
use Rattle.std.proofs.Common.{flat_map}
use Rattle.trio_laws.proofs.history.WithNode.{with_length}

-- what becomes of a node, by its file where there is one
abbrev pub becomes : List ToldBlock → Option RawFile → Option Node → Option Node
becomes bs None old = old
becomes bs (Some f) old = raw_node bs f old

abbrev pub part_of : (RawFile → List ToldBlock) → Option RawFile → List ToldBlock
part_of g None = []
part_of g (Some f) = g f

-- files by number
module _ (rf : ℕ → Option RawFile) (numbered : (n : ℕ) (f : RawFile) → rf n ≡ Some f → f.ino ≡ n) where
  -- numbers past these
  out_step : (bs : List ToldBlock) (from m : ℕ) (o : Option RawFile) (rest : List RawFile) → rf from ≡ o → (m ≡ from → ⊥) → ((nodes : Nodes) → node_at (raw_nodes bs rest nodes) m ≡ node_at nodes m) → (nodes : Nodes) → node_at (raw_nodes bs (cons_option o rest) nodes) m ≡ node_at nodes m
  out_step bs from m o rest e differ h nodes = search (arith, with_node-else)

  pub raw_out : (bs : List ToldBlock) (c from m : ℕ) → (m < from) ⊎ (from + c ≤ m) → (nodes : Nodes) → node_at (raw_nodes bs (filter_map rf (count_up from c)) nodes) m ≡ node_at nodes m
  raw_out bs zero from m out nodes = refl
  raw_out bs (suc c) from m out nodes =
      out_step bs from m (rf from) (filter_map rf (count_up (suc from) c)) refl
      (λ e. elim out [ inl l ↦ omega (arith, l, e) | inr g ↦ omega (arith, g, e) ])
      (raw_out bs c (suc from) m (elim out [ inl l ↦ inl (omega (arith, l)) | inr g ↦ inr (omega (arith, g)) ])) nodes

  here_step : (bs : List ToldBlock) (from : ℕ) (o : Option RawFile) (rest : List RawFile) → rf from ≡ o → ((nodes : Nodes) → node_at (raw_nodes bs rest nodes) from ≡ node_at nodes from) → (nodes : Nodes) → node_at (raw_nodes bs (cons_option o rest) nodes) from ≡ becomes bs o (node_at nodes from)
  here_step bs from o rest e h nodes = search (arith, with_node-same)

  past_step : (bs : List ToldBlock) (from m : ℕ) (o : Option RawFile) (rest : List RawFile) → rf from ≡ o → (m ≡ from → ⊥) → ((nodes : Nodes) → node_at (raw_nodes bs rest nodes) m ≡ becomes bs (rf m) (node_at nodes m)) → (nodes : Nodes) → node_at (raw_nodes bs (cons_option o rest) nodes) m ≡ becomes bs (rf m) (node_at nodes m)
  past_step bs from m o rest e differ h nodes = search (arith, with_node-else)

  pub raw_in : (bs : List ToldBlock) (c from m : ℕ) → from ≤ m → m < from + c → (nodes : Nodes) → node_at (raw_nodes bs (filter_map rf (count_up from c)) nodes) m ≡ becomes bs (rf m) (node_at nodes m)
  raw_in bs zero from m low high nodes = absurd (omega (arith, low, high))
  raw_in bs (suc c) from m low high nodes =
      elim (cases_eq m from) [
        | inl same ↦ search (arith, filter_map, here_step, raw_out)
        | inr differ ↦ past_step bs from m (rf from) (filter_map rf (count_up (suc from) c)) refl differ (raw_in bs c (suc from) m (omega (arith, low, differ)) (omega (arith, high))) nodes
      ]

  length_step : (bs : List ToldBlock) (from : ℕ) (o : Option RawFile) (rest : List RawFile) (n : ℕ) → rf from ≡ o → from < n → ((nodes : Nodes) → length nodes ≡ n → length (raw_nodes bs rest nodes) ≡ n) → (nodes : Nodes) → length nodes ≡ n → length (raw_nodes bs (cons_option o rest) nodes) ≡ n
  length_step bs from o rest n e l h nodes long = search (arith, with_length)

  pub raw_length : (bs : List ToldBlock) (c from n : ℕ) → from + c ≤ n → (nodes : Nodes) → length nodes ≡ n → length (raw_nodes bs (filter_map rf (count_up from c)) nodes) ≡ n
  raw_length bs zero from n h nodes long = long
  raw_length bs (suc c) from n h nodes long =
      length_step bs from (rf from) (filter_map rf (count_up (suc from) c)) n refl (omega (arith, h)) (raw_length bs c (suc from) n (omega (arith, h))) nodes long

  -- ---- blocks of one file among those of all

  module _ (g : RawFile → List ToldBlock) (own : (f : RawFile) (m : ℕ) (x : List ℕ) → (f.ino ≡ m → ⊥) → with_blocks m (g f) x ≡ x) where
    blocks_append : (m : ℕ) (xs ys : List ToldBlock) (x : List ℕ) → with_blocks m (xs ++ ys) x ≡ with_blocks m ys (with_blocks m xs x)
    blocks_append m [] ys x = refl
    blocks_append m (b ∷ bs) ys x = blocks_append m bs ys (cond (eqb b.ino m) (put_within (4096 * b.at) b.bytes x) x)

    blocks_step : (from m : ℕ) (o : Option RawFile) (rest : List RawFile) (x : List ℕ) → rf from ≡ o → (m ≡ from → ⊥) → with_blocks m (flat_map g (cons_option o rest)) x ≡ with_blocks m (flat_map g rest) x
    blocks_step from m o rest x e differ = search (arith, blocks_append)

    pub blocks_out : (c from m : ℕ) → (m < from) ⊎ (from + c ≤ m) → (x : List ℕ) → with_blocks m (flat_map g (filter_map rf (count_up from c))) x ≡ x
    blocks_out zero from m out x = refl
    blocks_out (suc c) from m out x =
        blocks_step from m (rf from) (filter_map rf (count_up (suc from) c)) x refl
        (λ e. elim out [ inl l ↦ omega (arith, l, e) | inr g ↦ omega (arith, g, e) ])
        ∙ blocks_out c (suc from) m (elim out [ inl l ↦ inl (omega (arith, l)) | inr g ↦ inr (omega (arith, g)) ]) x

    blocks_here : (m : ℕ) (o : Option RawFile) (rest : List RawFile) → ((x : List ℕ) → with_blocks m (flat_map g rest) x ≡ x) → (x : List ℕ) → with_blocks m (flat_map g (cons_option o rest)) x ≡ with_blocks m (part_of g o) x
    blocks_here m None rest h x = h x
    blocks_here m (Some f) rest h x = blocks_append m (g f) (flat_map g rest) x ∙ h (with_blocks m (g f) x)

    pub blocks_in : (c from m : ℕ) → from ≤ m → m < from + c → (x : List ℕ) → with_blocks m (flat_map g (filter_map rf (count_up from c))) x ≡ with_blocks m (part_of g (rf m)) x
    blocks_in zero from m low high x = absurd (omega (arith, low, high))
    blocks_in (suc c) from m low high x =
        elim (cases_eq m from) [
          | inl same ↦ search (arith, filter_map, blocks_here, blocks_out)
          | inr differ ↦
              blocks_step from m (rf from) (filter_map rf (count_up (suc from) c)) x refl differ
              ∙ blocks_in c (suc from) m (omega (arith, low, differ)) (omega (arith, high)) x
        ]
