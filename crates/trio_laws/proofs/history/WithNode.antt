-- Nodes with another at one number.
use Rattle.trio_laws.proofs.Words.{◌+◌, ◌<◌, ◌∷◌, ◌≡◌, ◌≤◌, Kept, Node, Nodes, None, Option, State, [], ap, arith, cases_eq, ext_get_or, length, node_at, node_in, nodes_of, refl, suc, tabulated-length, with_node, with_node-else, with_node-same, zero, ℕ}
use Rattle.trio_laws.proofs.history.Facts.{node_is}

pub with_length : (nodes : Nodes) (n : ℕ) (v : Option Node) → n < length nodes → length (with_node nodes n v) ≡ length nodes
with_length [] n v l = absurd (omega arith)
with_length (x ∷ xs) zero v l = refl
with_length (x ∷ xs) (suc n) v l = ap suc (with_length xs n v (omega arith))

-- lists of one length that say the same of every number
pub nodes_same : (a b : Nodes) → length a ≡ length b → ((n : ℕ) → node_at a n ≡ node_at b n) → a ≡ b
nodes_same a b l h = ext_get_or None a b l (λ n x. h n)

pub nodes_long : (s : State) → length (nodes_of s) ≡ s.home.core.inodes + 1
nodes_long s = tabulated-length (node_in s) (s.home.core.inodes + 1)

-- a state of which one node is another
pub nodes_with : (s s' : State) → Kept s → Kept s' → s'.home.core.inodes ≡ s.home.core.inodes → (n : ℕ) (v : Option Node) → n ≤ s.home.core.inodes → node_in s' n ≡ v → ((m : ℕ) → (m ≡ n → ⊥) → node_in s' m ≡ node_in s m) → nodes_of s' ≡ with_node (nodes_of s) n v
nodes_with s s' k k' count n v inside here else' = search (arith, nodes_long, with_length, nodes_same, cases_eq, node_is, with_node-same, with_node-else)
