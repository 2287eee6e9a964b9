-- Facts on nodes by number.
use Rattle.std.proofs.Common.{◌≡◌, ℕ, zero, suc, ◌<◌, [], ◌∷◌, ◌++◌, length, set, Option, Some, None, refl, sym, ap, ◌∙◌, arith}
use Rattle.trio_nodes.specs.declared.node.Node.{Node}
use Rattle.trio_nodes.specs.Nodes.{Nodes, node_at, with_node}

-- what is put behind the end is put behind one place more
pub with_node-padded : (xs : Nodes) (n : ℕ) (x : Option Node) → length xs < n → with_node (xs ++ None ∷ []) n x ≡ with_node xs n x
with_node-padded [] zero x lt = absurd (omega arith)
with_node-padded [] (suc n) x lt = refl
with_node-padded (y ∷ ys) zero x lt = absurd (omega arith)
with_node-padded (y ∷ ys) (suc n) x lt = ap (λ l. y ∷ l) (with_node-padded ys n x (omega arith))

-- right behind the end
pub with_node-end : (xs : Nodes) (x : Option Node) → with_node xs (length xs) x ≡ xs ++ x ∷ []
with_node-end [] x = refl
with_node-end (y ∷ ys) x = ap (λ l. y ∷ l) (with_node-end ys x)

-- within the list
pub with_node-set : (xs : Nodes) (n : ℕ) (x : Option Node) → n < length xs → with_node xs n x ≡ set xs n x
with_node-set [] n x lt = absurd (omega arith)
with_node-set (y ∷ ys) zero x lt = refl
with_node-set (y ∷ ys) (suc n) x lt = ap (λ l. y ∷ l) (with_node-set ys n x (omega arith))

pub with_node-last : (xs : Nodes) (n : ℕ) (x : Option Node) → length xs ≡ n → xs ++ x ∷ [] ≡ with_node xs n x
with_node-last xs n x e = sym (with_node-end xs x) ∙ ap (λ k. with_node xs k x) e

-- a number with a node is within the list
pub node_at-within : (xs : Nodes) (n : ℕ) (x : Node) → node_at xs n ≡ Some x → n < length xs
node_at-within [] n x e = absurd cc
node_at-within (y ∷ ys) zero x e = omega arith
node_at-within (y ∷ ys) (suc n) x e = let more : n < length ys = node_at-within ys n x e in omega arith

-- a change of a node that is there
pub set-with_node : (xs : Nodes) (n : ℕ) (x : Node) (y : Option Node) → node_at xs n ≡ Some x → set xs n y ≡ with_node xs n y
set-with_node xs n x y e = sym (with_node-set xs n y (node_at-within xs n x e))

-- the number has what was put there
pub with_node-same : (xs : Nodes) (n : ℕ) (x : Option Node) → node_at (with_node xs n x) n ≡ x
with_node-same [] zero x = refl
with_node-same [] (suc n) x = with_node-same [] n x
with_node-same (y ∷ ys) zero x = refl
with_node-same (y ∷ ys) (suc n) x = with_node-same ys n x

-- and any other what it had
pub with_node-else : (xs : Nodes) (n m : ℕ) (x : Option Node) → (m ≡ n → ⊥) → node_at (with_node xs n x) m ≡ node_at xs m
with_node-else [] zero zero x d = absurd (d refl)
with_node-else [] zero (suc m) x d = refl
with_node-else [] (suc n) zero x d = refl
with_node-else [] (suc n) (suc m) x d = with_node-else [] n m x (λ e. d (ap suc e))
with_node-else (y ∷ ys) zero zero x d = absurd (d refl)
with_node-else (y ∷ ys) zero (suc m) x d = refl
with_node-else (y ∷ ys) (suc n) zero x d = refl
with_node-else (y ∷ ys) (suc n) (suc m) x d = with_node-else ys n m x (λ e. d (ap suc e))
