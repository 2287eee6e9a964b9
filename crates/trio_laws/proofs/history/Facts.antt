-- Lists under a test, and the nodes of a state by number.
use Rattle.trio_laws.proofs.Words.{◌++◌, ◌+◌, ◌<◌, ◌||◌, ◌∙◌, ◌∷◌, ◌≡◌, Bool, In, Kept, List, Node, None, Row, Some, State, [], ap, arith, both_ways, cases_lt, cond, false, false_from_ne_true, inl, inr, list_any, list_any-In, node_at, node_in, node_of, nodes_of, refl, row_at, same_Some, settled, sym, tabulated, tabulated-get, tabulated-past, tabulated-same, true, writer_of, ℕ}
use Rattle.std.proofs.Common.{find, filter}

pub any_same : {X : Type 0} (p q : X → Bool) (xs : List X) → ((x : X) → In x xs → p x ≡ q x) → list_any p xs ≡ list_any q xs
any_same p q [] h = refl
any_same p q (x ∷ xs) h = ap (λ b. b || list_any p xs) (h x (inl refl)) ∙ ap (λ b. q x || b) (any_same p q xs (λ y i. h y (inr i)))

pub any_none : {X : Type 0} (p : X → Bool) (xs : List X) → ((x : X) → In x xs → p x ≡ false) → list_any p xs ≡ false
any_none p xs h = false_from_ne_true (list_any p xs) (λ t. let a = list_any-In p xs t in both_ways (p a.0) (h a.0 a.1) a.2)

pub find_same : {X : Type 0} (p q : X → Bool) (xs : List X) → ((x : X) → p x ≡ q x) → find p xs ≡ find q xs
find_same p q [] h = refl
find_same p q (x ∷ xs) h = ap (λ b. cond b (Some x) (find p xs)) (h x) ∙ ap (cond (q x) (Some x)) (find_same p q xs h)

-- what is found at the end of a list
pub find_push : {X : Type 0} (p : X → Bool) (xs : List X) (y : X) → p y ≡ false → find p (xs ++ y ∷ []) ≡ find p xs
find_push p [] y h = ap (λ b. cond b (Some y) None) h
find_push p (x ∷ xs) y h = ap (cond (p x) (Some x)) (find_push p xs y h)

pub find_none : {X : Type 0} (p : X → Bool) (xs : List X) → ((x : X) → In x xs → p x ≡ false) → find p xs ≡ None
find_none p [] h = refl
find_none p (x ∷ xs) h = ap (λ b. cond b (Some x) (find p xs)) (h x (inl refl)) ∙ find_none p xs (λ y i. h y (inr i))

last_step : {X : Type 0} (p : X → Bool) (x : X) (xs : List X) (y : X) (b : Bool) → cond b (Some x) (find p xs) ≡ None → (find p xs ≡ None → find p (xs ++ y ∷ []) ≡ Some y) → cond b (Some x) (find p (xs ++ y ∷ [])) ≡ Some y
last_step p x xs y true e h = absurd cc
last_step p x xs y false e h = h e

pub find_last : {X : Type 0} (p : X → Bool) (xs : List X) (y : X) → find p xs ≡ None → p y ≡ true → find p (xs ++ y ∷ []) ≡ Some y
find_last p [] y h t = ap (λ b. cond b (Some y) None) t
find_last p (x ∷ xs) y h t = last_step p x xs y (p x) h (λ e. find_last p xs y e t)

dropped_step : {X : Type 0} (p q : X → Bool) (x : X) (xs : List X) (b : Bool) → (b ≡ false → p x ≡ false) → find p (filter q xs) ≡ find p xs → find p (cond b (x ∷ filter q xs) (filter q xs)) ≡ cond (p x) (Some x) (find p xs)
dropped_step p q x xs true h rest = ap (cond (p x) (Some x)) rest
dropped_step p q x xs false h rest = rest ∙ sym (ap (λ b. cond b (Some x) (find p xs)) (h refl))

-- a test that what is dropped fails
pub find_filter : {X : Type 0} (p q : X → Bool) (xs : List X) → ((x : X) → In x xs → q x ≡ false → p x ≡ false) → find p (filter q xs) ≡ find p xs
find_filter p q [] h = refl
find_filter p q (x ∷ xs) h = dropped_step p q x xs (q x) (h x (inl refl)) (find_filter p q xs (λ y i. h y (inr i)))

module _ (s : State) (k : Kept s) where
  -- no row is past the last number
  pub row_past_none : (n : ℕ) → s.home.core.inodes < n → row_at s.home n ≡ None
  row_past_none n l = search (arith, tabulated-past)

  -- the node of a number
  pub node_is : (n : ℕ) → node_at (nodes_of s) n ≡ node_in s n
  node_is n = search (arith, cases_lt, tabulated-get, tabulated-past, row_past_none)

-- nodes that are the same one by one
pub nodes_by_one : (s s' : State) → s'.home.core.inodes ≡ s.home.core.inodes → ((n : ℕ) → node_in s' n ≡ node_in s n) → nodes_of s' ≡ nodes_of s
nodes_by_one s s' count h = ap (λ c. tabulated (node_in s') (c + 1)) count ∙ tabulated-same (node_in s') (node_in s) (s.home.core.inodes + 1) h

-- a live node, by its row
pub record Live (s : State) (n : ℕ) (x : Node) : Type 0 where
  pub row : Row
  pub at : row_at s.home n ≡ Some row
  pub before : x ≡ node_of (settled s) n (writer_of s n) row

pub live : (s : State) → Kept s → (n : ℕ) (x : Node) → node_at (nodes_of s) n ≡ Some x → Live s n x
live s k n x there = search (arith, Live, node_is, same_Some)
