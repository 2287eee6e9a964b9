-- A walk, step by step.
use Rattle.trio_onetree.proofs.Words.{◌++◌, ◌+◌, ◌<◌, ◌∷◌, ◌≡◌, Bool, Creds, Err, List, Nodes, NotFound, Ok, Path, Reply, [], drop, enter, false, find_named, get_or, length, need_at, ok_or, paths_of, refl, same_path, suc, sym, take, true, walk_from, ℕ}
use Rattle.std.proofs.Common.{Bor, add-one}
use Rattle.std.specs.List.{list_any}
use Rattle.std.proofs.Math.Seq.{drop-cons, take-suc}

-- ---- what a directory needs

-- whether a path is among those from a place on
abbrev pub among_rest : List (Bor Path) → Path → ℕ → Bool
among_rest writes passed i = list_any (same_path passed) (paths_of (drop i writes))

pub among_here : (writes : List (Bor Path)) (passed : Path) (i : ℕ) (d : Bor Path) → i < length writes → same_path passed (get_or writes i d).now ≡ true → among_rest writes passed i ≡ true
among_here writes passed i d lt is = rw (drop-cons writes i d lt, is) refl

pub among_later : (writes : List (Bor Path)) (passed : Path) (i : ℕ) (d : Bor Path) → i < length writes → same_path passed (get_or writes i d).now ≡ false → among_rest writes passed (i + 1) ≡ among_rest writes passed i
among_later writes passed i d lt is = rw (add-one, drop-cons writes i d lt, is) refl

-- ---- a walk

module _ (nodes : Nodes) (creds : Creds) (writes : List Path) where
  walk_cons : (passed : Path) (at : ℕ) (name : List ℕ) (names : Path) (dir child : ℕ)
      → enter nodes creds (need_at writes passed) at ≡ Ok dir → ok_or (find_named nodes dir name) NotFound ≡ Ok child
      → walk_from nodes creds writes passed at (name ∷ names) ≡ walk_from nodes creds writes (passed ++ name ∷ []) child names
  walk_cons passed at name names dir child p q = rw (p, q) refl

  pub walk_on : (path : Path) (i at dir child : ℕ) (d : List ℕ) → i < length path
      → enter nodes creds (need_at writes (take i path)) at ≡ Ok dir → ok_or (find_named nodes dir (get_or path i d)) NotFound ≡ Ok child
      → walk_from nodes creds writes (take (i + 1) path) child (drop (i + 1) path) ≡ walk_from nodes creds writes (take i path) at (drop i path)
  walk_on path i at dir child d lt p q =
      rw (add-one, take-suc path i d lt, drop-cons path i d lt) (sym (walk_cons (take i path) at (get_or path i d) (drop (suc i) path) dir child p q))

  pub walk_stopped : (path : Path) (i at : ℕ) (d : List ℕ) (reply : Reply) → i < length path
      → enter nodes creds (need_at writes (take i path)) at ≡ Err reply
      → walk_from nodes creds writes (take i path) at (drop i path) ≡ Err reply
  walk_stopped path i at d reply lt p = rw (drop-cons path i d lt, p) refl

  pub walk_lost : (path : Path) (i at dir : ℕ) (d : List ℕ) (reply : Reply) → i < length path
      → enter nodes creds (need_at writes (take i path)) at ≡ Ok dir → ok_or (find_named nodes dir (get_or path i d)) NotFound ≡ Err reply
      → walk_from nodes creds writes (take i path) at (drop i path) ≡ Err reply
  walk_lost path i at dir d reply lt p q = rw (drop-cons path i d lt, p, q) refl
