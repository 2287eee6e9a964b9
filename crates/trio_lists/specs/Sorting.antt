-- Lists in rising order of a key.
use Rattle.std.specs.Prelude.{ℕ, nat_le, List, [], ◌∷◌, if◌then◌else◌}
use Rattle.std.specs.Ordering.{nat_cmp, is_le}
use Rattle.std.specs.Cmp.Lexicographic.{slice_cmp}

-- the list with one more at its place in rising order
abbrev pub inserted_by : {X : Type 0} → (X → ℕ) → X → List X → List X
inserted_by key x [] = x ∷ []
inserted_by key x (y ∷ ys) = if nat_le (key x) (key y) then x ∷ (y ∷ ys) else y ∷ inserted_by key x ys

-- the list in rising order
abbrev pub sorted_by : {X : Type 0} → (X → ℕ) → List X → List X
sorted_by key [] = []
sorted_by key (x ∷ xs) = inserted_by key x (sorted_by key xs)

-- the list with one more at its place in the byte order of names
abbrev pub inserted_by_name : {X : Type 0} → (X → List ℕ) → X → List X → List X
inserted_by_name name x [] = x ∷ []
inserted_by_name name x (y ∷ ys) =
    if is_le (slice_cmp nat_cmp (name x) (name y)) then x ∷ (y ∷ ys) else y ∷ inserted_by_name name x ys

-- the list in the byte order of names
abbrev pub sorted_by_name : {X : Type 0} → (X → List ℕ) → List X → List X
sorted_by_name name [] = []
sorted_by_name name (x ∷ xs) = inserted_by_name name x (sorted_by_name name xs)
