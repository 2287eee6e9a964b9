-- Words on lists that the definitions share.
use Rattle.std.specs.Prelude.{ℕ, zero, suc, ◌≡◌, ◌==◌, ◌⊎◌, Bool, true, not, ◌&&◌, List, [], ◌∷◌, ◌++◌, Option, None, Some, Result, Ok, Err}
use Rattle.std.specs.List.{list_any}

-- the element stands in the list
abbrev pub In : {X : Type 0} → X → List X → Type 0
In x [] = ⊥
In x (y ∷ ys) = (x ≡ y) ⊎ In x ys

-- the number stands in the list
abbrev pub is_among : ℕ → List ℕ → Bool
is_among n xs = list_any (λ x. x == n) xs

-- none of the numbers is among those seen, or stands earlier in the list
abbrev pub are_new : List ℕ → List ℕ → Bool
are_new seen [] = true
are_new seen (x ∷ xs) = not (is_among x seen) && are_new (seen ++ x ∷ []) xs

-- what is made of an answer, and the fault as it is
abbrev pub result_map : {X Y E : Type 0} → (X → Y) → Result X E → Result Y E
result_map f (Ok x) = Ok (f x)
result_map f (Err e) = Err e

-- a further step after an answer; a fault ends it
abbrev pub result_then : {X Y E : Type 0} → (X → Result Y E) → Result X E → Result Y E
result_then f (Ok x) = f x
result_then f (Err e) = Err e

-- what is there, or a fault where nothing is
abbrev pub there_or : {X E : Type 0} → E → Option X → Result X E
there_or fault None = Err fault
there_or fault (Some x) = Ok x

-- two lists one after the other, or the first fault
abbrev pub both : {X E : Type 0} → Result (List X) E → Result (List X) E → Result (List X) E
both (Err e) q = Err e
both (Ok xs) (Err e) = Err e
both (Ok xs) (Ok ys) = Ok (xs ++ ys)

-- what f gives of each element, one after another, or the first fault
abbrev pub gathered : {X Y E : Type 0} → (X → Result (List Y) E) → List X → Result (List Y) E
gathered f [] = Ok []
gathered f (x ∷ xs) = both (f x) (gathered f xs)

-- the same for the numbers below n
abbrev pub gathered_below : {Y E : Type 0} → (ℕ → Result (List Y) E) → ℕ → Result (List Y) E
gathered_below f zero = Ok []
gathered_below f (suc n) = both (gathered_below f n) (f n)

-- f of each number below n
abbrev pub tabulated : {X : Type 0} → (ℕ → X) → ℕ → List X
tabulated f zero = []
tabulated f (suc n) = tabulated f n ++ f n ∷ []
