-- Membership by recursion, and what a step over an answer came from.
use Rattle.std.proofs.Common.{◌≡◌, ℕ, Bool, true, eqb, List, [], ◌∷◌, ◌++◌, Option, Some, None, Result, Ok, Err, is_ok, sym, refl, ap, ◌∙◌, subst, inl, inr, ◌⊎◌}
use Rattle.std.specs.Prelude.{map}
use Rattle.std.specs.List.{flat_map, list_all}
use Rattle.std.specs.Option.{option_and_then}
use Rattle.std.proofs.lemmas.Bool.{and_parts, and_from, or_cases, or_left, or_right, eqb-true, eq-eqb, false≢true}
use Rattle.trio_lists.specs.Lists.{In, is_among, result_map, result_then, both, there_or}

pub In-left : {X : Type 0} (x : X) (xs ys : List X) → In x xs → In x (xs ++ ys)
In-left x [] ys h = absurd h
In-left x (y ∷ xs) ys (inl e) = inl e
In-left x (y ∷ xs) ys (inr h) = inr (In-left x xs ys h)

pub In-right : {X : Type 0} (x : X) (xs ys : List X) → In x ys → In x (xs ++ ys)
In-right x [] ys h = h
In-right x (y ∷ xs) ys h = inr (In-right x xs ys h)

pub In-cases : {X : Type 0} (x : X) (xs ys : List X) → In x (xs ++ ys) → In x xs ⊎ In x ys
In-cases x [] ys h = inr h
In-cases x (y ∷ xs) ys (inl e) = inl (inl e)
In-cases x (y ∷ xs) ys (inr h) = elim (In-cases x xs ys h) [ inl a ↦ inl (inr a) | inr b ↦ inr b ]

pub In-flat : {X Y : Type 0} (f : X → List Y) (x : X) (y : Y) (xs : List X) → In x xs → In y (f x) → In y (flat_map f xs)
In-flat f x y [] h k = absurd h
In-flat f x y (z ∷ zs) (inl e) k = In-left y (f z) (flat_map f zs) (subst (λ w. In y (f w)) e k)
In-flat f x y (z ∷ zs) (inr h) k = In-right y (f z) (flat_map f zs) (In-flat f x y zs h k)

pub flat_map-In : {X Y : Type 0} (f : X → List Y) (y : Y) (xs : List X) → In y (flat_map f xs) → (x : X) × In x xs × In y (f x)
flat_map-In f y [] h = absurd h
flat_map-In f y (z ∷ zs) h =
    elim (In-cases y (f z) (flat_map f zs) h) [
      | inl a ↦ (z, inl refl, a)
      | inr b ↦ let r = flat_map-In f y zs b in (r.0, inr r.1, r.2)
    ]

pub In-map : {X Y : Type 0} (f : X → Y) (x : X) (xs : List X) → In x xs → In (f x) (map f xs)
In-map f x [] h = absurd h
In-map f x (z ∷ zs) (inl e) = inl (ap f e)
In-map f x (z ∷ zs) (inr h) = inr (In-map f x zs h)

pub map-In : {X Y : Type 0} (f : X → Y) (y : Y) (xs : List X) → In y (map f xs) → (x : X) × In x xs × (y ≡ f x)
map-In f y [] h = absurd h
map-In f y (z ∷ zs) (inl e) = (z, inl refl, e)
map-In f y (z ∷ zs) (inr h) = let r = map-In f y zs h in (r.0, inr r.1, r.2)

pub In-is_among : (n : ℕ) (xs : List ℕ) → In n xs → is_among n xs ≡ true
In-is_among n [] h = absurd h
In-is_among n (x ∷ xs) (inl e) = or_left (eqb x n) (is_among n xs) (eq-eqb x n (sym e))
In-is_among n (x ∷ xs) (inr h) = or_right (eqb x n) (is_among n xs) (In-is_among n xs h)

pub is_among-In : (n : ℕ) (xs : List ℕ) → is_among n xs ≡ true → In n xs
is_among-In n [] h = absurd (false≢true h)
is_among-In n (x ∷ xs) h =
    elim (or_cases (eqb x n) (is_among n xs) h) [ inl e ↦ inl (sym (eqb-true x n e)) | inr k ↦ inr (is_among-In n xs k) ]

pub list_all-In : {X : Type 0} (p : X → Bool) (x : X) (xs : List X) → list_all p xs ≡ true → In x xs → p x ≡ true
list_all-In p x [] h k = absurd k
list_all-In p x (z ∷ zs) h (inl e) = ap p e ∙ (and_parts (p z) (list_all p zs) h).0
list_all-In p x (z ∷ zs) h (inr k) = list_all-In p x zs (and_parts (p z) (list_all p zs) h).1 k

pub list_all-each : {X : Type 0} (p : X → Bool) (xs : List X) → ((x : X) → In x xs → p x ≡ true) → list_all p xs ≡ true
list_all-each p [] h = refl
list_all-each p (z ∷ zs) h = and_from (p z) (list_all p zs) (h z (inl refl)) (list_all-each p zs (λ x k. h x (inr k)))

pub flat_map-same : {X Y : Type 0} (f g : X → List Y) (xs : List X) → ((x : X) → In x xs → f x ≡ g x) → flat_map f xs ≡ flat_map g xs
flat_map-same f g [] h = refl
flat_map-same f g (x ∷ xs) h =
    ap (λ l. l ++ flat_map f xs) (h x (inl refl)) ∙ ap (λ l. g x ++ l) (flat_map-same f g xs (λ y k. h y (inr k)))

-- what a step over an option or an answer came from
pub option_and_then-Some : {X Y : Type 0} (f : X → Option Y) (o : Option X) (y : Y) → option_and_then f o ≡ Some y → (x : X) × (o ≡ Some x) × (f x ≡ Some y)
option_and_then-Some f None y e = absurd cc
option_and_then-Some f (Some x) y e = (x, refl, e)

pub result_then-Ok : {X Y E : Type 0} (f : X → Result Y E) (r : Result X E) (y : Y) → result_then f r ≡ Ok y → (x : X) × (r ≡ Ok x) × (f x ≡ Ok y)
result_then-Ok f (Err e) y h = absurd cc
result_then-Ok f (Ok x) y h = (x, refl, h)

pub result_map-Ok : {X Y E : Type 0} (f : X → Y) (r : Result X E) (y : Y) → result_map f r ≡ Ok y → (x : X) × (r ≡ Ok x) × (f x ≡ y)
result_map-Ok f (Err e) y h = absurd cc
result_map-Ok f (Ok x) y h = (x, refl, cc)

pub both-Ok : {X E : Type 0} (q r : Result (List X) E) (ls : List X) → both q r ≡ Ok ls → (xs : List X) × (ys : List X) × (q ≡ Ok xs) × (r ≡ Ok ys) × (xs ++ ys ≡ ls)
both-Ok (Err a) r ls e = absurd cc
both-Ok (Ok xs) (Err b) ls e = absurd cc
both-Ok (Ok xs) (Ok ys) ls e = (xs, ys, refl, refl, cc)

pub there_or-Ok : {X E : Type 0} (place : E) (o : Option X) (x : X) → there_or place o ≡ Ok x → o ≡ Some x
there_or-Ok place None x e = absurd cc
there_or-Ok place (Some y) x e = cc e

-- the value of an answer that is one
pub is_ok-Ok : {X E : Type 0} (r : Result X E) → is_ok r ≡ true → (x : X) × (r ≡ Ok x)
is_ok-Ok (Err e) h = absurd (false≢true h)
is_ok-Ok (Ok x) h = (x, refl)
