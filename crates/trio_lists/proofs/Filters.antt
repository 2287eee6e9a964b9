-- What a filter keeps, and what stands in a list by its places.
use Rattle.std.proofs.Common.{◌≡◌, Bool, true, false, cond, List, [], ◌∷◌, Result, Ok, Err, sym, refl, ap, ◌∙◌, inl, inr, ◌⊎◌, ℕ, suc, zero, ◌<◌, length, get_or, subst, arith, Some, ◌||◌, Option, None}
use Rattle.std.specs.List.{filter, list_any, find}
use Rattle.std.proofs.lemmas.Bool.{both_ways, or_cases, or_left, or_right, false≢true}
use Rattle.trio_lists.specs.Lists.{In}
use Rattle.std.specs.Prelude.{AllPairs, map}

-- an answer is one value
pub Ok-one : {X E : Type 0} (o : Result X E) (x y : X) → o ≡ Ok x → o ≡ Ok y → x ≡ y
Ok-one (Ok z) x y e f = (let a : z ≡ x = cc e in let b : z ≡ y = cc f in sym a ∙ b)
Ok-one (Err p) x y e f = absurd cc

filter-In-case : {X : Type 0} (p : X → Bool) (x z : X) (zs : List X) (b : Bool) → p z ≡ b → (In x (filter p zs) → In x zs × (p x ≡ true)) → In x (cond b (z ∷ filter p zs) (filter p zs)) → ((x ≡ z) ⊎ In x zs) × (p x ≡ true)
filter-In-case p x z zs true t h (inl s) = (inl s, ap p s ∙ t)
filter-In-case p x z zs true t h (inr i) = let r = h i in (inr r.0, r.1)
filter-In-case p x z zs false t h i = let r = h i in (inr r.0, r.1)

pub filter-In : {X : Type 0} (p : X → Bool) (x : X) (xs : List X) → In x (filter p xs) → In x xs × (p x ≡ true)
filter-In p x [] i = absurd i
filter-In p x (z ∷ zs) i = filter-In-case p x z zs (p z) refl (filter-In p x zs) i

In-filter-case : {X : Type 0} (p : X → Bool) (x z : X) (zs : List X) (b : Bool) → p z ≡ b → p x ≡ true → (In x zs → In x (filter p zs)) → (x ≡ z) ⊎ In x zs → In x (cond b (z ∷ filter p zs) (filter p zs))
In-filter-case p x z zs true t e h (inl s) = inl s
In-filter-case p x z zs true t e h (inr i) = inr (h i)
In-filter-case p x z zs false t e h (inl s) = absurd (both_ways (p z) t (ap p (sym s) ∙ e))
In-filter-case p x z zs false t e h (inr i) = h i

pub In-filter : {X : Type 0} (p : X → Bool) (x : X) (xs : List X) → In x xs → p x ≡ true → In x (filter p xs)
In-filter p x [] i e = absurd i
In-filter p x (z ∷ zs) i e = In-filter-case p x z zs (p z) refl e (λ j. In-filter p x zs j e) i

pub filter-none : {X : Type 0} (p : X → Bool) (xs : List X) → ((x : X) → In x xs → p x ≡ false) → filter p xs ≡ []
filter-none p [] h = refl
filter-none p (x ∷ xs) h = ap (λ t. cond t (x ∷ filter p xs) (filter p xs)) (h x (inl refl)) ∙ filter-none p xs (λ y i. h y (inr i))

pub In-list_any : {X : Type 0} (p : X → Bool) (x : X) (xs : List X) → In x xs → p x ≡ true → list_any p xs ≡ true
In-list_any p x [] i e = absurd i
In-list_any p x (z ∷ zs) (inl s) e = or_left (p z) (list_any p zs) (ap p (sym s) ∙ e)
In-list_any p x (z ∷ zs) (inr i) e = or_right (p z) (list_any p zs) (In-list_any p x zs i e)

pub list_any-In : {X : Type 0} (p : X → Bool) (xs : List X) → list_any p xs ≡ true → (x : X) × In x xs × (p x ≡ true)
list_any-In p [] e = absurd (false≢true e)
list_any-In p (z ∷ zs) e =
    elim (or_cases (p z) (list_any p zs) e) [
      | inl h ↦ (z, inl refl, h)
      | inr h ↦ let r = list_any-In p zs h in (r.0, inr r.1, r.2)
    ]

pub get_or-In : {X : Type 0} (xs : List X) (k : ℕ) (d : X) → k < length xs → In (get_or xs k d) xs
get_or-In [] k d l = absurd (omega arith)
get_or-In (x ∷ xs) zero d l = inl refl
get_or-In (x ∷ xs) (suc k) d l = inr (get_or-In xs k d (omega arith))

pub In-get_or : {X : Type 0} (x : X) (xs : List X) → In x xs → (k : ℕ) × (k < length xs) × (get_or xs k x ≡ x)
In-get_or x [] i = absurd i
In-get_or x (z ∷ zs) (inl e) = let l : 0 < length (z ∷ zs) = omega arith in (zero, l, sym e)
In-get_or x (z ∷ zs) (inr i) =
    let r = In-get_or x zs i in
    let l : suc r.0 < length (z ∷ zs) = (let k = r.1 in omega (arith, k)) in (suc r.0, l, r.2)

-- two members of a list whose pairs stand are one, or they stand
pub AllPairs-In : {X : Type 0} (R : X → X → Type 0) (xs : List X) (x y : X) → AllPairs R xs → In x xs → In y xs → (x ≡ y) ⊎ (R x y ⊎ R y x)
AllPairs-In R [] x y h i j = absurd i
AllPairs-In R (z ∷ zs) x y h (inl a) (inl b) = inl (a ∙ sym b)
AllPairs-In R (z ∷ zs) x y h (inl a) (inr j) =
    let r = In-get_or y zs j in
    let l : 0 < suc r.0 = omega arith in
    let k : suc r.0 < length (z ∷ zs) = (let q = r.1 in omega (arith, q)) in
    let s : R z y = subst (λ w. R z w) r.2 (h zero (suc r.0) y l k) in
    inr (inl (subst (λ w. R w y) (sym a) s))
AllPairs-In R (z ∷ zs) x y h (inr i) (inl b) =
    let r = In-get_or x zs i in
    let l : 0 < suc r.0 = omega arith in
    let k : suc r.0 < length (z ∷ zs) = (let q = r.1 in omega (arith, q)) in
    let s : R z x = subst (λ w. R z w) r.2 (h zero (suc r.0) x l k) in
    inr (inr (subst (λ w. R w x) (sym b) s))
AllPairs-In R (z ∷ zs) x y h (inr i) (inr j) =
    AllPairs-In R zs x y (λ a b d l k. h (suc a) (suc b) d (omega arith) (omega arith)) i j

-- what is found is in the list and passes
find-In-step : {X : Type 0} (p : X → Bool) (x : X) (xs : List X) (y : X) (b : Bool) → p x ≡ b → (find p xs ≡ Some y → In y xs × (p y ≡ true)) → cond b (Some x) (find p xs) ≡ Some y → ((y ≡ x) ⊎ In y xs) × (p y ≡ true)
find-In-step p x xs y true t k h = let s : x ≡ y = cc h in (inl (sym s), ap p (sym s) ∙ t)
find-In-step p x xs y false t k h = let r = k h in (inr r.0, r.1)

pub find-In : {X : Type 0} (p : X → Bool) (xs : List X) (y : X) → find p xs ≡ Some y → In y xs × (p y ≡ true)
find-In p [] y e = absurd cc
find-In p (x ∷ xs) y e = find-In-step p x xs y (p x) refl (find-In p xs y) e

In-find-step : {X : Type 0} (p : X → Bool) (z x : X) (zs : List X) (b : Bool) → p z ≡ b → p x ≡ true → (x ≡ z) ⊎ In x zs → (In x zs → (y : X) × (find p zs ≡ Some y)) → (y : X) × (cond b (Some z) (find p zs) ≡ Some y)
In-find-step p z x zs true t e i k = (z, refl)
In-find-step p z x zs false t e (inl s) k = absurd (both_ways (p z) t (ap p (sym s) ∙ e))
In-find-step p z x zs false t e (inr j) k = k j

pub In-find : {X : Type 0} (p : X → Bool) (xs : List X) (x : X) → In x xs → p x ≡ true → (y : X) × (find p xs ≡ Some y)
In-find p [] x i e = absurd i
In-find p (z ∷ zs) x i e = In-find-step p z x zs (p z) refl e i (λ j. In-find p zs x j e)

map_step : {X Y : Type 0} (f : X → Y) (p : Y → Bool) (x : X) (xs : List X) (b : Bool)
    → filter p (map f xs) ≡ map f (filter (λ y. p (f y)) xs)
    → cond b (f x ∷ filter p (map f xs)) (filter p (map f xs))
    ≡ map f (cond b (x ∷ filter (λ y. p (f y)) xs) (filter (λ y. p (f y)) xs))
map_step f p x xs true e = ap (λ l. f x ∷ l) e
map_step f p x xs false e = e

pub filter-map : {X Y : Type 0} (f : X → Y) (p : Y → Bool) (xs : List X)
    → filter p (map f xs) ≡ map f (filter (λ x. p (f x)) xs)
filter-map f p [] = refl
filter-map f p (x ∷ xs) = map_step f p x xs (p (f x)) (filter-map f p xs)

pub list_any-map : {X Y : Type 0} (f : X → Y) (p : Y → Bool) (xs : List X)
    → list_any p (map f xs) ≡ list_any (λ x. p (f x)) xs
list_any-map f p [] = refl
list_any-map f p (x ∷ xs) = ap (λ b. p (f x) || b) (list_any-map f p xs)

filter_step : {X : Type 0} (p q : X → Bool) (x : X) (xs : List X) (t u : Bool) → (t ≡ true → u ≡ true) → p x ≡ t
    → filter p (filter q xs) ≡ filter p xs → filter p (cond u (x ∷ filter q xs) (filter q xs))
    ≡ cond t (x ∷ filter p xs) (filter p xs)
filter_step p q x xs true true h e ih = ap (λ b. cond b (x ∷ filter p (filter q xs)) (filter p (filter q xs))) e
    ∙ ap (λ l. x ∷ l) ih
filter_step p q x xs true false h e ih = absurd (false≢true (h refl))
filter_step p q x xs false true h e ih = ap (λ b. cond b (x ∷ filter p (filter q xs)) (filter p (filter q xs))) e ∙ ih
filter_step p q x xs false false h e ih = ih

-- a test after a looser one
pub filter-filter : {X : Type 0} (p q : X → Bool) (xs : List X) → ((x : X) → In x xs → p x ≡ true → q x ≡ true)
    → filter p (filter q xs) ≡ filter p xs
filter-filter p q [] h = refl
filter-filter p q (x ∷ xs) h = filter_step p q x xs (p x) (q x) (h x (inl refl)) refl
    (filter-filter p q xs (λ y i. h y (inr i)))

same_step : {X : Type 0} (x : X) (xs ys : List X) (t u : Bool) → t ≡ u → xs ≡ ys → cond t (x ∷ xs) xs ≡ cond u (x ∷ ys) ys
same_step x xs ys t u e f = rw (e, f) refl

-- tests that agree on a list
pub filter-same : {X : Type 0} (p q : X → Bool) (xs : List X) → ((x : X) → In x xs → p x ≡ q x)
    → filter p xs ≡ filter q xs
filter-same p q [] h = refl
filter-same p q (x ∷ xs) h =
    same_step x (filter p xs) (filter q xs) (p x) (q x) (h x (inl refl)) (filter-same p q xs (λ y i. h y (inr i)))

-- an option has one value
pub some_one : {X : Type 0} (o : Option X) (x y : X) → o ≡ Some x → o ≡ Some y → x ≡ y
some_one None x y e f = absurd cc
some_one (Some z) x y e f = (let a : z ≡ x = cc e in let b : z ≡ y = cc f in sym a ∙ b)
