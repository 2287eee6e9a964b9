-- Elements by their places.
use Rattle.trio_session.proofs.Words.{if◌then◌else◌, ◌++◌, ◌+◌, ◌-◌, ◌<◌, ◌∙◌, ◌∷◌, ◌≡◌, ◌≢◌, ◌≤◌, Bool, In, In-left, In-map, List, None, Some, [], ap, append-nil, are_new, are_new-first, arith, cases_lt, count_up, drop, drop-cons, eq-eqb, eqb, eqb-true, false, get_or, inl, inr, length, length-take-le, map, min, refl, slice_get, slice_set, subst, suc, sym, take, take-append-drop, take-take, true, zero, ℕ}
use Rattle.std.proofs.Math.Seq.{take-append-add}
use Rattle.std.proofs.lemmas.List.{take-append-le}

-- where f changes nothing, the list is the same
pub map_same : {X : Type 0} (f : X → X) (xs : List X) → ((j : ℕ) (y : X) → slice_get xs j ≡ Some y → f y ≡ y) → map f xs ≡ xs
map_same f [] h = refl
map_same {X} f (x ∷ xs) h =
    let rest : map f xs ≡ xs = map_same f xs (λ j y e. h (suc j) y e) in
    ap (λ y. y ∷ map f xs) (h zero x refl) ∙ ap (λ ys. x ∷ ys) rest

-- where f changes the element at one place alone, it is the same to change that
pub set_map : {X : Type 0} (f : X → X) (xs : List X) (i : ℕ) (x : X) → slice_get xs i ≡ Some x
    → ((j : ℕ) (y : X) → slice_get xs j ≡ Some y → j ≢ i → f y ≡ y) → slice_set xs i (f x) ≡ map f xs
set_map f [] i x e h = absurd (let t : None ≡ Some x = e in cc t)
set_map f (y ∷ ys) zero x e h =
    let same : y ≡ x = (let t : Some y ≡ Some x = e in cc t) in
    let rest : map f ys ≡ ys = map_same f ys (λ j z g. h (suc j) z g (λ k. absurd (omega (arith, k)))) in
    ap (λ z. f z ∷ ys) (sym same) ∙ ap (λ zs. f y ∷ zs) (sym rest)
set_map f (y ∷ ys) (suc i) x e h =
    let rest : slice_set ys i (f x) ≡ map f ys = set_map f ys i x e (λ j z g k. h (suc j) z g (λ m. k (omega (arith, m)))) in
    let first : f y ≡ y = h zero y refl (λ k. absurd (omega (arith, k))) in
    ap (λ zs. y ∷ zs) rest ∙ ap (λ z. z ∷ map f ys) (sym first)

-- an element at a place stands in the list, and the other way round
pub slice_get-In : {X : Type 0} (xs : List X) (i : ℕ) (x : X) → slice_get xs i ≡ Some x → In x xs
slice_get-In [] i x e = absurd (let t : None ≡ Some x = e in cc t)
slice_get-In (y ∷ ys) zero x e = inl (let t : Some y ≡ Some x = e in cc t)
slice_get-In (y ∷ ys) (suc i) x e = inr (slice_get-In ys i x e)

pub In-slice_get : {X : Type 0} (x : X) (xs : List X) → In x xs → (i : ℕ) × (slice_get xs i ≡ Some x)
In-slice_get x [] h = absurd h
In-slice_get x (y ∷ ys) (inl e) = (zero, ap Some (sym e))
In-slice_get x (y ∷ ys) (inr h) = let r = In-slice_get x ys h in (suc r.0, r.1)

-- a choice by two numbers that are the same, and by two that aren't
pub if_same : {X : Type 0} (n m : ℕ) (x y : X) → n ≡ m → (if eqb n m then x else y) ≡ x
if_same n m x y e = rw (eq-eqb n m e) refl

pub if_other : {X : Type 0} (n m : ℕ) (x y : X) → n ≢ m → (if eqb n m then x else y) ≡ y
if_other {X} n m x y ne =
    let by : (b : Bool) → eqb n m ≡ b → (if b then x else y) ≡ y = λ b. elim b as (λ v. eqb n m ≡ v → (if v then x else y) ≡ y) [ true ↦ λ e. absurd (ne (eqb-true n m e)) | false ↦ λ e. refl ] in
    by (eqb n m) refl

-- numbers up to an end, and at it
pub count_step : (n e : ℕ) → n < e → count_up n (e - n) ≡ n ∷ count_up (n + 1) (e - (n + 1))
count_step n e lt =
    let more : e - n ≡ suc (e - (n + 1)) = omega arith in
    let next : suc n ≡ n + 1 = omega arith in
    ap (count_up n) more ∙ ap (λ m. n ∷ count_up m (e - (n + 1))) next

pub count_end : (n e : ℕ) → e ≤ n → count_up n (e - n) ≡ []
count_end n e le = let none : e - n ≡ 0 = omega arith in ap (count_up n) none

-- where keys differ, an element stands at one place
pub once_at : {X : Type 0} (key : X → ℕ) (xs : List X) (i j : ℕ) (x y : X) → are_new [] (map key xs) ≡ true → slice_get xs i ≡ Some x → slice_get xs j ≡ Some y
    → key x ≡ key y → i ≡ j
once_at key [] i j x y new ei ej e = absurd (let t : None ≡ Some x = ei in cc t)
once_at key (z ∷ zs) zero zero x y new ei ej e = refl
once_at key (z ∷ zs) zero (suc j) x y new ei ej e =
    let first = are_new-first (key z) (map key zs) new in
    let same : z ≡ x = (let t : Some z ≡ Some x = ei in cc t) in
    absurd (first.0 (subst (λ n. In n (map key zs)) (sym e ∙ ap key (sym same)) (In-map key y zs (slice_get-In zs j y ej))))
once_at key (z ∷ zs) (suc i) zero x y new ei ej e =
    let first = are_new-first (key z) (map key zs) new in
    let same : z ≡ y = (let t : Some z ≡ Some y = ej in cc t) in
    absurd (first.0 (subst (λ n. In n (map key zs)) (e ∙ ap key (sym same)) (In-map key x zs (slice_get-In zs i x ei))))
once_at key (z ∷ zs) (suc i) (suc j) x y new ei ej e =
    let first = are_new-first (key z) (map key zs) new in
    ap suc (once_at key zs i j x y first.1 ei ej e)

-- a list mapped by two functions that give the same
pub map_alike : {X Y : Type 0} (f g : X → Y) (xs : List X) → ((x : X) → f x ≡ g x) → map f xs ≡ map g xs
map_alike f g [] h = refl
map_alike f g (x ∷ xs) h = ap (λ y. y ∷ map f xs) (h x) ∙ ap (λ ys. g x ∷ ys) (map_alike f g xs h)

-- the first elements of a beginning and of what follows it
pub take-kept : {X : Type 0} (n k : ℕ) (xs ys : List X) → k ≤ length xs → take n (take k xs ++ ys) ≡ take (min k n) xs ++ take (n - k) ys
take-kept {X} n k xs ys le =
    let len : length (take k xs) ≡ k = length-take-le k xs le in
    elim (cases_lt k n) [
      | inr within ↦
          let all : n ≤ length (take k xs) = omega (arith, len) in
          let first : min k n ≡ n = omega arith in
          let none : n - k ≡ 0 = omega arith in
          take-append-le n (take k xs) ys all ∙ take-take n k xs within ∙ sym (append-nil (take n xs))
          ∙ ap (λ m. take m xs ++ []) (sym first) ∙ ap (λ m. take (min k n) xs ++ take m ys) (sym none)
      | inl past ↦
          let all : n ≡ length (take k xs) + (n - k) = omega (arith, len) in
          let first : min k n ≡ k = omega arith in
          ap (λ m. take m (take k xs ++ ys)) all ∙ take-append-add (take k xs) ys (n - k) ∙ ap (λ m. take m xs ++ take (n - k) ys) (sym first)
    ]

pub In-take : {X : Type 0} (n : ℕ) (x : X) (xs : List X) → In x (take n xs) → In x xs
In-take n x xs h = subst (In x) (take-append-drop n xs) (In-left x (take n xs) (drop n xs) h)

-- the elements at places one after another
pub count_take : (xs : List ℕ) (from n : ℕ) → from + n ≤ length xs → map (λ at. get_or xs at 0) (count_up from n) ≡ take n (drop from xs)
count_take xs from zero le = refl
count_take xs from (suc n) le =
    let lt : from < length xs = omega arith in
    ap (λ ys. get_or xs from 0 ∷ ys) (count_take xs (suc from) n (omega arith)) ∙ sym (ap (take (suc n)) (drop-cons xs from 0 lt))

pub length-count_up : (from n : ℕ) → length (count_up from n) ≡ n
length-count_up from zero = refl
length-count_up from (suc n) = let rest = length-count_up (suc from) n in omega (arith, rest)

-- an element beside one that was put
pub set_beside : {X : Type 0} (xs : List X) (i j : ℕ) (x : X) → j ≢ i → slice_get (slice_set xs i x) j ≡ slice_get xs j
set_beside [] i j x ne = refl
set_beside (y ∷ ys) zero zero x ne = absurd (ne refl)
set_beside (y ∷ ys) zero (suc j) x ne = refl
set_beside (y ∷ ys) (suc i) zero x ne = refl
set_beside (y ∷ ys) (suc i) (suc j) x ne = set_beside ys i j x (λ e. ne (ap suc e))
