-- The first element that passes a test, and its place.
use Rattle.trio_session.proofs.Words.{if◌then◌else◌, ◌+◌, ◌<◌, ◌∙◌, ◌∷◌, ◌≡◌, Bool, In, In-find, In-is_among, In-map, InoParts, IsTrue, List, None, Option, Some, [], ap, arith, cases_Bool, drop, drop-cons, eq-eqb, eqb, eqb-true, false, filter, find, find-In, get_or, get_or-set_same, get_or_from_slice_get, inl, ino_numbers, inr, is_among, is_among-In, is_some, length, length-map, length-set, lower, lowest_from, ltb, ltb-true, map, map-In, min, not, option_map, option_map_or, position, refl, slice_get, slice_get-get_or, slice_get-map, slice_set, subst, suc, sym, true, zero, ℕ}
use Rattle.trio_session.proofs.Lists.{slice_get-In}
use Rattle.std.specs.List.{position_or_len}
use Rattle.std.proofs.lemmas.Bool.{ltb-false}
use Rattle.std.proofs.lemmas.List.Folds.{find_at}
use Rattle.std.proofs.lemmas.Option.{slice_get_past}

-- it stands at its place
pub find-position : {X : Type 0} (p : X → Bool) (xs : List X) (i : ℕ) → position p xs ≡ Some i → (find p xs ≡ slice_get xs i) × (i < length xs)
find-position p xs i e =
    elim (cases_Bool (ltb (position_or_len p xs) (length xs))) [
      | inl t ↦
          (let both : Some (position_or_len p xs) ≡ Some i = rw t at e in
          let j : position_or_len p xs ≡ i = cc both in
          (find_at p xs ∙ ap (slice_get xs) j, subst (λ k. k < length xs) j (ltb-true (position_or_len p xs) (length xs) t)))
      | inr f ↦ (let wrong : None ≡ Some i = rw f at e in absurd cc)
    ]

-- where there is no place, there is none
pub find-none : {X : Type 0} (p : X → Bool) (xs : List X) → position p xs ≡ None → find p xs ≡ None
find-none p xs e =
    elim (cases_Bool (ltb (position_or_len p xs) (length xs))) [
      | inl t ↦ (let wrong : Some (position_or_len p xs) ≡ None = rw t at e in absurd cc)
      | inr f ↦ find_at p xs ∙ slice_get_past xs (position_or_len p xs) (ltb-false (position_or_len p xs) (length xs) f)
    ]

-- what is mapped of the first is there exactly where it has a place
pub position-some : {X Y : Type 0} (p : X → Bool) (f : X → Y) (xs : List X) (y : Y) → option_map f (find p xs) ≡ Some y → IsTrue (is_some (position p xs))
position-some {X} {Y} p f xs y e = by (position p xs) refl
  where
    by : (o : Option ℕ) → position p xs ≡ o → IsTrue (is_some (position p xs))
    by None n = absurd (let wrong : None ≡ Some y = sym (ap (option_map f) (find-none p xs n)) ∙ e in cc wrong)
    by (Some i) s = ap is_some s

-- one more number, for the lowest
pub lowest_step : (ns : List ℕ) (i n m : ℕ) (best : Option ℕ) → i < length ns → n ≡ get_or ns i 0 → m ≡ option_map_or (λ x. min x n) best n
    → lowest_from (Some m) (drop (i + 1) ns) ≡ lowest_from best (drop i ns)
lowest_step ns i n m best lt en em =
    let next : i + 1 ≡ suc i = omega arith in
    ap (λ j. lowest_from (Some m) (drop j ns)) next
    ∙ ap (λ x. lowest_from (Some x) (drop (suc i) ns)) em
    ∙ ap (λ x. lowest_from (lower best x) (drop (suc i) ns)) en
    ∙ sym (ap (lowest_from best) (drop-cons ns i 0 lt))

pub ino_number : (xs : List InoParts) (i : ℕ) (x : InoParts) → i < length xs → x ≡ get_or xs i x → x.no ≡ get_or (ino_numbers xs) i 0
ino_number xs i x lt e =
    let at : slice_get xs i ≡ Some x = slice_get-get_or xs i x lt ∙ ap Some (sym e) in
    sym (get_or_from_slice_get (ino_numbers xs) i x.no 0 (slice_get-map (λ (n : InoParts). n.no) xs i ∙ ap (option_map (λ (n : InoParts). n.no)) at))

-- what was put is there
pub set_there : {X : Type 0} (xs : List X) (i : ℕ) (x : X) → i < length xs → slice_get (slice_set xs i x) i ≡ Some x
set_there xs i x lt =
    let within : i < length (slice_set xs i x) = rw length-set lt in
    slice_get-get_or (slice_set xs i x) i x within ∙ ap Some (get_or-set_same xs i x x lt)

pub position-there : {X Y : Type 0} (p : X → Bool) (f : X → Y) (xs : List X) → IsTrue (is_some (option_map f (find p xs))) → IsTrue (is_some (position p xs))
position-there {X} {Y} p f xs h = by (find p xs) refl h
  where
    by : (o : Option X) → find p xs ≡ o → IsTrue (is_some (option_map f o)) → IsTrue (is_some (position p xs))
    by None e k = absurd (let t : false ≡ true = k in cc t)
    by (Some x) e k = position-some p f xs (f x) (ap (option_map f) e)

-- an element that is within a list
pub slice_get-within : {X : Type 0} (xs : List X) (i : ℕ) → i < length xs → (x : X) × (slice_get xs i ≡ Some x)
slice_get-within [] i lt = absurd (omega arith)
slice_get-within (x ∷ xs) zero lt = (x, refl)
slice_get-within (x ∷ xs) (suc i) lt = slice_get-within xs i (omega arith)

-- the element at the place that was found
pub position-at : {X : Type 0} (p : X → Bool) (xs : List X) (i : ℕ) → position p xs ≡ Some i → (x : X) × ((slice_get xs i ≡ Some x) × (In x xs) × (p x ≡ true))
position-at p xs i e =
    let at = find-position p xs i e in
    let x = slice_get-within xs i at.1 in
    let found = find-In p xs x.0 (at.0 ∙ x.1) in
    (x.0, (x.1, found.0, found.1))

-- a place is found exactly where the number stands among the keys
pub is_some-position : {X : Type 0} (key : X → ℕ) (xs : List X) (n : ℕ) → is_some (position (λ x. eqb (key x) n) xs) ≡ is_among n (map key xs)
is_some-position {X} key xs n = by (position (λ (x : X). eqb (key x) n) xs) refl
  where
    p : X → Bool
    p = λ x. eqb (key x) n

    missing : (b : Bool) → is_among n (map key xs) ≡ b → position p xs ≡ None → false ≡ is_among n (map key xs)
    missing false e none = sym e
    missing true e none =
        let x = map-In key n xs (is_among-In n (map key xs) e) in
        let y = In-find p xs x.0 x.1 (eq-eqb (key x.0) n (sym x.2)) in
        absurd (let t : None ≡ Some y.0 = sym (find-none p xs none) ∙ y.1 in cc t)

    by : (o : Option ℕ) → position p xs ≡ o → is_some o ≡ is_among n (map key xs)
    by None e = missing (is_among n (map key xs)) refl e
    by (Some i) e =
        let x = position-at p xs i e in
        sym (In-is_among n (map key xs) (subst (λ m. In m (map key xs)) (eqb-true (key x.0) n x.1.2) (In-map key x.0 xs x.1.1)))

-- a number that stands at a place is found
pub is_some-at : {X : Type 0} (key : X → ℕ) (xs : List X) (i n : ℕ) → option_map_or (λ x. eqb (key x) n) (slice_get xs i) false ≡ true → is_some (position (λ x. eqb (key x) n) xs) ≡ true
is_some-at {X} key xs i n = by (slice_get xs i) refl
  where
    by : (o : Option X) → slice_get xs i ≡ o → option_map_or (λ x. eqb (key x) n) o false ≡ true → is_some (position (λ x. eqb (key x) n) xs) ≡ true
    by None e h = absurd cc
    by (Some x) e h =
        is_some-position key xs n ∙ In-is_among n (map key xs) (subst (λ m. In m (map key xs)) (eqb-true (key x) n h) (In-map key x xs (slice_get-In xs i x e)))

-- an element that was taken at the place that was found
pub slice_get-found : {X : Type 0} (p : X → Bool) (xs : List X) (i : ℕ) (x : X) → position p xs ≡ Some i → x ≡ get_or xs i x → slice_get xs i ≡ Some x
slice_get-found p xs i x e at = slice_get-get_or xs i x (find-position p xs i e).1 ∙ ap Some (sym at)

-- the place that was asked of the same list
pub position-same : {X : Type 0} (p : X → Bool) (xs ys : List X) (o r : Option ℕ) → ys ≡ xs → o ≡ position p ys → o ≡ r → position p xs ≡ r
position-same p xs ys o r same e is = sym (ap (position p) same) ∙ sym e ∙ is

-- the element at the place that was found passes
pub position-passes : {X : Type 0} (p : X → Bool) (xs : List X) (i : ℕ) (x : X) → position p xs ≡ Some i → slice_get xs i ≡ Some x → p x ≡ true
position-passes p xs i x e at = (find-In p xs x ((find-position p xs i e).0 ∙ at)).1

-- one more number, for the lowest of those that aren't used
pub spare_step : (used ns : List ℕ) (i n : ℕ) (m best : Option ℕ) → i < length ns → n ≡ get_or ns i 0 → m ≡ (if is_among n used then best else lower best n)
    → lowest_from m (filter (λ x. not (is_among x used)) (drop (i + 1) ns)) ≡ lowest_from best (filter (λ x. not (is_among x used)) (drop i ns))
spare_step used ns i n m best lt en em =
    let p : ℕ → Bool = λ x. not (is_among x used) in
    let next : i + 1 ≡ suc i = omega arith in
    ap (λ j. lowest_from m (filter p (drop j ns))) next
    ∙ ap (λ x. lowest_from x (filter p (drop (suc i) ns))) (em ∙ ap (λ x. if is_among x used then best else lower best x) en)
    ∙ one (is_among (get_or ns i 0) used) refl
    ∙ sym (ap (λ xs. lowest_from best (filter p xs)) (drop-cons ns i 0 lt))
  where
    one : (b : Bool) → is_among (get_or ns i 0) used ≡ b → lowest_from (if is_among (get_or ns i 0) used then best else lower best (get_or ns i 0)) (filter (λ x. not (is_among x used)) (drop (suc i) ns))
        ≡ lowest_from best (filter (λ x. not (is_among x used)) (get_or ns i 0 ∷ drop (suc i) ns))
    one true e = rw e refl
    one false e = rw e refl

-- a place in a list that was mapped
pub position-map : {X Y : Type 0} (p : Y → Bool) (f : X → Y) (xs : List X) → position p (map f xs) ≡ position (λ x. p (f x)) xs
position-map p f xs =
    let all = length-map xs f in
    ap (λ n. if ltb (position_or_len p (map f xs)) n then Some (position_or_len p (map f xs)) else None) all
    ∙ ap (λ k. if ltb k (length xs) then Some k else None) (places p f xs)
  where
    places : {X Y : Type 0} (p : Y → Bool) (f : X → Y) (xs : List X) → position_or_len p (map f xs) ≡ position_or_len (λ x. p (f x)) xs
    places p f [] = refl
    places {X} {Y} p f (x ∷ xs) = rw (places p f xs) refl
