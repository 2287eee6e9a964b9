-- Lists of distinct numbers that are gathered from the members of another list, whatever the order.
use Rattle.std.proofs.Common.{◌≡◌, ℕ, Bool, true, false, cond, ◌&&◌, not, List, [], ◌∷◌, ◌++◌, sym, refl, ap, ◌∙◌, subst, inl, inr, ◌⊎◌}
use Rattle.std.specs.Prelude.{map}
use Rattle.std.specs.List.{flat_map, filter, list_all}
use Rattle.std.proofs.lemmas.List.{append-nil, map-append}
use Rattle.std.proofs.lemmas.Bool.{and_parts, and_from, not-true, false_from_ne_true, both_ways, false≢true}
use Rattle.trio_lists.specs.Lists.{In, is_among, are_new}
use Rattle.trio_lists.proofs.Members.{In-flat, flat_map-In, In-map, map-In}
use Rattle.trio_lists.proofs.Filters.{filter-In}
use Rattle.trio_lists.proofs.Marked.{are_new-append}
use Rattle.trio_lists.proofs.New.{are_new-before, are_new-fewer, are_new-joined}

pub new_beside : (seen xs : List ℕ) → are_new [] xs ≡ true → ((p : ℕ) → In p xs → In p seen → ⊥) → are_new seen xs ≡ true
new_beside seen xs new apart = are_new-joined [] seen seen xs (λ n i. inr i) new apart

-- a list of distinct numbers with one before it
pub new_tail : (x : ℕ) (xs : List ℕ) → are_new [] (x ∷ xs) ≡ true → (are_new (x ∷ []) xs ≡ true) × (are_new [] xs ≡ true)
new_tail x xs h =
    let p = and_parts true (are_new (x ∷ []) xs) h in
    (p.1, are_new-fewer [] (x ∷ []) xs (λ n i. absurd i) p.1)

module _ {X : Type 0} (key : X → ℕ) (f : X → List ℕ) where
  pub gathered_new : (xs : List X) → are_new [] (map key xs) ≡ true → ((x : X) → In x xs → are_new [] (f x) ≡ true) → ((x y : X) (p : ℕ) → In x xs → In y xs → In p (f x) → In p (f y) → key x ≡ key y) → are_new [] (flat_map f xs) ≡ true
  gathered_new [] new each one = refl
  gathered_new (x ∷ xs) new each one =
      let t = new_tail (key x) (map key xs) new in
      are_new-append [] (f x) (flat_map f xs)
      ∙ and_from (are_new [] (f x)) (are_new (f x) (flat_map f xs)) (each x (inl refl))
      (new_beside (f x) (flat_map f xs)
      (gathered_new xs t.1 (λ y i. each y (inr i)) (λ y z p i j. one y z p (inr i) (inr j)))
      (λ p i j.
      let r = flat_map-In f p xs i in
      let same : key x ≡ key r.0 = one x r.0 p (inl refl) (inr r.1) j r.2 in
      are_new-before (key r.0) (key x ∷ []) (map key xs) t.0 (In-map key r.0 xs r.1) (inl (sym same))))

module _ {X : Type 0} (f : X → List ℕ) where
  pub first_new : (x : X) (xs : List X) → are_new [] (flat_map f (x ∷ xs)) ≡ true → (are_new [] (f x) ≡ true) × (are_new (f x) (flat_map f xs) ≡ true)
  first_new x xs h = and_parts (are_new [] (f x)) (are_new (f x) (flat_map f xs)) (sym (are_new-append [] (f x) (flat_map f xs)) ∙ h)

  rest_of_new : (x : X) (xs : List X) → are_new [] (flat_map f (x ∷ xs)) ≡ true → are_new [] (flat_map f xs) ≡ true
  rest_of_new x xs h = are_new-fewer [] (f x) (flat_map f xs) (λ n i. absurd i) (first_new x xs h).1

  pub each_new : (xs : List X) (x : X) → are_new [] (flat_map f xs) ≡ true → In x xs → are_new [] (f x) ≡ true
  each_new [] x h i = absurd i
  each_new (y ∷ ys) x h (inl e) = ap (λ w. are_new [] (f w)) e ∙ (first_new y ys h).0
  each_new (y ∷ ys) x h (inr i) = each_new ys x (rest_of_new y ys h) i

  pub one_of : (xs : List X) (x y : X) (p : ℕ) → are_new [] (flat_map f xs) ≡ true → In x xs → In y xs → In p (f x) → In p (f y) → x ≡ y
  one_of [] x y p h i j a b = absurd i
  one_of (z ∷ zs) x y p h (inl e) (inl e') a b = e ∙ sym e'
  one_of (z ∷ zs) x y p h (inl e) (inr j) a b =
      absurd (are_new-before p (f z) (flat_map f zs) (first_new z zs h).1 (In-flat f y p zs j b) (subst (λ w. In p (f w)) e a))
  one_of (z ∷ zs) x y p h (inr i) (inl e') a b =
      absurd (are_new-before p (f z) (flat_map f zs) (first_new z zs h).1 (In-flat f x p zs i a) (subst (λ w. In p (f w)) e' b))
  one_of (z ∷ zs) x y p h (inr i) (inr j) a b = one_of zs x y p (rest_of_new z zs h) i j a b

-- what is gathered from some of a list's members is as new as what is gathered from all
pub new_spread : {X : Type 0} (key : X → ℕ) (f g : X → List ℕ) (xs ys : List X) → are_new [] (flat_map f xs) ≡ true → are_new [] (map key ys) ≡ true → ((y : X) → In y ys → In y xs) → ((y : X) → In y ys → g y ≡ f y) → are_new [] (flat_map g ys) ≡ true
new_spread key f g xs ys new apart sub same =
    gathered_new key g ys apart
    (λ y i. ap (are_new []) (same y i) ∙ each_new f xs y new (sub y i))
    (λ y z p i j a b. ap key (one_of f xs y z p new (sub y i) (sub z j) (subst (λ l. In p l) (same y i) a) (subst (λ l. In p l) (same z j) b)))

filter_step : {X : Type 0} (key : X → ℕ) (p : X → Bool) (x : X) (xs : List X) (b : Bool) → are_new [] (map key (x ∷ xs)) ≡ true → are_new [] (map key (filter p xs)) ≡ true → ((n : ℕ) → In n (map key (filter p xs)) → In n (map key xs)) → are_new [] (map key (cond b (x ∷ filter p xs) (filter p xs))) ≡ true
filter_step key p x xs false h k sub = k
filter_step key p x xs true h k sub =
    let t = new_tail (key x) (map key xs) h in
    new_beside (key x ∷ []) (map key (filter p xs)) k
    (λ n i e. elim e [
      | inl s ↦ are_new-before (key x) (key x ∷ []) (map key xs) t.0 (subst (λ m. In m (map key xs)) s (sub n i)) (inl refl)
      | inr no' ↦ no'
    ])

pub filtered_in : {X : Type 0} (key : X → ℕ) (p : X → Bool) (n : ℕ) (xs : List X) → In n (map key (filter p xs)) → In n (map key xs)
filtered_in key p n xs i =
    let q = map-In key n (filter p xs) i in
    subst (λ k. In k (map key xs)) (sym q.2) (In-map key q.0 xs (filter-In p q.0 xs q.1).0)

-- some of distinct things are distinct
pub filtered_new : {X : Type 0} (key : X → ℕ) (p : X → Bool) (xs : List X) → are_new [] (map key xs) ≡ true → are_new [] (map key (filter p xs)) ≡ true
filtered_new key p [] h = refl
filtered_new key p (x ∷ xs) h =
    filter_step key p x xs (p x) h (filtered_new key p xs (new_tail (key x) (map key xs) h).1) (λ n i. filtered_in key p n xs i)

pub and_false : (a b : Bool) → (a && b) ≡ false → (a ≡ false) ⊎ ((a ≡ true) × (b ≡ false))
and_false false b e = inl refl
and_false true b e = inr (refl, e)

pub all_false : {X : Type 0} (p : X → Bool) (xs : List X) → list_all p xs ≡ false → (x : X) × In x xs × (p x ≡ false)
all_false p [] e = absurd (false≢true (sym e))
all_false p (x ∷ xs) e =
    elim (and_false (p x) (list_all p xs) e) [
      | inl no' ↦ (x, inl refl, no')
      | inr rest ↦ let r = all_false p xs rest.1 in (r.0, inr r.1, r.2)
    ]

-- where numbers are not new, one of them was seen or stands before
pub repeated : {X : Type 0} (key : X → ℕ) (seen : List ℕ) (xs : List X) → are_new seen (map key xs) ≡ false → (earlier : List X) × (x : X) × (later : List X) × (xs ≡ earlier ++ x ∷ later) × (is_among (key x) (seen ++ map key earlier) ≡ true)
repeated key seen [] e = absurd (false≢true (sym e))
repeated key seen (x ∷ xs) e =
    elim (and_false (not (is_among (key x) seen)) (are_new (seen ++ key x ∷ []) (map key xs)) e) [
      | inl here ↦ ([], x, xs, refl, ap (is_among (key x)) (append-nil seen) ∙ not_not (is_among (key x) seen) here)
      | inr rest ↦
          let r = repeated key (seen ++ key x ∷ []) xs rest.1 in
          (x ∷ r.0, r.1, r.2, ap (λ l. x ∷ l) r.3, ap (is_among (key r.1)) (shift seen (key x) (map key r.0)) ∙ r.4)
    ]
  where
    not_not : (b : Bool) → not b ≡ false → b ≡ true
    not_not true e = refl
    not_not false e = absurd (false≢true (sym e))

    shift : (xs : List ℕ) (y : ℕ) (ys : List ℕ) → xs ++ y ∷ ys ≡ (xs ++ y ∷ []) ++ ys
    shift [] y ys = refl
    shift (x ∷ xs) y ys = ap (λ l. x ∷ l) (shift xs y ys)

pub not_new : {X : Type 0} (key : X → ℕ) (xs earlier later : List X) (x : X) → xs ≡ earlier ++ x ∷ later → is_among (key x) (map key earlier) ≡ true → are_new [] (map key xs) ≡ false
not_new key xs earlier later x e seen =
    false_from_ne_true (are_new [] (map key xs))
    (λ t.
    let whole : are_new [] (map key earlier ++ key x ∷ map key later) ≡ true = sym (ap (λ l. are_new [] (map key l)) e ∙ ap (are_new []) (map-append key earlier (x ∷ later))) ∙ t in
    let p = and_parts (are_new [] (map key earlier)) (are_new (map key earlier) (key x ∷ map key later)) (sym (are_new-append [] (map key earlier) (key x ∷ map key later)) ∙ whole) in
    let q = and_parts (not (is_among (key x) (map key earlier))) _ p.1 in
    both_ways (is_among (key x) (map key earlier)) (not-true (is_among (key x) (map key earlier)) q.0) seen)

-- in a list of distinct keys a key has one member
pub one_keyed : {X : Type 0} (key : X → ℕ) (xs : List X) (x y : X) → are_new [] (map key xs) ≡ true → In x xs → In y xs → key x ≡ key y → x ≡ y
one_keyed key [] x y new i j e = absurd i
one_keyed key (z ∷ zs) x y new (inl a) (inl b) e = a ∙ sym b
one_keyed key (z ∷ zs) x y new (inl a) (inr j) e =
    absurd (are_new-before (key y) (key z ∷ []) (map key zs) (new_tail (key z) (map key zs) new).0 (In-map key y zs j) (inl (sym e ∙ ap key a)))
one_keyed key (z ∷ zs) x y new (inr i) (inl b) e =
    absurd (are_new-before (key x) (key z ∷ []) (map key zs) (new_tail (key z) (map key zs) new).0 (In-map key x zs i) (inl (e ∙ ap key b)))
one_keyed key (z ∷ zs) x y new (inr i) (inr j) e = one_keyed key zs x y (new_tail (key z) (map key zs) new).1 i j e
