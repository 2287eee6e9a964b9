-- Lists in which each number stands once, with one taken out.
use Rattle.trio_session.proofs.Words.{◌++◌, ◌+◌, ◌-◌, ◌∙◌, ◌∷◌, ◌≡◌, Bool, In, In-is_among, In-map, List, None, Some, [], ap, are_new, are_new-first, arith, cond, drop, eq-eqb, eqb, eqb-true, false, false_from_ne_true, filter, filter-none, inl, inr, is_some, length, map, position, refl, slice_get, slice_get_within, subst, suc, sym, take, true, zero, ℕ}
use Rattle.std.proofs.Common.{not}
use Rattle.trio_session.proofs.Found.{is_some-position}
use Rattle.trio_session.proofs.Lists.{slice_get-In}

-- where all pass, all stay
pub filter-all : {X : Type 0} (p : X → Bool) (xs : List X) → ((x : X) → In x xs → p x ≡ true) → filter p xs ≡ xs
filter-all p [] all = refl
filter-all {X} p (x ∷ xs) all = ap (λ b. cond b (x ∷ filter p xs) (filter p xs)) (all x (inl refl)) ∙ ap (λ ys. x ∷ ys) (filter-all p xs (λ y i. all y (inr i)))

-- a number that isn't there
missing : {X : Type 0} (key : X → ℕ) (xs : List X) (n : ℕ) → (In n (map key xs) → ⊥) → (x : X) → In x xs → eqb (key x) n ≡ false
missing key xs n out x i = false_from_ne_true (eqb (key x) n) (λ e. out (subst (λ m. In m (map key xs)) (eqb-true (key x) n e) (In-map key x xs i)))

pub others_all : {X : Type 0} (key : X → ℕ) (xs : List X) (n : ℕ) → (In n (map key xs) → ⊥) → filter (λ x. not (eqb (key x) n)) xs ≡ xs
others_all {X} key xs n out = filter-all (λ (x : X). not (eqb (key x) n)) xs (λ x i. ap not (missing key xs n out x i))

pub same_none : {X : Type 0} (key : X → ℕ) (xs : List X) (n : ℕ) → (In n (map key xs) → ⊥) → filter (λ x. eqb (key x) n) xs ≡ []
same_none {X} key xs n out = filter-none (λ (x : X). eqb (key x) n) xs (missing key xs n out)

-- one that is there, once
pub others_one : {X : Type 0} (key : X → ℕ) (xs : List X) (n at : ℕ) (x : X) → are_new [] (map key xs) ≡ true → slice_get xs at ≡ Some x → key x ≡ n
    → take at xs ++ drop (suc at) xs ≡ filter (λ y. not (eqb (key y) n)) xs
others_one key [] n at x once e same = absurd (let t : None ≡ Some x = e in cc t)
others_one {X} key (y ∷ ys) n zero x once e same =
    let it : y ≡ x = (let t : Some y ≡ Some x = e in cc t) in
    let number : key y ≡ n = ap key it ∙ same in
    let first = are_new-first (key y) (map key ys) once in
    sym (ap (λ b. cond (not b) (y ∷ filter (λ (z : X). not (eqb (key z) n)) ys) (filter (λ (z : X). not (eqb (key z) n)) ys)) (eq-eqb (key y) n number)
    ∙ others_all key ys n (subst (λ m. In m (map key ys) → ⊥) number first.0))
others_one {X} key (y ∷ ys) n (suc at) x once e same =
    let first = are_new-first (key y) (map key ys) once in
    let other : eqb (key y) n ≡ false = false_from_ne_true (eqb (key y) n) (λ k. first.0 (subst (λ m. In m (map key ys)) (same ∙ sym (eqb-true (key y) n k)) (In-map key x ys (slice_get-In ys at x e)))) in
    ap (λ zs. y ∷ zs) (others_one key ys n at x first.1 e same)
    ∙ sym (ap (λ b. cond (not b) (y ∷ filter (λ (z : X). not (eqb (key z) n)) ys) (filter (λ (z : X). not (eqb (key z) n)) ys)) other)

pub same_one_only : {X : Type 0} (key : X → ℕ) (xs : List X) (n at : ℕ) (x : X) → are_new [] (map key xs) ≡ true → slice_get xs at ≡ Some x → key x ≡ n
    → filter (λ y. eqb (key y) n) xs ≡ x ∷ []
same_one_only key [] n at x once e same = absurd (let t : None ≡ Some x = e in cc t)
same_one_only {X} key (y ∷ ys) n zero x once e same =
    let it : y ≡ x = (let t : Some y ≡ Some x = e in cc t) in
    let number : key y ≡ n = ap key it ∙ same in
    let first = are_new-first (key y) (map key ys) once in
    ap (λ b. cond b (y ∷ filter (λ (z : X). eqb (key z) n) ys) (filter (λ (z : X). eqb (key z) n) ys)) (eq-eqb (key y) n number)
    ∙ ap (λ zs. y ∷ zs) (same_none key ys n (subst (λ m. In m (map key ys) → ⊥) number first.0)) ∙ ap (λ z. z ∷ []) it
same_one_only {X} key (y ∷ ys) n (suc at) x once e same =
    let first = are_new-first (key y) (map key ys) once in
    let other : eqb (key y) n ≡ false = false_from_ne_true (eqb (key y) n) (λ k. first.0 (subst (λ m. In m (map key ys)) (same ∙ sym (eqb-true (key y) n k)) (In-map key x ys (slice_get-In ys at x e)))) in
    ap (λ b. cond b (y ∷ filter (λ (z : X). eqb (key z) n) ys) (filter (λ (z : X). eqb (key z) n) ys)) other ∙ same_one_only key ys n at x first.1 e same

-- where no place is found the number isn't there
pub none-In : {X : Type 0} (key : X → ℕ) (xs : List X) (n : ℕ) → position (λ x. eqb (key x) n) xs ≡ None → In n (map key xs) → ⊥
none-In key xs n e i = absurd (let t : false ≡ true = ap is_some (sym e) ∙ is_some-position key xs n ∙ In-is_among n (map key xs) i in cc t)

-- with one taken out there is one less
pub length-removed : {X : Type 0} (xs : List X) (at : ℕ) (x : X) → slice_get xs at ≡ Some x → length (take at xs ++ drop (suc at) xs) ≡ length xs - 1
length-removed [] at x e = absurd (let t : None ≡ Some x = e in cc t)
length-removed (y ∷ ys) zero x e = omega arith
length-removed (y ∷ ys) (suc at) x e =
    let rest = length-removed ys at x e in
    let some = slice_get_within ys at x e in
    omega (arith, rest, some)
