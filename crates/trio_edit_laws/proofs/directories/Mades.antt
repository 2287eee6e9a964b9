-- Lists of files that were made, where one is added or taken out.
use Rattle.trio_edit_laws.proofs.Words.{◌++◌, ◌∙◌, ◌∷◌, ◌≡◌, ◌⊎◌, Bool, In, In-cases, In-filter, In-find, In-left, In-map, In-right, List, MadeFile, None, Option, Some, [], ap, are_new, are_new-first, arith, cases_eq, cond, eq-eqb, eqb, eqb-true, false, false≢true, filter, filter-In, filter-all, find, find-In, find-append, inl, inr, map, map-In, ne_eqb, new_between, not, option_or, refl, subst, sym, true, ℕ}
use Rattle.trio_lists.proofs.Filters.{filter-none}
use Rattle.trio_edit_laws.proofs.Chained.{apart_from, apart_to}

abbrev pub number_of : MadeFile → ℕ
number_of x = x.ino

abbrev pub is_of : ℕ → MadeFile → Bool
is_of n x = eqb x.ino n

abbrev pub is_not_of : ℕ → MadeFile → Bool
is_not_of n x = not (eqb x.ino n)

-- ---- finding

pub find-absent : (n : ℕ) (xs : List MadeFile) → (In n (map number_of xs) → ⊥) → find (is_of n) xs ≡ None
find-absent n xs out = by (find (is_of n) xs) refl
  where
    by : (q : Option MadeFile) → find (is_of n) xs ≡ q → find (is_of n) xs ≡ None
    by None e = e
    by (Some x) e =
        let f = find-In (is_of n) xs x e in
        absurd (out (subst (λ k. In k (map number_of xs)) (eqb-true x.ino n f.1) (In-map number_of x xs f.0)))

pub find-one_same : (x : MadeFile) → find (is_of x.ino) (x ∷ []) ≡ Some x
find-one_same x = ap (λ t. cond t (Some x) None) (eq-eqb x.ino x.ino refl)

pub find-one_other : (n : ℕ) (x : MadeFile) → (n ≡ x.ino → ⊥) → find (is_of n) (x ∷ []) ≡ None
find-one_other n x d = ap (λ t. cond t (Some x) None) (ne_eqb x.ino n (λ e. d (sym e)))

option-none : (q : Option MadeFile) → option_or q None ≡ q
option-none None = refl
option-none (Some x) = refl

-- one behind the others
pub find-added_other : (n : ℕ) (xs : List MadeFile) (x : MadeFile) → (n ≡ x.ino → ⊥) → find (is_of n) (xs ++ x ∷ []) ≡ find (is_of n) xs
find-added_other n xs x d = find-append (is_of n) xs (x ∷ []) ∙ ap (option_or (find (is_of n) xs)) (find-one_other n x d) ∙ option-none (find (is_of n) xs)

pub find-added_same : (xs : List MadeFile) (x : MadeFile) → find (is_of x.ino) xs ≡ None → find (is_of x.ino) (xs ++ x ∷ []) ≡ Some x
find-added_same xs x none = find-append (is_of x.ino) xs (x ∷ []) ∙ ap (λ q. option_or q (find (is_of x.ino) (x ∷ []))) none ∙ find-one_same x

-- where no file has the number all stay
pub filter-absent : (n : ℕ) (xs : List MadeFile) → (In n (map number_of xs) → ⊥) → filter (is_not_of n) xs ≡ xs
filter-absent n xs out =
    filter-all (is_not_of n) xs (λ x i. ap not (ne_eqb x.ino n (λ e. out (subst (λ k. In k (map number_of xs)) e (In-map number_of x xs i)))))

pub filter-absent_none : (n : ℕ) (xs : List MadeFile) → (In n (map number_of xs) → ⊥) → filter (is_of n) xs ≡ []
filter-absent_none n xs out =
    filter-none (is_of n) xs (λ x i. ne_eqb x.ino n (λ e. out (subst (λ k. In k (map number_of xs)) e (In-map number_of x xs i))))

-- the file with a number, and those before and behind it
pub record IsSplit (n' : ℕ) (xs : List MadeFile) (x : MadeFile) : Type 0 where
  pub before : List MadeFile
  pub after : List MadeFile
  pub are : xs ≡ before ++ x ∷ after
  pub rest : filter (is_not_of n') xs ≡ before ++ after
  pub only : filter (is_of n') xs ≡ x ∷ []

split_step : (n : ℕ) (y : MadeFile) (ys : List MadeFile) (x : MadeFile) (v : Bool) → eqb y.ino n ≡ v → (find (is_of n) ys ≡ Some x → IsSplit n ys x)
    → cond v (Some y) (find (is_of n) ys) ≡ Some x
    → (In y.ino (map number_of ys) → ⊥) → IsSplit n (y ∷ ys) x
split_step n y ys x true t later e new = search (arith, IsSplit, eqb-true, filter-absent, filter-absent_none)
split_step n y ys x false t later e new =
    let q = later e in
    record {
      before = y ∷ q.before;
      after = q.after;
      are = ap (λ l. y ∷ l) q.are;
      rest = ap (λ v. cond (not v) (y ∷ filter (is_not_of n) ys) (filter (is_not_of n) ys)) t ∙ ap (λ l. y ∷ l) q.rest;
      only = ap (λ v. cond v (y ∷ filter (is_of n) ys) (filter (is_of n) ys)) t ∙ q.only;
    }

pub split : (n : ℕ) (xs : List MadeFile) (x : MadeFile) → find (is_of n) xs ≡ Some x → are_new [] (map number_of xs) ≡ true → IsSplit n xs x
split n [] x e new = absurd (let t : None ≡ Some x = e in cc t)
split n (y ∷ ys) x e new =
    let first = are_new-first y.ino (map number_of ys) new in
    split_step n y ys x (eqb y.ino n) refl (λ f. split n ys x f first.1) e first.0

-- ---- each once

-- the same numbers in another order
pub swapped : (a b c : List ℕ) → are_new [] (a ++ (b ++ c)) ≡ true → are_new [] (a ++ (c ++ b)) ≡ true
swapped a b c new =
    let p = apart_from a (b ++ c) new in
    let q = apart_from b c p.right in
    apart_to a (c ++ b) (record {
      left = p.left;
      right = apart_to c b (record { left = q.right; right = q.left; apart = λ n i j. q.apart n j i });
      apart = λ n i j. elim (In-cases n c b j) [ inl k ↦ p.apart n i (In-right n b c k) | inr k ↦ p.apart n i (In-left n b c k) ];
    })

-- without some
pub shorter : (a b c : List ℕ) → are_new [] (a ++ (b ++ c)) ≡ true → are_new [] (a ++ c) ≡ true
shorter a b c new = search (arith, apart_from, apart_to, In-right)

-- with one more
pub one_more : (xs zs : List ℕ) (n : ℕ) → are_new [] (xs ++ zs) ≡ true → (In n (xs ++ zs) → ⊥) → are_new [] ((xs ++ n ∷ []) ++ zs) ≡ true
one_more xs zs n new out = new_between xs (n ∷ []) zs new refl (λ k i. elim i [ inl e ↦ (λ j. out (subst (λ z. In z (xs ++ zs)) e j)) | inr i ↦ absurd i ])

-- ---- one taken out

find_step : (k n : ℕ) (x : MadeFile) (q r : Option MadeFile) (u v : Bool) → eqb x.ino n ≡ u → eqb x.ino k ≡ v → (k ≡ n → ⊥) → q ≡ r
    → cond (not u) (cond v (Some x) q) q ≡ cond v (Some x) r
find_step k n x q r u v e f d h = search (arith, eqb-true)

find-kept : (k : ℕ) (x : MadeFile) (xs : List MadeFile) (t : Bool)
    → find (is_of k) (cond t (x ∷ xs) xs) ≡ cond t (cond (eqb x.ino k) (Some x) (find (is_of k) xs)) (find (is_of k) xs)
find-kept k x xs t = search arith

-- each other file is found as before
pub find-without_other : (k n : ℕ) (xs : List MadeFile) → (k ≡ n → ⊥) → find (is_of k) (filter (is_not_of n) xs) ≡ find (is_of k) xs
find-without_other k n [] d = refl
find-without_other k n (x ∷ xs) d =
    find-kept k x (filter (is_not_of n) xs) (not (eqb x.ino n))
    ∙ find_step k n x (find (is_of k) (filter (is_not_of n) xs)) (find (is_of k) xs) (eqb x.ino n) (eqb x.ino k) refl refl d (find-without_other k n xs d)

-- what stays is none of that number
pub In-without : (n : ℕ) (x : MadeFile) (xs : List MadeFile) → In x (filter (is_not_of n) xs) → In x xs × (x.ino ≡ n → ⊥)
In-without n x xs i = search (arith, filter-In, false≢true, eq-eqb)

pub find-without_same : (n : ℕ) (xs : List MadeFile) → find (is_of n) (filter (is_not_of n) xs) ≡ None
find-without_same n xs =
    find-absent n (filter (is_not_of n) xs) (λ i.
    let q = map-In number_of n (filter (is_not_of n) xs) i in (In-without n q.0 xs q.1).1 (sym q.2))

-- none is found: no file has the number
pub absent-find : (n : ℕ) (xs : List MadeFile) → find (is_of n) xs ≡ None → In n (map number_of xs) → ⊥
absent-find n xs none i =
    let q = map-In number_of n xs i in
    let f = In-find (is_of n) xs q.0 q.1 (eq-eqb q.0.ino n (sym q.2)) in
    let wrong : None ≡ Some f.0 = sym none ∙ f.1 in absurd (cc wrong)

find-only_step : (n : ℕ) (x : MadeFile) (xs : List MadeFile) (t : Bool) → eqb x.ino n ≡ t → find (is_of n) (filter (is_of n) xs) ≡ find (is_of n) xs
    → find (is_of n) (cond t (x ∷ filter (is_of n) xs) (filter (is_of n) xs)) ≡ cond t (Some x) (find (is_of n) xs)
find-only_step n x xs t e h = search arith

-- among those of a number the first is the first of all
pub find-only : (n : ℕ) (xs : List MadeFile) → find (is_of n) (filter (is_of n) xs) ≡ find (is_of n) xs
find-only n [] = refl
find-only n (x ∷ xs) = find-only_step n x xs (eqb x.ino n) refl (find-only n xs)

-- each is of the number or isn't
pub In-parted : (n k : ℕ) (xs : List MadeFile) → In k (map number_of xs) → In k (map number_of (filter (is_not_of n) xs)) ⊎ In k (map number_of (filter (is_of n) xs))
In-parted n k xs i = search (arith, map-In, cases_eq, In-map, In-filter, eq-eqb, ne_eqb)

pub In-part : (p : MadeFile → Bool) (k : ℕ) (xs : List MadeFile) → In k (map number_of (filter p xs)) → In k (map number_of xs)
In-part p k xs i = search (arith, map-In, In-map, filter-In)
