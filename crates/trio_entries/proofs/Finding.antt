-- What is found by number.
use Rattle.trio_entries.proofs.Words.{◌++◌, ◌+◌, ◌<◌, ◌||◌, ◌∙◌, ◌∷◌, ◌≡◌, ◌≤◌, Bool, Err, In, In-map, IsBinarySearchResult, IsPermutation, List, None, Ok, Option, Result, Some, [], ap, are_new, are_new-first, arith, cond, eqb, false, false≢true, find, get_or, get_or-In, get_or-set_other, get_or-set_same, get_or_default, inl, inr, is_among, is_among-In, is_among-not, is_some, length, length-map, length-take-le, list_any, map, map-append, nat_cmp, nat_tests, option_and_then, option_map, option_map_or, place_has, place_of, refl, replicate, set, slice_get, subst, suc, sym, take, take_more, true, zero, ℕ}
use Rattle.std.proofs.Common.{◌⊎◌}
use Rattle.std.specs.Prelude.{is_ok, MatchResult}
use Rattle.std.specs.Option.{option_or}
use Rattle.std.specs.List.Sorted.{IsNonDecreasing}
use Rattle.std.proofs.lemmas.Bool.{cases_eq}
use Rattle.std.proofs.lemmas.List.Sorted.{list_any-IsPermutation, searched}
use Rattle.trio_lists.proofs.Filters.{In-get_or}
use Rattle.trio_lists.proofs.Members.{In-is_among}
use Rattle.trio_case.proofs.Ordered.{place_none}

-- ---- places

or_suc : (a b : Option ℕ) → option_map suc (option_or a b) ≡ option_or (option_map suc a) (option_map suc b)
or_suc None b = refl
or_suc (Some i) b = refl

suc_if : (t : Bool) (i : ℕ) → option_map suc (cond t (Some i) None) ≡ cond t (Some (suc i)) None
suc_if true i = refl
suc_if false i = refl

first_or : (t : Bool) (a b : Option ℕ) → cond t (Some 0) (option_or a b) ≡ option_or (cond t (Some 0) a) b
first_or true a b = refl
first_or false a b = refl

place_of-last : (n y : ℕ) (xs : List ℕ) → place_of n (xs ++ y ∷ []) ≡ option_or (place_of n xs) (cond (eqb y n) (Some (length xs)) None)
place_of-last n y [] = refl
place_of-last n y (x ∷ xs) =
    ap (λ o. cond (eqb x n) (Some 0) (option_map suc o)) (place_of-last n y xs)
    ∙ ap (cond (eqb x n) (Some 0)) (or_suc (place_of n xs) (cond (eqb y n) (Some (length xs)) None) ∙ ap (option_or (option_map suc (place_of n xs))) (suc_if (eqb y n) (length xs)))
    ∙ first_or (eqb x n) (option_map suc (place_of n xs)) (cond (eqb y n) (Some (suc (length xs))) None)

-- the places among the numbers of one element more
pub place_more_by : {X : Type 0} (key : X → ℕ) (n i : ℕ) (xs : List X) (x : X) → i < length xs → place_of n (map key (take (i + 1) xs)) ≡ option_or (place_of n (map key (take i xs))) (cond (eqb (key (get_or xs i x)) n) (Some i) None)
place_more_by key n i xs x within =
    ap (λ l. place_of n (map key l)) (take_more xs i x within) ∙ ap (place_of n) (map-append key (take i xs) (get_or xs i x ∷ []))
    ∙ place_of-last n (key (get_or xs i x)) (map key (take i xs))
    ∙ ap (λ k. option_or (place_of n (map key (take i xs))) (cond (eqb (key (get_or xs i x)) n) (Some k) None)) (length-map (take i xs) key ∙ length-take-le i xs (omega (arith, within)))

-- ---- what stands at a place

later : {X : Type 0} (y : X) (ys : List X) (o : Option ℕ) → option_and_then (slice_get (y ∷ ys)) (option_map suc o) ≡ option_and_then (slice_get ys) o
later y ys None = refl
later y ys (Some i) = refl

-- at the place of a number stands the first that has it
pub place_found : {X : Type 0} (key : X → ℕ) (n : ℕ) (xs : List X) → option_and_then (slice_get xs) (place_of n (map key xs)) ≡ find (λ x. eqb (key x) n) xs
place_found key n [] = refl
place_found key n (x ∷ xs) = by (eqb (key x) n) (place_found key n xs)
  where
    by : (t : Bool) → option_and_then (slice_get xs) (place_of n (map key xs)) ≡ find (λ y. eqb (key y) n) xs → option_and_then (slice_get (x ∷ xs)) (cond t (Some 0) (option_map suc (place_of n (map key xs)))) ≡ cond t (Some x) (find (λ y. eqb (key y) n) xs)
    by true e = refl
    by false e = later x xs (place_of n (map key xs)) ∙ e

-- ---- the first of a number

-- where no number comes twice, each is the first of its number
pub find-first : {X : Type 0} (key : X → ℕ) (xs : List X) (x : X) → are_new [] (map key xs) ≡ true → In x xs → find (λ y. eqb (key y) (key x)) xs ≡ Some x
find-first key [] x new i = absurd i
find-first key (y ∷ ys) x new (inl same) =
    let here : eqb (key y) (key x) ≡ true = subst (λ z. eqb (key y) (key z) ≡ true) (sym same) (itself (key y)) in
    ap (λ t. cond t (Some y) (find (λ z. eqb (key z) (key x)) ys)) here ∙ ap Some (sym same)
  where
    itself : (n : ℕ) → eqb n n ≡ true
    itself n = grind (arith, nat_tests)
find-first key (y ∷ ys) x new (inr i) =
    let first = are_new-first (key y) (map key ys) new in
    let other : eqb (key y) (key x) ≡ false = differs (key y) (key x) (λ e. first.0 (subst (λ n. In n (map key ys)) (sym e) (In-map key x ys i))) in
    ap (λ t. cond t (Some y) (find (λ z. eqb (key z) (key x)) ys)) other ∙ find-first key ys x first.1 i
  where
    differs : (m n : ℕ) → (m ≡ n → ⊥) → eqb m n ≡ false
    differs m n h = grind (arith, nat_tests)

-- what is found of a list that was made of another
pub find-map : {X Y : Type 0} (f : X → Y) (p : Y → Bool) (xs : List X) → find p (map f xs) ≡ option_map f (find (λ x. p (f x)) xs)
find-map f p [] = refl
find-map f p (x ∷ xs) = by (p (f x)) (find-map f p xs)
  where
    by : (t : Bool) → find p (map f xs) ≡ option_map f (find (λ y. p (f y)) xs) → cond t (Some (f x)) (find p (map f xs)) ≡ option_map f (cond t (Some x) (find (λ y. p (f y)) xs))
    by true e = refl
    by false e = e

-- something is found exactly where there is something to find
pub find-any : {X : Type 0} (p : X → Bool) (xs : List X) → is_some (find p xs) ≡ list_any p xs
find-any p [] = refl
find-any p (x ∷ xs) = by (p x) (find-any p xs)
  where
    by : (t : Bool) → is_some (find p xs) ≡ list_any p xs → is_some (cond t (Some x) (find p xs)) ≡ (t || list_any p xs)
    by true e = refl
    by false e = e

-- what is found where a number has a place, and where it has none
pub placed : {X : Type 0} (key : X → ℕ) (n : ℕ) (xs : List X) (o : Option ℕ) → o ≡ place_of n (map key xs) → find (λ x. eqb (key x) n) xs ≡ option_and_then (slice_get xs) o
placed key n xs o h = sym (place_found key n xs) ∙ ap (option_and_then (slice_get xs)) (sym h)

none_at : {X : Type 0} (xs : List X) (o : Option ℕ) → xs ≡ [] → option_and_then (slice_get xs) o ≡ None
none_at [] None e = refl
none_at [] (Some i) e = refl
none_at (x ∷ xs) o e = absurd cc

-- the same, by the place among more numbers
more_found : {X : Type 0} (key : X → ℕ) (n : ℕ) (xs : List X) (more : List ℕ) → option_and_then (slice_get xs) (place_of n (map key xs ++ more)) ≡ find (λ x. eqb (key x) n) xs
more_found key n [] more = none_at [] (place_of n more) refl
more_found key n (x ∷ xs) more = by (eqb (key x) n) (more_found key n xs more)
  where
    by : (t : Bool) → option_and_then (slice_get xs) (place_of n (map key xs ++ more)) ≡ find (λ y. eqb (key y) n) xs → option_and_then (slice_get (x ∷ xs)) (cond t (Some 0) (option_map suc (place_of n (map key xs ++ more)))) ≡ cond t (Some x) (find (λ y. eqb (key y) n) xs)
    by true e = refl
    by false e = later x xs (place_of n (map key xs ++ more)) ∙ e

pub more_placed : {X : Type 0} (key : X → ℕ) (n : ℕ) (xs : List X) (more : List ℕ) (o : Option ℕ) → o ≡ place_of n (map key xs ++ more) → find (λ x. eqb (key x) n) xs ≡ option_and_then (slice_get xs) o
more_placed key n xs more o h = sym (more_found key n xs more) ∙ ap (option_and_then (slice_get xs)) (sym h)

pub place_within : {X : Type 0} (key : X → ℕ) (n : ℕ) (xs : List X) (i : ℕ) → Some i ≡ place_of n (map key xs) → i < length xs
place_within key n xs i h =
    let p = place_has n (map key xs) i (sym h) in
    let len = length-map xs key in omega (arith, p.0, len)

pub map_or_is : {X Y : Type 0} (f : X → Y) (o : Option X) (d y : Y) → option_map f o ≡ Some y → option_map_or f o d ≡ y
map_or_is f None d y h = absurd cc
map_or_is f (Some x) d y h = cc

-- ---- a search among numbers that rise

pub found_among : (xs : List ℕ) (n : ℕ) (r : Result ℕ ℕ) → IsNonDecreasing xs → IsBinarySearchResult (λ y. nat_cmp y n) xs r → is_ok r ≡ is_among n xs
found_among xs n r up is = of r (searched xs n r is (λ i j le l. up i j 0 le l))
  where
    of : (r : Result ℕ ℕ) → MatchResult r (λ i. (i < length xs) × (get_or xs i 0 ≡ n)) (λ i. (i ≤ length xs) × ((k : ℕ) → k < i → get_or xs k 0 < n) × ((k : ℕ) → i ≤ k → k < length xs → n < get_or xs k 0)) → is_ok r ≡ is_among n xs
    of (Ok i) h = sym (In-is_among n xs (subst (λ m. In m xs) h.1 (get_or-In xs i 0 h.0)))
    of (Err i) h = sym (is_among-not n xs (λ j. nowhere (In-get_or n xs j)))
      where
        nowhere : (k : ℕ) × (k < length xs) × (get_or xs k n ≡ n) → ⊥
        nowhere p =
            let same : get_or xs p.0 0 ≡ n = get_or_default xs p.0 0 n p.1 ∙ p.2 in
            grind (arith, same, p.1, h.1 p.0, h.2 p.0)

-- numbers in another order
pub among_moved : (n : ℕ) (xs ys : List ℕ) → IsPermutation xs ys → is_among n ys ≡ is_among n xs
among_moved n xs ys moved = sym (list_any-IsPermutation (λ x. eqb x n) xs ys moved)

-- ---- places that are noted

-- the place that is noted of a number, by where it stands among its own
abbrev noted : List (Option ℕ) → Option ℕ → Option ℕ
noted judged o = option_and_then (λ at. get_or judged at None) o

abbrev blank : ℕ → List (Option ℕ)
blank len = replicate len None

some_same : (a b : ℕ) → (let o : Option ℕ = Some a in o) ≡ Some b → a ≡ b
some_same a b e = cc

apart : (m n : ℕ) → (m ≡ n → ⊥) → eqb m n ≡ false
apart m n h = grind (arith, nat_tests)

equal : (m n : ℕ) → m ≡ n → eqb m n ≡ true
equal m n h = grind (arith, nat_tests)

or_none : (o : Option ℕ) → option_or o None ≡ o
or_none None = refl
or_none (Some x) = refl

has_place : (n : ℕ) (xs : List ℕ) → In n xs → (i : ℕ) × (place_of n xs ≡ Some i)
has_place n xs i = of (place_of n xs) refl
  where
    of : (o : Option ℕ) → place_of n xs ≡ o → (i : ℕ) × (place_of n xs ≡ Some i)
    of (Some i) e = (i, e)
    of None e = absurd (none_out n xs e i)
      where
        none_out : (n : ℕ) (xs : List ℕ) → place_of n xs ≡ None → In n xs → ⊥
        none_out n [] e i = i
        none_out n (x ∷ xs) e i = by (eqb x n) refl e i (none_out n xs)
          where
            by : (t : Bool) → eqb x n ≡ t → cond t (Some 0) (option_map suc (place_of n xs)) ≡ None → In n (x ∷ xs) → (place_of n xs ≡ None → In n xs → ⊥) → ⊥
            by true is e i rest = false≢true (sym (ap is_some e))
            by false is e (inl same) rest = (let t : eqb x n ≡ true = grind (arith, nat_tests, same) in false≢true (sym is ∙ t))
            by false is e (inr j) rest = rest (unsuc (place_of n xs) e) j
              where
                unsuc : (o : Option ℕ) → option_map suc o ≡ None → o ≡ None
                unsuc None e = refl
                unsuc (Some i) e = absurd cc

-- a number without a place is no own one
pub noted_none : (own : List ℕ) (judged : List (Option ℕ)) (m at n : ℕ) (o : Option ℕ) → None ≡ place_of m own → In n own → noted judged o ≡ option_or (noted judged o) (cond (eqb m n) (Some at) None)
noted_none own judged m at n o none i =
    let h = has_place n own i in
    let t : eqb m n ≡ false = apart m n (λ e. false≢true (ap is_some (none ∙ ap (λ x. place_of x own) e ∙ h.1))) in
    sym (ap (λ b. option_or (noted judged o) (cond b (Some at) None)) t ∙ or_none (noted judged o))

-- one place more: of the number m at its own place k
pub noted_more : (own : List ℕ) (judged : List (Option ℕ)) (m k at n : ℕ) (o : Option ℕ) → o ≡ place_of n own → Some k ≡ place_of m own → length judged ≡ length own → In n own → noted (set judged k (option_or (get_or judged k None) (Some at))) o ≡ option_or (noted judged o) (cond (eqb m n) (Some at) None)
noted_more own judged m k at n o oe is len i =
    let h = has_place n own i in
    let hk = place_has m own k (sym is) in
    let hn = place_has n own h.0 h.1 in
    let e : o ≡ Some h.0 = oe ∙ h.1 in
    ap (noted (set judged k (option_or (get_or judged k None) (Some at)))) e ∙ by h.0 hn.1 (cases_eq h.0 k) (omega (arith, hk.0, len)) hk.1 h.1 ∙ ap (λ p. option_or (noted judged p) (cond (eqb m n) (Some at) None)) (sym e)
  where
    by : (j : ℕ) → get_or own j 0 ≡ n → (j ≡ k) ⊎ (j ≡ k → ⊥) → k < length judged → get_or own k 0 ≡ m → place_of n own ≡ Some j → get_or (set judged k (option_or (get_or judged k None) (Some at))) j None ≡ option_or (get_or judged j None) (cond (eqb m n) (Some at) None)
    by j on (inl same) small om pn =
        let mn : m ≡ n = sym om ∙ ap (λ x. get_or own x 0) (sym same) ∙ on in
        let t : eqb m n ≡ true = equal m n mn in
        ap (λ x. get_or (set judged k (option_or (get_or judged k None) (Some at))) x None) same ∙ get_or-set_same judged k (option_or (get_or judged k None) (Some at)) None small
        ∙ sym (ap (λ x. option_or (get_or judged x None) (cond (eqb m n) (Some at) None)) same ∙ ap (λ b. option_or (get_or judged k None) (cond b (Some at) None)) t)
    by j on (inr differ) small om pn =
        let mn : m ≡ n → ⊥ = λ e. differ (some_same j k (sym pn ∙ ap (λ x. place_of x own) (sym e) ∙ sym is)) in
        let t : eqb m n ≡ false = apart m n mn in
        get_or-set_other judged k j (option_or (get_or judged k None) (Some at)) None differ ∙ sym (ap (λ b. option_or (get_or judged j None) (cond b (Some at) None)) t ∙ or_none (get_or judged j None))

blank_length : (len : ℕ) → length (blank len) ≡ len
blank_length zero = refl
blank_length (suc len) = ap suc (blank_length len)

pub unnoted_length : (judged : List (Option ℕ)) (len : ℕ) → judged ≡ blank len → length judged ≡ len
unnoted_length judged len e = ap length e ∙ blank_length len

pub or_turn : (a b c d t : Option ℕ) → a ≡ option_or b t → b ≡ c → d ≡ option_or c t → a ≡ d
or_turn a b c d t p q r = p ∙ ap (λ o. option_or o t) q ∙ sym r

no_place : (n : ℕ) (xs : List ℕ) → (In n xs → ⊥) → place_of n xs ≡ None
no_place n xs out = place_none n xs (λ k l e. out (subst (λ m. In m xs) e (get_or-In xs k 0 l)))

-- what is noted of all numbers, where it is of the own ones and others have no place
pub noted_all : (own files : List ℕ) (judged : List (Option ℕ)) (n : ℕ) (o : Option ℕ) → o ≡ place_of n own → (In n own → noted judged o ≡ place_of n files) → (In n files → In n own) → noted judged o ≡ place_of n files
noted_all own files judged n o e here within = by (is_among n own) refl
  where
    by : (b : Bool) → is_among n own ≡ b → noted judged o ≡ place_of n files
    by true t = here (is_among-In n own t)
    by false t =
        ap (noted judged) (e ∙ no_place n own (λ i. false≢true (sym t ∙ In-is_among n own i)))
        ∙ sym (no_place n files (λ i. false≢true (sym t ∙ In-is_among n own (within i))))
