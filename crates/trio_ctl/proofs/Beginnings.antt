-- A release that begins is promised an entry, and one that is taken out gives its promise back.
use Rattle.trio_ctl.proofs.Words.{◌+◌, ◌-◌, ◌<◌, ◌∙◌, ◌∷◌, ◌≡◌, ◌≢◌, ◌≤◌, Creds, Entries, IsControlled, IsStored, Keyed, List, None, Opened, Option, Outline, Some, Store, Underway, [], ap, arith, begun_among, begun_by, cases_lt, get_or, grants_in, inl, inr, is_some, length, reads_among, refl, set, slice_get_read, subst, suc, sym, zero, ℕ}
use Rattle.std.proofs.Common.{length-set}
use Rattle.std.proofs.lemmas.List.Sums.{sum_by-set}
use Rattle.std.proofs.lemmas.Option.{get_or_from_slice_get}
use Rattle.std.specs.Prelude.{cond}

-- ---- where what has begun of a library stands

pub begun_place : (u : Underway) (lib : ℕ) → 1 ≤ lib → begun_by u lib ≡ get_or u.begun (lib - 1) None
begun_place u zero some = absurd (omega (arith, some))
begun_place u (suc n) some = (let place : suc n - 1 ≡ n = omega arith in ap (λ m. get_or u.begun m None) (sym place))

past : {X : Type 0} (xs : List (Option X)) (n : ℕ) → length xs ≤ n → get_or xs n None ≡ None
past [] n far = refl
past (x ∷ xs) zero far = absurd (omega (arith, far))
past (x ∷ xs) (suc n) far = past xs n (omega (arith, far))

-- something has begun of a library alone, and stands in its place
pub begun_stands : (u : Underway) (lib : ℕ) → begun_by u lib ≢ None → (1 ≤ lib) × (lib - 1 < length u.begun)
begun_stands u zero there = absurd (there refl)
begun_stands u (suc n) there =
    elim (cases_lt n (length u.begun)) [
      | inl within ↦ (omega arith, omega (arith, within))
      | inr far ↦ absurd (there (past u.begun n far))
    ]

-- what is taken out of its place
pub stands_there : (begun : List (Option Outline)) (place : ℕ) (stood taken : Option Outline) (o : Outline) → place < length begun → stood ≡ get_or begun place stood → taken ≡ stood → taken ≡ Some o → get_or begun place None ≡ Some o
stands_there begun place stood taken o lt is same some =
    get_or_from_slice_get begun place stood None (slice_get_read begun (length begun) place stood refl lt is) ∙ sym same ∙ some

-- ---- promises

abbrev one_if : Option Outline → ℕ
one_if x = cond (is_some x) 1 0

pub one_more_begun : (begun : List (Option Outline)) (i : ℕ) (o : Outline) → i < length begun → get_or begun i None ≡ None → begun_among (set begun i (Some o)) ≡ begun_among begun + 1
one_more_begun begun i o lt none =
    let all : begun_among (set begun i (Some o)) + one_if (get_or begun i None) ≡ begun_among begun + 1 = sum_by-set one_if begun i (Some o) None lt in
    let was : one_if (get_or begun i None) ≡ 0 = ap one_if none in
    omega (arith, all, was)

pub one_less_begun : (begun : List (Option Outline)) (i : ℕ) (o : Outline) → i < length begun → get_or begun i None ≡ Some o → begun_among (set begun i None) + 1 ≡ begun_among begun
one_less_begun begun i o lt some =
    let all : begun_among (set begun i None) + one_if (get_or begun i None) ≡ begun_among begun + 0 = sum_by-set one_if begun i None None lt in
    let was : one_if (get_or begun i None) ≡ 1 = ap one_if some in
    omega (arith, all, was)

-- other promises and what has begun by them
pub promised_controlled : (s : Store) (first : ℕ) (table : List Keyed) (files : List Opened) (creds : List Creds) (entries entries' : Entries) (begun begun' : List (Option Outline)) → IsControlled s first table files creds entries begun → entries'.made ≡ entries.made → length begun' ≡ length begun → entries'.promised ≡ reads_among (grants_in files) + begun_among begun' → IsControlled s first table files creds entries' begun'
promised_controlled s first table files creds entries entries' begun begun' k made long promised' = record {
  stored = subst (λ n. IsStored s first (grants_in files) creds n) (sym made) k.stored;
  no_zero = k.no_zero;
  some_libraries = k.some_libraries;
  few_libraries = k.few_libraries;
  grants = k.grants;
  keys_once = k.keys_once;
  earlier = λ o i. subst (λ n. o.grant.entry < n) (sym made) (k.earlier o i);
  placed = long ∙ k.placed;
  promised = promised';
  kinds = k.kinds;
  told = k.told;
}

-- a release begins
pub begins_controlled : (s : Store) (first : ℕ) (table : List Keyed) (files : List Opened) (creds : List Creds) (entries entries' : Entries) (begun : List (Option Outline)) (place : ℕ) (o : Outline) → IsControlled s first table files creds entries begun → entries' ≡ record entries { promised = entries.promised + 1 } → place < length begun → get_or begun place None ≡ None → IsControlled s first table files creds entries' (set begun place (Some o))
begins_controlled s first table files creds entries entries' begun place o k next lt none =
    let more = one_more_begun begun place o lt none in
    let was = k.promised in
    let is = ap (λ (e : Entries). e.promised) next in
    promised_controlled s first table files creds entries entries' begun (set begun place (Some o)) k (ap (λ (e : Entries). e.made) next) (length-set begun place (Some o)) (omega (arith, more, was, is))

-- one is taken out
pub takes_controlled : (s : Store) (first : ℕ) (table : List Keyed) (files : List Opened) (creds : List Creds) (entries entries' : Entries) (begun : List (Option Outline)) (place : ℕ) (o : Outline) → IsControlled s first table files creds entries begun → entries' ≡ record entries { promised = entries.promised - 1 } → place < length begun → get_or begun place None ≡ Some o → IsControlled s first table files creds entries' (set begun place None)
takes_controlled s first table files creds entries entries' begun place o k next lt some =
    let less = one_less_begun begun place o lt some in
    let was = k.promised in
    let is = ap (λ (e : Entries). e.promised) next in
    promised_controlled s first table files creds entries entries' begun (set begun place None) k (ap (λ (e : Entries). e.made) next) (length-set begun place None) (omega (arith, less, was, is))

-- something is promised where something has begun
pub some_promised : (s : Store) (first : ℕ) (table : List Keyed) (files : List Opened) (creds : List Creds) (entries : Entries) (begun : List (Option Outline)) (place : ℕ) (o : Outline) → IsControlled s first table files creds entries begun → place < length begun → get_or begun place None ≡ Some o → 0 < entries.promised
some_promised s first table files creds entries begun place o k lt some =
    let less = one_less_begun begun place o lt some in
    let was = k.promised in
    omega (arith, less, was)
