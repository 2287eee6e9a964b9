-- A climb over rows, from a file to the root, and the first number on the way down that denies.
use Rattle.std.proofs.Common.{◌≡◌, ◌≢◌, ℕ, zero, suc, ◌-◌, ◌<◌, Bool, true, false, not, List, [], ◌∷◌, ◌++◌, length, Option, Some, None, refl, sym, ap, subst, ◌∙◌, ◌⊎◌, inl, inr, arith}
use Rattle.std.specs.Prelude.{◌==◌, if◌then◌else◌}
use Rattle.std.specs.List.{find}
use Rattle.std.specs.Option.{option_or}
use Rattle.std.proofs.lemmas.Bool.{ne_eqb}
use Rattle.trio_rights.specs.Row.{Row, row_in}
use Rattle.trio_rights.specs.May.{ancestors, denier, row_permits}
use Rattle.trio_rights.specs.declared.rights.Creds.{Creds}
use Rattle.trio_rights.specs.declared.rights.Need.{Need}
use Rattle.trio_rights.specs.declared.rights.Need.TheVariants.{Read}
use Rattle.trio_tables.specs.inner.Climb.{parent_in}

-- the directories from this one up to the root, the root first, by at most so many steps
pub climbed : List (Option Row) → ℕ → ℕ → List ℕ
climbed rows zero parent = []
climbed rows (suc k) parent = if parent == 0 then [] else climbed rows k (parent_in (row_in rows parent)) ++ parent ∷ []

ancestors_climbed : (rows : List (Option Row)) (k : ℕ) (r : Option Row) → ancestors rows k r ≡ climbed rows k (parent_in r)
unfolding climbed
ancestors_climbed rows zero r = refl
ancestors_climbed rows (suc k) None = refl
ancestors_climbed rows (suc k) (Some r) = by_root (r.parent == 0) (ancestors_climbed rows k (row_in rows r.parent))
  where
    by_root : (b : Bool) {xs ys : List ℕ} → xs ≡ ys → (if b then [] else xs ++ r.parent ∷ []) ≡ (if b then [] else ys ++ r.parent ∷ [])
    by_root true e = refl
    by_root false e = ap (λ l. l ++ r.parent ∷ []) e

or_assoc : (a b c : Option ℕ) → option_or a (option_or b c) ≡ option_or (option_or a b) c
or_assoc None b c = refl
or_assoc (Some a) b c = refl

found_last : (test : ℕ → Bool) (xs : List ℕ) (x : ℕ) → find test (xs ++ x ∷ []) ≡ option_or (find test xs) (if test x then Some x else None)
found_last test [] x = refl
found_last test (y ∷ ys) x = by_test (test y) (found_last test ys x)
  where
    by_test : (b : Bool) → find test (ys ++ x ∷ []) ≡ option_or (find test ys) (if test x then Some x else None) → (if b then Some y else find test (ys ++ x ∷ [])) ≡ option_or (if b then Some y else find test ys) (if test x then Some x else None)
    by_test true e = refl
    by_test false e = e

-- the test by which a number on the way denies
pub denies : List (Option Row) → Creds → ℕ → Need → ℕ → Bool
denies rows creds ino need n = not (row_permits creds (if n == ino then need else Read) (row_in rows n))

denied_as : (b : Bool) (n : ℕ) → (if not b then Some n else None) ≡ (if b then None else Some n)
denied_as true n = refl
denied_as false n = refl

-- what is known once so many directories of the climb were asked
pub Climbed : List (Option Row) → Creds → ℕ → Need → ℕ → ℕ → Option ℕ → Type 0
Climbed rows creds ino need left parent found = denier rows creds ino need ≡ option_or (find (denies rows creds ino need) (climbed rows left parent)) found

-- what is known where this was found of the number itself, if anything
told_at : List (Option Row) → Creds → ℕ → Need → ℕ → Option ℕ
told_at rows creds ino need n = if row_permits creds (if n == ino then need else Read) (row_in rows n) then None else Some n

begins : (rows : List (Option Row)) (creds : Creds) (ino : ℕ) (need : Need) → Climbed rows creds ino need (length rows) (parent_in (row_in rows ino)) (told_at rows creds ino need ino)
unfolding denies Climbed told_at
begins rows creds ino need =
    let test = denies rows creds ino need in
    found_last test (ancestors rows (length rows) (row_in rows ino)) ino
    ∙ ap (λ l. option_or (find test l) (if test ino then Some ino else None)) (ancestors_climbed rows (length rows) (row_in rows ino))
    ∙ ap (λ o. option_or (find test (climbed rows (length rows) (parent_in (row_in rows ino)))) o) (denied_as (row_permits creds (if ino == ino then need else Read) (row_in rows ino)) ino)

pub climb_begins : (rows : List (Option Row)) (creds : Creds) (ino : ℕ) (need : Need) (left parent : ℕ) (found : Option ℕ) → length rows ≡ left → parent ≡ parent_in (row_in rows ino)
    → found ≡ (if row_permits creds (if ino == ino then need else Read) (row_in rows ino) then None else Some ino) → Climbed rows creds ino need left parent found
unfolding told_at
climb_begins rows creds ino need left parent found many up told =
    subst (λ l. Climbed rows creds ino need l parent found) many
    (subst (λ p. Climbed rows creds ino need (length rows) p found) (sym up)
    (subst (λ o. Climbed rows creds ino need (length rows) (parent_in (row_in rows ino)) o) (sym told) (begins rows creds ino need)))

goes_on : (rows : List (Option Row)) (creds : Creds) (ino : ℕ) (need : Need) (left parent : ℕ) (found : Option ℕ) → parent ≢ 0 → Climbed rows creds ino need (suc left) parent found
    → Climbed rows creds ino need left (parent_in (row_in rows parent)) (option_or (told_at rows creds ino need parent) found)
unfolding denies climbed Climbed told_at
goes_on rows creds ino need left parent found some so_far =
    let test = denies rows creds ino need in
    let up : climbed rows (suc left) parent ≡ climbed rows left (parent_in (row_in rows parent)) ++ parent ∷ [] =
    ap (λ (b : Bool). if b then [] else climbed rows left (parent_in (row_in rows parent)) ++ parent ∷ []) (ne_eqb parent 0 some) in
    let above = find test (climbed rows left (parent_in (row_in rows parent))) in
    so_far
    ∙ ap (λ l. option_or (find test l) found) up
    ∙ ap (λ o. option_or o found) (found_last test (climbed rows left (parent_in (row_in rows parent))) parent)
    ∙ sym (or_assoc above (if test parent then Some parent else None) found)
    ∙ ap (λ o. option_or above (option_or o found)) (denied_as (row_permits creds (if parent == ino then need else Read) (row_in rows parent)) parent)

pub climb_goes_on : (rows : List (Option Row)) (creds : Creds) (ino : ℕ) (need : Need) (left parent parent' : ℕ) (found here found' : Option ℕ) → 0 < left → parent ≢ 0
    → here ≡ (if row_permits creds (if parent == ino then need else Read) (row_in rows parent) then None else Some parent) → found' ≡ option_or here found → parent' ≡ parent_in (row_in rows parent)
    → Climbed rows creds ino need left parent found → Climbed rows creds ino need (left - 1) parent' found'
unfolding told_at
climb_goes_on rows creds ino need left parent parent' found here found' some below told is up so_far =
    let e : left ≡ suc (left - 1) = omega arith in
    let all : found' ≡ option_or (told_at rows creds ino need parent) found = is ∙ ap (λ o. option_or o found) told in
    subst (λ p. Climbed rows creds ino need (left - 1) p found') (sym up)
    (subst (λ o. Climbed rows creds ino need (left - 1) (parent_in (row_in rows parent)) o) (sym all)
    (goes_on rows creds ino need (left - 1) parent found below (subst (λ l. Climbed rows creds ino need l parent found) e so_far)))

pub climb_ends : (rows : List (Option Row)) (creds : Creds) (ino : ℕ) (need : Need) (left parent : ℕ) (found : Option ℕ) → (left ≡ 0) ⊎ (parent ≡ 0) → Climbed rows creds ino need left parent found → denier rows creds ino need ≡ found
unfolding climbed Climbed
climb_ends rows creds ino need zero parent found end so_far = so_far
climb_ends rows creds ino need (suc left) parent found (inl none) so_far = absurd cc
climb_ends rows creds ino need (suc left) parent found (inr root) so_far =
    so_far ∙ ap (λ (b : Bool). option_or (find (denies rows creds ino need) (if b then [] else climbed rows left (parent_in (row_in rows parent)) ++ parent ∷ [])) found) (ap (λ n. n == 0) root)
