-- Grants in the order of their entries.
use Rattle.std.proofs.Common.{◌≡◌, ℕ, ◌≤◌, Bool, true, false, nat_le, List, [], ◌∷◌, Option, Some, None, if◌then◌else◌, refl, sym, ap, ◌∙◌, arith, le_trans, le_of_lt, ◌==◌}
use Rattle.std.proofs.lemmas.Bool.{leb-true, leb-false, le-leb, lt-leb}
use Rattle.trio_grants.specs.declared.grant.Grant.{Grant}
use Rattle.trio_grants.specs.Grants.{Keyed, inserted, by_entry, first_with, without, least, held_number, lowest_held}
use Rattle.trio_grants.specs.inner.Search.{lower, lowest}
use Rattle.trio_rights.specs.declared.rights.LibNo.{LibNo}

-- no entry is lower than this
abbrev AtLeast : ℕ → List Keyed → Type 0
AtLeast e [] = Unit {0}
AtLeast e (x ∷ xs) = (e ≤ x.1.entry) × AtLeast e xs

abbrev pub Rising : List Keyed → Type 0
Rising [] = Unit {0}
Rising (x ∷ xs) = AtLeast x.1.entry xs × Rising xs

at_least-weaker : (d e : ℕ) (xs : List Keyed) → d ≤ e → AtLeast e xs → AtLeast d xs
at_least-weaker d e [] le all = tt
at_least-weaker d e (x ∷ xs) le all = (le_trans le all.0, at_least-weaker d e xs le all.1)

at_least-inserted : (e : ℕ) (x : Keyed) (ys : List Keyed) → e ≤ x.1.entry → AtLeast e ys → AtLeast e (inserted x ys)
at_least-inserted e x [] le all = (le, tt)
at_least-inserted e x (y ∷ ys) le all = by (at_least-inserted e x ys le all.1) (nat_le x.1.entry y.1.entry) refl
  where
    by : AtLeast e (inserted x ys) → (t : Bool) → nat_le x.1.entry y.1.entry ≡ t → AtLeast e (inserted x (y ∷ ys))
    by again true is = rw is (le, (all.0, all.1))
    by again false is = rw is (all.0, again)

rising-inserted : (x : Keyed) (ys : List Keyed) → Rising ys → Rising (inserted x ys)
rising-inserted x [] r = (tt, tt)
rising-inserted x (y ∷ ys) r = by (rising-inserted x ys r.1) (nat_le x.1.entry y.1.entry) refl
  where
    by : Rising (inserted x ys) → (t : Bool) → nat_le x.1.entry y.1.entry ≡ t → Rising (inserted x (y ∷ ys))
    by again true is = rw is ((leb-true _ _ is, at_least-weaker _ _ ys (leb-true _ _ is) r.0), (r.0, r.1))
    by again false is = rw is (at_least-inserted _ x ys (le_of_lt (leb-false _ _ is)) r.0, again)

rising-by_entry : (xs : List Keyed) → Rising (by_entry xs)
rising-by_entry [] = tt
rising-by_entry (x ∷ xs) = rising-inserted x (by_entry xs) (rising-by_entry xs)

first_is_low : (p : Grant → Bool) (g : Grant) (ys : List Keyed) → AtLeast g.entry ys → lower (Some g) (first_with p ys) ≡ Some g
first_is_low p g [] all = refl
first_is_low p g (y ∷ ys) all = by (first_is_low p g ys all.1) (p y.1) refl
  where
    by : lower (Some g) (first_with p ys) ≡ Some g → (t : Bool) → p y.1 ≡ t → lower (Some g) (first_with p (y ∷ ys)) ≡ Some g
    by again true is = rw (is, le-leb g.entry y.1.entry all.0) refl
    by again false is = rw is again

pub lower-none : (a : Option Grant) → lower a None ≡ a
lower-none None = refl
lower-none (Some a) = refl

first_with-inserted : (p : Grant → Bool) (x : Keyed) (ys : List Keyed) → Rising ys → first_with p (inserted x ys) ≡ lower (if p x.1 then Some x.1 else None) (first_with p ys)
first_with-inserted p x [] r = sym (lower-none _)
first_with-inserted p x (y ∷ ys) r = by (first_with-inserted p x ys r.1) (nat_le x.1.entry y.1.entry) refl (p x.1) refl (p y.1) refl
  where
    by : first_with p (inserted x ys) ≡ lower (if p x.1 then Some x.1 else None) (first_with p ys)
        → (t : Bool) → nat_le x.1.entry y.1.entry ≡ t → (u : Bool) → p x.1 ≡ u → (v : Bool) → p y.1 ≡ v
        → first_with p (inserted x (y ∷ ys)) ≡ lower (if p x.1 then Some x.1 else None) (first_with p (y ∷ ys))
    by again true is true px v py = rw (is, px) (sym (first_is_low p x.1 (y ∷ ys) (leb-true _ _ is, at_least-weaker _ _ ys (leb-true _ _ is) r.0)))
    by again true is false px v py = rw (is, px) refl
    by again false is true px true py = rw (is, px, py, is) refl
    by again false is false px true py = rw (is, px, py) refl
    by again false is u px false py = rw (is, py) again

-- the first in the order of entries is the lowest, wherever it stands
pub first_with-by_entry : (p : Grant → Bool) (xs : List Keyed) → first_with p (by_entry xs) ≡ lowest p xs
first_with-by_entry p [] = refl
first_with-by_entry p (x ∷ xs) =
    first_with-inserted p x (by_entry xs) (rising-by_entry xs) ∙ ap (lower (if p x.1 then Some x.1 else None)) (first_with-by_entry p xs)

pub lower_assoc : (a b c : Option Grant) → lower (lower a b) c ≡ lower a (lower b c)
lower_assoc None b c = refl
lower_assoc (Some a) None c = refl
lower_assoc (Some a) (Some b) None = lower-none _
lower_assoc (Some a) (Some b) (Some c) = by (nat_le a.entry b.entry) refl (nat_le b.entry c.entry) refl (nat_le a.entry c.entry) refl
  where
    by : (t : Bool) → nat_le a.entry b.entry ≡ t → (u : Bool) → nat_le b.entry c.entry ≡ u → (v : Bool) → nat_le a.entry c.entry ≡ v
        → lower (lower (Some a) (Some b)) (Some c) ≡ lower (Some a) (lower (Some b) (Some c))
    by true ab true bc v ac = rw (ab, bc, ab, le-leb a.entry c.entry (le_trans (leb-true _ _ ab) (leb-true _ _ bc))) refl
    by true ab false bc v ac = rw (ab, bc) refl
    by false ab true bc v ac = rw (ab, bc, ab) refl
    by false ab false bc v ac = rw (ab, bc, lt-leb a.entry c.entry (omega (arith, leb-false _ _ ab, leb-false _ _ bc))) refl

at_least-without : (e j : ℕ) (xs : List Keyed) → AtLeast e xs → AtLeast e (without j xs)
at_least-without e j [] all = tt
at_least-without e j (x ∷ xs) all = by (at_least-without e j xs all.1) (x.0 == j) refl
  where
    by : AtLeast e (without j xs) → (t : Bool) → (x.0 == j) ≡ t → AtLeast e (without j (x ∷ xs))
    by again true is = rw is again
    by again false is = rw is (all.0, again)

inserted-first : (x : Keyed) (ys : List Keyed) → AtLeast x.1.entry ys → inserted x ys ≡ x ∷ ys
inserted-first x [] all = refl
inserted-first x (y ∷ ys) all = rw (le-leb x.1.entry y.1.entry all.0) refl

without-inserted : (j : ℕ) (x : Keyed) (ys : List Keyed) → Rising ys → without j (inserted x ys) ≡ (if x.0 == j then without j ys else inserted x (without j ys))
without-inserted j x [] r = by (x.0 == j) refl
  where
    by : (t : Bool) → (x.0 == j) ≡ t → without j (x ∷ []) ≡ (if x.0 == j then [] else x ∷ [])
    by true is = rw is refl
    by false is = rw is refl
without-inserted j x (y ∷ ys) r =
    by (without-inserted j x ys r.1) (λ le. inserted-first x (without j (y ∷ ys)) (at_least-without _ j (y ∷ ys) (le, at_least-weaker _ _ ys le r.0)))
    (nat_le x.1.entry y.1.entry) refl (y.0 == j) refl (x.0 == j) refl
  where
    by : without j (inserted x ys) ≡ (if x.0 == j then without j ys else inserted x (without j ys))
        → (x.1.entry ≤ y.1.entry → inserted x (without j (y ∷ ys)) ≡ x ∷ without j (y ∷ ys))
        → (t : Bool) → nat_le x.1.entry y.1.entry ≡ t → (u : Bool) → (y.0 == j) ≡ u → (v : Bool) → (x.0 == j) ≡ v
        → without j (inserted x (y ∷ ys)) ≡ (if x.0 == j then without j (y ∷ ys) else inserted x (without j (y ∷ ys)))
    by again front true is u yj true xj = rw (is, xj) refl
    by again front true is u yj false xj = rw (is, xj) (sym (front (leb-true _ _ is)))
    by again front false is true yj v xj = rw (is, yj) again
    by again front false is false yj true xj = rw (is, yj, xj) (ap (λ zs. y ∷ zs) (rw xj at again))
    by again front false is false yj false xj = rw (is, yj, xj, is) (ap (λ zs. y ∷ zs) (rw xj at again))

pub without-by_entry : (j : ℕ) (xs : List Keyed) → without j (by_entry xs) ≡ by_entry (without j xs)
without-by_entry j [] = refl
without-by_entry j (x ∷ xs) = without-inserted j x (by_entry xs) (rising-by_entry xs) ∙ by (without-by_entry j xs) (x.0 == j) refl
  where
    by : without j (by_entry xs) ≡ by_entry (without j xs) → (t : Bool) → (x.0 == j) ≡ t
        → (if x.0 == j then without j (by_entry xs) else inserted x (without j (by_entry xs))) ≡ by_entry (without j (x ∷ xs))
    by again true is = rw is again
    by again false is = rw is (ap (inserted x) again)

pub least_assoc : (a b c : Option ℕ) → least (least a b) c ≡ least a (least b c)
least_assoc None b c = refl
least_assoc (Some a) None c = refl
least_assoc (Some a) (Some b) None = refl
least_assoc (Some a) (Some b) (Some c) = ap Some (omega arith)

least_swap : (a b c : Option ℕ) → least a (least b c) ≡ least b (least a c)
least_swap None b c = refl
least_swap (Some a) None c = refl
least_swap (Some a) (Some b) None = ap Some (omega arith)
least_swap (Some a) (Some b) (Some c) = ap Some (omega arith)

held-inserted : (lib : LibNo) (from : ℕ) (x : Keyed) (ys : List Keyed) → lowest_held lib from (inserted x ys) ≡ least (held_number lib from x.1) (lowest_held lib from ys)
held-inserted lib from x [] = refl
held-inserted lib from x (y ∷ ys) = by (held-inserted lib from x ys) (nat_le x.1.entry y.1.entry) refl
  where
    by : lowest_held lib from (inserted x ys) ≡ least (held_number lib from x.1) (lowest_held lib from ys) → (t : Bool) → nat_le x.1.entry y.1.entry ≡ t
        → lowest_held lib from (inserted x (y ∷ ys)) ≡ least (held_number lib from x.1) (lowest_held lib from (y ∷ ys))
    by again true is = rw is refl
    by again false is = rw is (ap (least (held_number lib from y.1)) again ∙ least_swap (held_number lib from y.1) (held_number lib from x.1) (lowest_held lib from ys))

-- the lowest number is the same in any order
pub held-by_entry : (lib : LibNo) (from : ℕ) (xs : List Keyed) → lowest_held lib from (by_entry xs) ≡ lowest_held lib from xs
held-by_entry lib from [] = refl
held-by_entry lib from (x ∷ xs) =
    held-inserted lib from x (by_entry xs) ∙ ap (least (held_number lib from x.1)) (held-by_entry lib from xs)
