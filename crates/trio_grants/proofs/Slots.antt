-- The grants in the slots of a slab, in the order of their entries.
use Rattle.std.proofs.Common.{◌≡◌, ◌≢◌, ℕ, zero, suc, ◌+◌, ◌<◌, Bool, true, false, nat_le, List, [], ◌∷◌, ◌++◌, Option, Some, None, refl, sym, ap, ◌∙◌, arith, get_or, set, ◌==◌, inl, inr}
use Rattle.std.specs.Option.{option_map_or}
use Rattle.std.proofs.lemmas.Bool.{le-leb, lt-leb, eq-eqb, ne_eqb}
use Rattle.std.proofs.lemmas.Bool.Decides.{eqb_tells}
use Rattle.std.proofs.lemmas.List.{get_or-set_other}
use Rattle.slab.specs.Slab.{entries_from}
use Rattle.trio_grants.specs.declared.grant.Grant.{Grant}
use Rattle.trio_grants.specs.Grants.{Keyed, inserted, by_entry, AllBelow, grant_under, without}

-- `AllBelow` by recursion
abbrev pub Below : ℕ → List Keyed → Type 0
Below entry [] = Unit {0}
Below entry (x ∷ xs) = (x.1.entry < entry) × Below entry xs

pub below_from_all : (e : ℕ) (xs : List Keyed) → AllBelow e xs → Below e xs
below_from_all e [] all = tt
below_from_all e (x ∷ xs) all = (all 0 x (omega arith), below_from_all e xs (λ k d lt. all (suc k) d (omega (arith, lt))))

below-inserted : (e : ℕ) (x : Keyed) (ys : List Keyed) → Below e (inserted x ys) → (x.1.entry < e) × Below e ys
below-inserted e x [] all = all
below-inserted e x (y ∷ ys) all = by (λ h. below-inserted e x ys h) (nat_le x.1.entry y.1.entry) refl all
  where
    by : (Below e (inserted x ys) → (x.1.entry < e) × Below e ys) → (t : Bool) → nat_le x.1.entry y.1.entry ≡ t → Below e (inserted x (y ∷ ys)) → (x.1.entry < e) × Below e (y ∷ ys)
    by again true is h = rw is at h
    by again false is h = let i = rw is at h in ((again i.1).0, (i.0, (again i.1).1))

pub below-by_entry : (e : ℕ) (xs : List Keyed) → Below e (by_entry xs) → Below e xs
below-by_entry e [] all = tt
below-by_entry e (x ∷ xs) all = let h = below-inserted e x (by_entry xs) all in (h.0, below-by_entry e xs h.1)

below-put : (e : ℕ) (x : Keyed) (ys : List Keyed) → x.1.entry < e → Below e ys → Below e (inserted x ys)
below-put e x [] le all = (le, tt)
below-put e x (y ∷ ys) le all = by (below-put e x ys le all.1) (nat_le x.1.entry y.1.entry) refl
  where
    by : Below e (inserted x ys) → (t : Bool) → nat_le x.1.entry y.1.entry ≡ t → Below e (inserted x (y ∷ ys))
    by again true is = rw is (le, all)
    by again false is = rw is (all.0, again)

below-sorted : (e : ℕ) (xs : List Keyed) → Below e xs → Below e (by_entry xs)
below-sorted e [] all = tt
below-sorted e (x ∷ xs) all = below-put e x (by_entry xs) all.0 (below-sorted e xs all.1)

-- one above all goes to the end
inserted-last : (x : Keyed) (ys : List Keyed) → Below x.1.entry ys → inserted x ys ≡ ys ++ x ∷ []
inserted-last x [] all = refl
inserted-last x (y ∷ ys) all = rw (lt-leb x.1.entry y.1.entry all.0) (ap (λ zs. y ∷ zs) (inserted-last x ys all.1))

-- and stays there
inserted-before : (x z : Keyed) (ys : List Keyed) → x.1.entry < z.1.entry → inserted x (ys ++ z ∷ []) ≡ inserted x ys ++ z ∷ []
inserted-before x z [] lt = rw (le-leb x.1.entry z.1.entry (omega arith)) refl
inserted-before x z (y ∷ ys) lt = by (inserted-before x z ys lt) (nat_le x.1.entry y.1.entry) refl
  where
    by : inserted x (ys ++ z ∷ []) ≡ inserted x ys ++ z ∷ [] → (t : Bool) → nat_le x.1.entry y.1.entry ≡ t → inserted x ((y ∷ ys) ++ z ∷ []) ≡ inserted x (y ∷ ys) ++ z ∷ []
    by again true is = rw is refl
    by again false is = rw is (ap (λ zs. y ∷ zs) again)

none_in : (n : ℕ) (xs : List (Option Grant)) → ((k : ℕ) → get_or xs k None ≡ None) → entries_from n xs ≡ []
none_in n [] gone = refl
none_in n (None ∷ xs) gone = none_in (n + 1) xs (λ k. gone (suc k))
none_in n (Some x ∷ xs) gone = grind (arith, gone 0)

-- slots that have the same, but for how many empty ones end them
same_entries : (n : ℕ) (xs ys : List (Option Grant)) → ((k : ℕ) → get_or ys k None ≡ get_or xs k None) → entries_from n ys ≡ entries_from n xs
same_entries n [] ys same = none_in n ys same
same_entries n (x ∷ xs) [] same = sym (none_in n (x ∷ xs) (λ k. sym (same k)))
same_entries n (x ∷ xs) (y ∷ ys) same = by x y (same_entries (n + 1) xs ys (λ k. same (suc k))) (same 0)
  where
    by : (x y : Option Grant) → entries_from (n + 1) ys ≡ entries_from (n + 1) xs → y ≡ x → entries_from n (y ∷ ys) ≡ entries_from n (x ∷ xs)
    by None None again e = again
    by (Some a) None again e = grind (arith, e)
    by None (Some a) again e = grind (arith, e)
    by (Some a) (Some b) again e = grind (arith, e, again)

-- a grant above all in a slot that was empty is the last
pub added : (n : ℕ) (xs ys : List (Option Grant)) (key j : ℕ) (g : Grant) → j ≡ n + key → get_or xs key None ≡ None → get_or ys key None ≡ Some g
    → ((k : ℕ) → k ≢ key → get_or ys k None ≡ get_or xs k None) → Below g.entry (entries_from n xs)
    → by_entry (entries_from n ys) ≡ by_entry (entries_from n xs) ++ (j, g) ∷ []
added n xs [] key j g at was is others all = grind (arith, is)
added n [] (y ∷ ys) zero j g at was is others all = by y is (none_in (n + 1) ys (λ k. others (suc k) (omega arith)))
  where
    by : (y : Option Grant) → y ≡ Some g → entries_from (n + 1) ys ≡ [] → by_entry (entries_from n (y ∷ ys)) ≡ (j, g) ∷ []
    by None e rest = grind (arith, e)
    by (Some v) e rest = grind (arith, e, rest, at)
added n [] (y ∷ ys) (suc k) j g at was is others all =
    by y (others 0 (omega arith)) (added (n + 1) [] ys k j g (omega arith) refl is (λ i differs. others (suc i) (omega arith)) tt)
  where
    by : (y : Option Grant) → y ≡ None → by_entry (entries_from (n + 1) ys) ≡ (j, g) ∷ [] → by_entry (entries_from n (y ∷ ys)) ≡ (j, g) ∷ []
    by None e again = again
    by (Some v) e again = grind (arith, e)
added n (x ∷ xs) (y ∷ ys) zero j g at was is others all = by x y was is (same_entries (n + 1) xs ys (λ k. others (suc k) (omega arith))) all
  where
    by : (x y : Option Grant) → x ≡ None → y ≡ Some g → entries_from (n + 1) ys ≡ entries_from (n + 1) xs → Below g.entry (entries_from n (x ∷ xs))
        → by_entry (entries_from n (y ∷ ys)) ≡ by_entry (entries_from n (x ∷ xs)) ++ (j, g) ∷ []
    by None None f e rest all = grind (arith, e)
    by (Some v) y f e rest all = grind (arith, f)
    by None (Some w) f e rest all =
        let h = ap (λ o. option_map_or (λ v. v) o g) e in
        let same : n ≡ j = omega arith in
        rw (h, rest) (inserted-last (n, g) (by_entry (entries_from (n + 1) xs)) (below-sorted g.entry (entries_from (n + 1) xs) all)
        ∙ ap (λ i. by_entry (entries_from (n + 1) xs) ++ (i, g) ∷ []) same)
added n (x ∷ xs) (y ∷ ys) (suc k) j g at was is others all =
    by x y (others 0 (omega arith)) (λ low. added (n + 1) xs ys k j g (omega arith) was is (λ i differs. others (suc i) (omega arith)) low) all
  where
    by : (x y : Option Grant) → y ≡ x → (Below g.entry (entries_from (n + 1) xs) → by_entry (entries_from (n + 1) ys) ≡ by_entry (entries_from (n + 1) xs) ++ (j, g) ∷ [])
        → Below g.entry (entries_from n (x ∷ xs)) → by_entry (entries_from n (y ∷ ys)) ≡ by_entry (entries_from n (x ∷ xs)) ++ (j, g) ∷ []
    by None None e again all = again all
    by None (Some w) e again all = grind (arith, e)
    by (Some v) None e again all = grind (arith, e)
    by (Some v) (Some w) e again all =
        let h = ap (λ o. option_map_or (λ u. u) o v) e in
        rw (h, again all.1) (inserted-before (n, v) (j, g) (by_entry (entries_from (n + 1) xs)) all.0)

without-low : (j n : ℕ) (xs : List (Option Grant)) → j < n → without j (entries_from n xs) ≡ entries_from n xs
without-low j n [] lt = refl
without-low j n (None ∷ xs) lt = without-low j (n + 1) xs (omega arith)
without-low j n (Some v ∷ xs) lt = rw (ne_eqb n j (omega arith)) (ap (λ zs. (n, v) ∷ zs) (without-low j (n + 1) xs (omega arith)))

-- a slot that is emptied takes its grant away
pub removed : (n : ℕ) (xs : List (Option Grant)) (key j : ℕ) → j ≡ n + key → without j (entries_from n xs) ≡ entries_from n (set xs key None)
removed n [] key j at = refl
removed n (None ∷ xs) zero j at = without-low j (n + 1) xs (omega arith)
removed n (Some v ∷ xs) zero j at = rw (eq-eqb n j (omega arith)) (without-low j (n + 1) xs (omega arith))
removed n (None ∷ xs) (suc k) j at = removed (n + 1) xs k j (omega arith)
removed n (Some v ∷ xs) (suc k) j at = rw (ne_eqb n j (omega arith)) (ap (λ zs. (n, v) ∷ zs) (removed (n + 1) xs k j (omega arith)))

emptied : (xs : List (Option Grant)) (key : ℕ) → get_or (set xs key None) key None ≡ None
emptied [] key = refl
emptied (x ∷ xs) zero = refl
emptied (x ∷ xs) (suc k) = emptied xs k

-- without the grant of a slot that was empty, the grants are as before
pub left_over : (n : ℕ) (xs ys : List (Option Grant)) (key j : ℕ) → j ≡ n + key → get_or xs key None ≡ None
    → ((k : ℕ) → k ≢ key → get_or ys k None ≡ get_or xs k None) → without j (entries_from n ys) ≡ entries_from n xs
left_over n xs ys key j at was others = removed n ys key j at ∙ same_entries n xs (set ys key None) same
  where
    same : (k : ℕ) → get_or (set ys key None) k None ≡ get_or xs k None
    same k = elim (eqb_tells k key) [
      | inl h ↦ rw h.1 (emptied ys key ∙ sym was)
      | inr h ↦ get_or-set_other ys key k None None h.1 ∙ others k h.1
    ]

under-miss : (j : ℕ) (x : Keyed) (ys : List Keyed) → x.0 ≢ j → grant_under j (inserted x ys) ≡ grant_under j ys
under-miss j x [] differs = rw (ne_eqb x.0 j differs) refl
under-miss j x (y ∷ ys) differs = by (under-miss j x ys differs) (nat_le x.1.entry y.1.entry) refl (y.0 == j) refl
  where
    by : grant_under j (inserted x ys) ≡ grant_under j ys → (t : Bool) → nat_le x.1.entry y.1.entry ≡ t → (u : Bool) → (y.0 == j) ≡ u
        → grant_under j (inserted x (y ∷ ys)) ≡ grant_under j (y ∷ ys)
    by again true is u here = rw (is, ne_eqb x.0 j differs) refl
    by again false is true here = rw (is, here) refl
    by again false is false here = rw (is, here) again

under-hit : (j : ℕ) (x : Keyed) (ys : List Keyed) → x.0 ≡ j → grant_under j ys ≡ None → grant_under j (inserted x ys) ≡ Some x.1
under-hit j x [] same none = rw (eq-eqb x.0 j same) refl
under-hit j x (y ∷ ys) same none = by (λ h. under-hit j x ys same h) (nat_le x.1.entry y.1.entry) refl (y.0 == j) refl none
  where
    by : (grant_under j ys ≡ None → grant_under j (inserted x ys) ≡ Some x.1) → (t : Bool) → nat_le x.1.entry y.1.entry ≡ t → (u : Bool) → (y.0 == j) ≡ u
        → grant_under j (y ∷ ys) ≡ None → grant_under j (inserted x (y ∷ ys)) ≡ Some x.1
    by again true is u here none = rw (is, eq-eqb x.0 j same) refl
    by again false is true here none = let h = rw here at none in grind (arith, h)
    by again false is false here none = let h = rw here at none in rw (is, here) (again h)

under-low : (j n : ℕ) (xs : List (Option Grant)) → j < n → grant_under j (by_entry (entries_from n xs)) ≡ None
under-low j n [] lt = refl
under-low j n (None ∷ xs) lt = under-low j (n + 1) xs (omega arith)
under-low j n (Some v ∷ xs) lt = under-miss j (n, v) (by_entry (entries_from (n + 1) xs)) (omega arith) ∙ under-low j (n + 1) xs (omega arith)

-- the grant of a key is what its slot has
pub under_slot : (n : ℕ) (xs : List (Option Grant)) (key j : ℕ) → j ≡ n + key → grant_under j (by_entry (entries_from n xs)) ≡ get_or xs key None
under_slot n [] key j at = refl
under_slot n (None ∷ xs) zero j at = under-low j (n + 1) xs (omega arith)
under_slot n (Some v ∷ xs) zero j at = under-hit j (n, v) (by_entry (entries_from (n + 1) xs)) (omega arith) (under-low j (n + 1) xs (omega arith))
under_slot n (None ∷ xs) (suc k) j at = under_slot (n + 1) xs k j (omega arith)
under_slot n (Some v ∷ xs) (suc k) j at = under-miss j (n, v) (by_entry (entries_from (n + 1) xs)) (omega arith) ∙ under_slot (n + 1) xs k j (omega arith)
