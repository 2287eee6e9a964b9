-- Lists with many places changed, and what is out by them.
use Rattle.std.proofs.Common.{◌≡◌, ◌≢◌, ℕ, ◌<◌, ◌≤◌, List, [], ◌∷◌, length, set, get_or, Option, None, IsSome, refl, sym, ap, subst, ◌∙◌, ◌⊎◌, inl, inr, arith, Bool, true, false, if◌then◌else◌, ◌==◌, ◌||◌, length-set, get_or-set_same, get_or-set_other}
use Rattle.std.specs.Prelude.{is_some}
use Rattle.std.specs.List.{list_any}
use Rattle.std.proofs.lemmas.Bool.{cases_eq, cases_lt, ne_eqb, eq-eqb, false≢true}
use Rattle.std.proofs.lemmas.List.{get_or_past, get_or-replicate, length-replicate}
use Rattle.trio_rights.specs.declared.rights.LibNo.{LibNo}
use Rattle.trio_tables.specs.Out.{none_out, lib_at, is_out, with_all}

-- where something is, is within the list
pub within_some : {X : Type 0} (xs : List (Option X)) (n : ℕ) → IsSome (get_or xs n None) → n < length xs
within_some xs n some = by (cases_lt n (length xs))
  where
    by : ((n < length xs) ⊎ (length xs ≤ n)) → n < length xs
    by (inl lt) = lt
    by (inr le) = grind (arith, get_or_past xs n None le, some)

always : {X : Type 0} (b : Bool) (x : X) → (if b then x else x) ≡ x
always true x = refl
always false x = refl

-- what the list says at a number: x, where it is among those that were set
pub with_all-read : {X : Type 0} (x d : X) (ns : List ℕ) (n : ℕ) (xs : List X) → n < length xs
    → get_or (with_all x ns xs) n d ≡ (if list_any (λ m. m == n) ns then x else get_or xs n d)
with_all-read x d [] n xs lt = refl
with_all-read x d (m ∷ ns) n xs lt =
    with_all-read x d ns n (set xs m x) (subst (λ k. n < k) (sym (length-set xs m x)) lt) ∙ by (cases_eq m n)
  where
    by : ((m ≡ n) ⊎ (m ≢ n))
        → (if list_any (λ m. m == n) ns then x else get_or (set xs m x) n d) ≡ (if (m == n) || list_any (λ m. m == n) ns then x else get_or xs n d)
    by (inl e) =
        ap (λ y. if list_any (λ m. m == n) ns then x else y) (ap (λ k. get_or (set xs k x) n d) e ∙ get_or-set_same xs n x d lt)
        ∙ always (list_any (λ m. m == n) ns) x ∙ sym (ap (λ b. if b || list_any (λ m. m == n) ns then x else get_or xs n d) (eq-eqb m n e))
    by (inr apart) =
        ap (λ y. if list_any (λ m. m == n) ns then x else y) (get_or-set_other xs m n x d (λ e. apart (sym e)))
        ∙ sym (ap (λ b. if b || list_any (λ m. m == n) ns then x else get_or xs n d) (ne_eqb m n apart))

pub length-with_all : {X : Type 0} (x : X) (ns : List ℕ) (xs : List X) → length (with_all x ns xs) ≡ length xs
length-with_all x [] xs = refl
length-with_all x (n ∷ ns) xs = length-with_all x ns (set xs n x) ∙ length-set xs n x

-- ---- what is out

-- where nothing is out no number is
pub lib_at-none_out : (count n : ℕ) → lib_at (none_out count) n ≡ None
lib_at-none_out count n = by (cases_lt n count)
  where
    by : ((n < count) ⊎ (count ≤ n)) → lib_at (none_out count) n ≡ None
    by (inl lt) = get_or-replicate count n None None lt
    by (inr le) =
        let none : Option LibNo = None in
        get_or_past (none_out count) n None (subst (λ k. k ≤ n) (sym (length-replicate count none)) le)

-- a number that isn't set stays as it was
pub lib_at-others : (o : Option LibNo) (ns : List ℕ) (n : ℕ) (outs : List (Option LibNo))
    → list_any (λ m. m == n) ns ≡ false → lib_at (with_all o ns outs) n ≡ lib_at outs n
lib_at-others o ns n outs unset = by (cases_lt n (length outs))
  where
    by : ((n < length outs) ⊎ (length outs ≤ n)) → lib_at (with_all o ns outs) n ≡ lib_at outs n
    by (inl lt) = with_all-read o None ns n outs lt ∙ ap (λ b. if b then o else lib_at outs n) unset
    by (inr le) =
        get_or_past (with_all o ns outs) n None (subst (λ k. k ≤ n) (sym (length-with_all o ns outs)) le)
        ∙ sym (get_or_past outs n None le)

-- a number of the list that is set is so
pub lib_at-set : (o : Option LibNo) (ns : List ℕ) (n : ℕ) (outs : List (Option LibNo))
    → n < length outs → list_any (λ m. m == n) ns ≡ true → lib_at (with_all o ns outs) n ≡ o
lib_at-set o ns n outs lt set' = with_all-read o None ns n outs lt ∙ ap (λ b. if b then o else lib_at outs n) set'

-- what is out once these went out was out before, or is one of these
pub is_out-given : (o : Option LibNo) (ns : List ℕ) (n : ℕ) (outs : List (Option LibNo))
    → is_out (with_all o ns outs) n ≡ true → (list_any (λ m. m == n) ns ≡ true) ⊎ (is_out outs n ≡ true)
is_out-given o ns n outs out = by (list_any (λ m. m == n) ns) refl
  where
    by : (b : Bool) → list_any (λ m. m == n) ns ≡ b → (list_any (λ m. m == n) ns ≡ true) ⊎ (is_out outs n ≡ true)
    by true e = inl e
    by false e = inr (ap is_some (sym (lib_at-others o ns n outs e)) ∙ out)

-- what is out once these are back was out before, and isn't one of these
pub is_out-back : (ns : List ℕ) (n : ℕ) (outs : List (Option LibNo))
    → is_out (with_all None ns outs) n ≡ true → (is_out outs n ≡ true) × (list_any (λ m. m == n) ns ≡ false)
is_out-back ns n outs out = by (list_any (λ m. m == n) ns) refl
  where
    by : (b : Bool) → list_any (λ m. m == n) ns ≡ b → (is_out outs n ≡ true) × (list_any (λ m. m == n) ns ≡ false)
    by false e = (ap is_some (sym (lib_at-others None ns n outs e)) ∙ out, e)
    by true e =
        let lt = subst (λ k. n < k) (length-with_all None ns outs) (within_some (with_all None ns outs) n out) in
        absurd (false≢true (sym (ap is_some (lib_at-set None ns n outs lt e)) ∙ out))
