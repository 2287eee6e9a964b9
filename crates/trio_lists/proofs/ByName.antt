-- A stable sort by name is the byte order of names.
use Rattle.std.proofs.Common.{◌≡◌, ℕ, Bool, true, false, not, List, [], ◌∷◌, map, refl, ap, ◌∙◌}
use Rattle.std.specs.Cmp.{IsStrictWeakOrder}
use Rattle.std.specs.Cmp.Lexicographic.{slice_cmp}
use Rattle.std.specs.List.Sorted.{IsSortedByKey, IsStableByKey}
use Rattle.std.specs.Ordering.{nat_cmp, is_lt, is_le, ordering_reverse}
use Rattle.std.specs.declared.cmp.Ordering.{Ordering}
use Rattle.std.specs.declared.cmp.Ordering.TheVariants.{Less, Equal, Greater}
use Rattle.std.proofs.lemmas.Cmp.{nat_list_cmp_total}
use Rattle.std.proofs.lemmas.List.Sorted.{ranks_by}
use Rattle.trio_lists.specs.Sorting.{inserted_by_name, sorted_by_name}
use Rattle.trio_lists.proofs.Stable.{put_in, put_all, sorted_stably}

not_after : (o : Ordering) → is_le (ordering_reverse o) ≡ not (is_lt o)
not_after Less = refl
not_after Equal = refl
not_after Greater = refl

not_after-names : (m n : List ℕ) → is_le (slice_cmp nat_cmp m n) ≡ not (is_lt (slice_cmp nat_cmp n m))
not_after-names m n = ap is_le (nat_list_cmp_total.antisymm m n) ∙ not_after (slice_cmp nat_cmp n m)

module _ {X : Type 0} (name : X → List ℕ) where
  abbrev name_lt : X → X → Bool
  name_lt x y = is_lt (slice_cmp nat_cmp (name x) (name y))

  name_order : IsStrictWeakOrder name_lt
  name_order = ranks_by nat_list_cmp_total name

  put_in-inserted : (x : X) (ys : List X) → put_in name_lt name_order x ys ≡ inserted_by_name name x ys
  put_in-inserted x [] = refl
  put_in-inserted x (y ∷ ys) = by (put_in-inserted x ys) (not (name_lt y x)) refl
    where
      by : put_in name_lt name_order x ys ≡ inserted_by_name name x ys → (t : Bool) → not (name_lt y x) ≡ t → put_in name_lt name_order x (y ∷ ys) ≡ inserted_by_name name x (y ∷ ys)
      by again true is = rw (not_after-names (name x) (name y), is) refl
      by again false is = rw (not_after-names (name x) (name y), is) (ap (λ l. y ∷ l) again)

  put_all-sorted : (xs : List X) → put_all name_lt name_order xs ≡ sorted_by_name name xs
  put_all-sorted [] = refl
  put_all-sorted (x ∷ xs) = put_in-inserted x (put_all name_lt name_order xs) ∙ ap (inserted_by_name name x) (put_all-sorted xs)

  -- what a stable sort by name leaves
  pub sorted_by_name-stable : (xs ys : List X) → IsSortedByKey name (slice_cmp nat_cmp) ys → IsStableByKey name (slice_cmp nat_cmp) xs ys → ys ≡ sorted_by_name name xs
  sorted_by_name-stable xs ys up stable = sorted_stably name_lt name_order xs ys up stable ∙ put_all-sorted xs

module _ {X Y : Type 0} (f : X → Y) (name : Y → List ℕ) where
  map-inserted_by_name : (x : X) (ys : List X) → map f (inserted_by_name (λ z. name (f z)) x ys) ≡ inserted_by_name name (f x) (map f ys)
  map-inserted_by_name x [] = refl
  map-inserted_by_name x (y ∷ ys) = by (map-inserted_by_name x ys) (is_le (slice_cmp nat_cmp (name (f x)) (name (f y)))) refl
    where
      by : map f (inserted_by_name (λ z. name (f z)) x ys) ≡ inserted_by_name name (f x) (map f ys) → (t : Bool) → is_le (slice_cmp nat_cmp (name (f x)) (name (f y))) ≡ t
          → map f (inserted_by_name (λ z. name (f z)) x (y ∷ ys)) ≡ inserted_by_name name (f x) (map f (y ∷ ys))
      by again true is = rw is refl
      by again false is = rw is (ap (λ l. f y ∷ l) again)

  -- sorted and then mapped, or the other way round
  pub map-sorted_by_name : (xs : List X) → map f (sorted_by_name (λ z. name (f z)) xs) ≡ sorted_by_name name (map f xs)
  map-sorted_by_name [] = refl
  map-sorted_by_name (x ∷ xs) =
      map-inserted_by_name x (sorted_by_name (λ z. name (f z)) xs) ∙ ap (inserted_by_name name (f x)) (map-sorted_by_name xs)
