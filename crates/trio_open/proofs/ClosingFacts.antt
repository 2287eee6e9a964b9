-- Grants that end in the table, and those that stay.
use Rattle.trio_open.proofs.Words.{if◌then◌else◌, ◌++◌, ◌+◌, ◌<◌, ◌==◌, ◌||◌, ◌∙◌, ◌∷◌, ◌≡◌, Bool, Bundle, HasKey, In-left, In-right, Keyed, LibNo, List, Opened, Some, [], and_from, and_parts, ap, are_new, are_new-append, are_new-before, are_new-fewer, arith, drop, drop-cons, eq-eqb, false, false≢true, filter, find, get_or, inl, is_among, is_in_bundle, keyed, length, map, map-append, not-true, option_map, refl, subst, suc, sym, take, take-suc, true, without, ℕ}
use Rattle.std.proofs.Common.{IsSome, IsTrue}
use Rattle.std.specs.Prelude.{not}
use Rattle.std.proofs.lemmas.List.{append_assoc}
use Rattle.std.proofs.lemmas.List.Elements.{filter-append}
use Rattle.trio_surveys.proofs.Sheets.{not_among}

abbrev pub keys : List Opened → List ℕ
keys files = map (λ o. o.key) files

-- those that stay
abbrev pub staying : LibNo → Bundle → List Opened → List Opened
staying lib b files = filter (λ o. not (is_in_bundle lib.0 b o.grant)) files

none_without : (key : ℕ) (files : List Opened) → is_among key (keys files) ≡ false → without key (map keyed files) ≡ map keyed files
none_without key [] e = refl
none_without key (o ∷ files) e = by (o.key == key) e (none_without key files)
  where
    by : (b : Bool) → (b || is_among key (keys files)) ≡ false → (is_among key (keys files) ≡ false → without key (map keyed files) ≡ map keyed files)
        → (if not b then keyed o ∷ without key (map keyed files) else without key (map keyed files)) ≡ keyed o ∷ map keyed files
    by true e again = absurd (false≢true (sym e))
    by false e again = ap (λ ks. keyed o ∷ ks) (again e)

-- the keys of the others are other ones
pub others : (kept rest : List Opened) (x : Opened) → IsTrue (are_new [] (keys (kept ++ x ∷ rest)))
    → (is_among x.key (keys kept) ≡ false) × (is_among x.key (keys rest) ≡ false) × IsTrue (are_new [] (keys (kept ++ rest)))
others kept rest x once =
    let split : are_new [] (keys kept ++ x.key ∷ keys rest) ≡ true = ap (are_new []) (sym (map-append (λ (o : Opened). o.key) kept (x ∷ rest))) ∙ once in
    let parts = and_parts (are_new [] (keys kept)) (are_new (keys kept) (x.key ∷ keys rest)) (sym (are_new-append [] (keys kept) (x.key ∷ keys rest)) ∙ split) in
    let more = and_parts (not (is_among x.key (keys kept))) (are_new (keys kept ++ x.key ∷ []) (keys rest)) parts.1 in
    let weaker = are_new-fewer (keys kept) (keys kept ++ x.key ∷ []) (keys rest) (λ n. In-left n (keys kept) (x.key ∷ [])) more.1 in (
      not-true (is_among x.key (keys kept)) more.0,
      not_among x.key (keys rest) (λ i. are_new-before x.key (keys kept ++ x.key ∷ []) (keys rest) more.1 i (In-right x.key (keys kept) (x.key ∷ []) (inl refl))),
      ap (are_new []) (map-append (λ (o : Opened). o.key) kept rest) ∙ are_new-append [] (keys kept) (keys rest) ∙ and_from (are_new [] (keys kept)) (are_new (keys kept) (keys rest)) parts.0 weaker,
    )

pub without_one : (kept rest : List Opened) (x : Opened) → IsTrue (are_new [] (keys (kept ++ x ∷ rest))) → without x.key (map keyed (kept ++ x ∷ rest)) ≡ map keyed (kept ++ rest)
without_one kept rest x once =
    let apart = others kept rest x once in
    ap (without x.key) (map-append keyed kept (x ∷ rest))
    ∙ filter-append (λ (y : Keyed). not (y.0 == x.key)) (map keyed kept) (keyed x ∷ map keyed rest)
    ∙ ap (λ ks. ks ++ without x.key (keyed x ∷ map keyed rest)) (none_without x.key kept apart.0)
    ∙ ap (λ b. map keyed kept ++ (if not b then keyed x ∷ without x.key (map keyed rest) else without x.key (map keyed rest))) (eq-eqb x.key x.key refl)
    ∙ ap (λ ks. map keyed kept ++ ks) (none_without x.key rest apart.1)
    ∙ sym (map-append keyed kept rest)

pub found_one : (kept rest : List Opened) (x : Opened) → HasKey x.key (map keyed (kept ++ x ∷ rest))
found_one [] rest x = by (x.key == x.key) (eq-eqb x.key x.key refl)
  where
    by : (b : Bool) → b ≡ true → IsSome (option_map (λ (y : Keyed). y.1) (if b then Some (keyed x) else find (λ (y : Keyed). y.0 == x.key) (map keyed rest)))
    by true e = refl
    by false e = absurd (false≢true e)
found_one (o ∷ kept) rest x = by (o.key == x.key) (found_one kept rest x)
  where
    by : (b : Bool) → HasKey x.key (map keyed (kept ++ x ∷ rest)) → IsSome (option_map (λ (y : Keyed). y.1) (if b then Some (keyed o) else find (λ (y : Keyed). y.0 == x.key) (map keyed (kept ++ x ∷ rest))))
    by true again = refl
    by false again = again

-- how far the end of the grants has come: those that were looked at stay or are gone, the others are still to come
pub record Going (lib : LibNo) (b : Bundle) (seen rest : List Opened) (grants : List Keyed) : Type 0 where
  pub table : grants ≡ map keyed (staying lib b seen ++ rest)
  pub once : IsTrue (are_new [] (keys (staying lib b seen ++ rest)))

module _ (lib : LibNo) (b : Bundle) (seen left : List Opened) (x : Opened) (grants : List Keyed) (going : Going lib b seen (x ∷ left) grants) where
  pub has_key : HasKey x.key grants
  has_key = subst (HasKey x.key) (sym going.table) (found_one (staying lib b seen) left x)

  stays_on : (t : Bool) → is_in_bundle lib.0 b x.grant ≡ t → staying lib b (seen ++ x ∷ []) ≡ staying lib b seen ++ (if not t then x ∷ [] else [])
  stays_on t e = filter-append (λ o. not (is_in_bundle lib.0 b o.grant)) seen (x ∷ []) ∙ ap (λ t. staying lib b seen ++ (if not t then x ∷ [] else [])) e

  pub going_ended : (after : List Keyed) → is_in_bundle lib.0 b x.grant ≡ true → after ≡ without x.key grants → Going lib b (seen ++ x ∷ []) left after
  going_ended after e ended =
      let none : staying lib b (seen ++ x ∷ []) ++ left ≡ staying lib b seen ++ left =
      ap (λ os. os ++ left) (stays_on true e) ∙ append_assoc (staying lib b seen) [] left in
      record {
        table = ended ∙ ap (without x.key) going.table ∙ without_one (staying lib b seen) left x going.once ∙ ap (map keyed) (sym none);
        once = subst (λ os. IsTrue (are_new [] (keys os))) (sym none) (others (staying lib b seen) left x going.once).2;
      }

  pub going_kept : is_in_bundle lib.0 b x.grant ≡ false → Going lib b (seen ++ x ∷ []) left grants
  going_kept e =
      let same : staying lib b (seen ++ x ∷ []) ++ left ≡ staying lib b seen ++ x ∷ left =
      ap (λ os. os ++ left) (stays_on false e) ∙ append_assoc (staying lib b seen) (x ∷ []) left in
      record {
        table = going.table ∙ ap (map keyed) (sym same);
        once = subst (λ os. IsTrue (are_new [] (keys os))) (sym same) going.once;
      }

module _ (lib : LibNo) (b : Bundle) (files : List Opened) (i : ℕ) (x : Opened) (grants : List Keyed) (lt : i < length files) (is : x ≡ get_or files i x) (going : Going lib b (take i files) (drop i files) grants) where
  up : i + 1 ≡ suc i
  up = omega arith

  front : drop i files ≡ x ∷ drop (i + 1) files
  front = drop-cons files i x lt ∙ ap (λ y. y ∷ drop (suc i) files) (sym is) ∙ ap (λ k. x ∷ drop k files) (sym up)

  longer : take i files ++ x ∷ [] ≡ take (i + 1) files
  longer = ap (λ y. take i files ++ y ∷ []) is ∙ sym (take-suc files i x lt) ∙ ap (λ k. take k files) (sym up)

  here : Going lib b (take i files) (x ∷ drop (i + 1) files) grants
  here = subst (λ rest. Going lib b (take i files) rest grants) front going

  pub next_key : HasKey x.key grants
  next_key = has_key lib b (take i files) (drop (i + 1) files) x grants here

  pub next_ended : (after : List Keyed) → is_in_bundle lib.0 b x.grant ≡ true → after ≡ without x.key grants → Going lib b (take (i + 1) files) (drop (i + 1) files) after
  next_ended after e ended = subst (λ seen. Going lib b seen (drop (i + 1) files) after) longer (going_ended lib b (take i files) (drop (i + 1) files) x grants here after e ended)

  pub next_kept : is_in_bundle lib.0 b x.grant ≡ false → Going lib b (take (i + 1) files) (drop (i + 1) files) grants
  next_kept e = subst (λ seen. Going lib b seen (drop (i + 1) files) grants) longer (going_kept lib b (take i files) (drop (i + 1) files) x grants here e)
