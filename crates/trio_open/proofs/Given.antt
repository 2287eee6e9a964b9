-- Pages and their numbers, and things that stand once.
use Rattle.trio_open.proofs.Words.{◌&&◌, ◌++◌, ◌+◌, ◌<◌, ◌∙◌, ◌∷◌, ◌≡◌, AreWhole, Bool, In, LentPage, List, Read, Sheet, Some, Write, [], and_from, and_parts, ap, are_new, are_numbered, arith, drop, drop-cons, eq-eqb, false, false≢true, get_or, inl, inr, is_among, is_numbered, length, lent_sheet, list_any, map, map-In, map-append, no_at, not, option_map, page_at, refl, subst, suc, sym, take, take-suc, true, zero, ℕ}
use Rattle.std.specs.Prelude.{◌==◌}
use Rattle.std.proofs.lemmas.Bool.{eqb-true}
use Rattle.trio_nodes.specs.GrantKinds.{is_hold}
use Rattle.trio_nodes.specs.declared.grant.GrantKind.{GrantKind}
use Rattle.trio_nodes.specs.declared.grant.GrantKind.TheVariants.{Hold}
use Rattle.trio_lists.proofs.Filters.{list_any-map}
use Rattle.trio_open.specs.Belonging.{lent_numbers}

-- ---- pages and their numbers

numbered_is : (p : LentPage) (n : ℕ) → is_numbered (Some p.no.0) (Some p.page) n ≡ true → (p.no.0 ≡ n) × (length p.page ≡ 4096)
numbered_is p n e = (let a = and_parts (p.no.0 == n) (length p.page == 4096) e in (eqb-true p.no.0 n a.0, eqb-true (length p.page) 4096 a.1))

pub numbered_from : (ps : List LentPage) (ns : List ℕ) → are_numbered ps ns ≡ true → (lent_numbers ps ≡ ns) × AreWhole ps
numbered_from [] [] e = (refl, λ p i. absurd i)
numbered_from [] (n ∷ ns) e = absurd (false≢true e)
numbered_from (p ∷ ps) [] e = absurd (false≢true e)
numbered_from (p ∷ ps) (n ∷ ns) e =
    let a = and_parts (is_numbered (Some p.no.0) (Some p.page) n) (are_numbered ps ns) e in
    let here = numbered_is p n a.0 in
    let again = numbered_from ps ns a.1 in
    (ap (λ x. x ∷ lent_numbers ps) here.0 ∙ ap (λ l. n ∷ l) again.0, whole here.1 again.1)
  where
    whole : length p.page ≡ 4096 → AreWhole ps → AreWhole (p ∷ ps)
    whole here again x (inl same) = ap (λ (y : LentPage). length y.page) same ∙ here
    whole here again x (inr later) = again x later

pub numbered_back : (ps : List LentPage) (ns : List ℕ) → lent_numbers ps ≡ ns → AreWhole ps → are_numbered ps ns ≡ true
numbered_back ps ns same whole = subst (λ l. are_numbered ps l ≡ true) same (each ps whole)
  where
    each : (ps : List LentPage) → AreWhole ps → are_numbered ps (lent_numbers ps) ≡ true
    each [] whole = refl
    each (p ∷ ps) whole =
        and_from (is_numbered (Some p.no.0) (Some p.page) p.no.0) (are_numbered ps (lent_numbers ps))
        (and_from (p.no.0 == p.no.0) (length p.page == 4096) (eq-eqb p.no.0 p.no.0 refl) (eq-eqb (length p.page) 4096 (whole p (inl refl))))
        (each ps (λ x i. whole x (inr i)))

pub numbered_apart : (ps : List LentPage) (ns : List ℕ) → (length ps ≡ length ns → ⊥) → are_numbered ps ns ≡ false
numbered_apart [] [] d = absurd (d refl)
numbered_apart [] (n ∷ ns) d = refl
numbered_apart (p ∷ ps) [] d = refl
numbered_apart (p ∷ ps) (n ∷ ns) d =
    let again = numbered_apart ps ns (λ e. d (ap suc e)) in
    by (is_numbered (Some p.no.0) (Some p.page) n) again
  where
    by : (t : Bool) → are_numbered ps ns ≡ false → (t && are_numbered ps ns) ≡ false
    by true e = e
    by false e = refl

-- one page after another
pub numbered_at : (ps : List LentPage) (ns : List ℕ) (i : ℕ) → length ps ≡ length ns → i < length ns
    → are_numbered (drop i ps) (drop i ns) ≡ (is_numbered (option_map (λ n. n.0) (no_at ps i)) (page_at ps i) (get_or ns i 0) && are_numbered (drop (i + 1) ps) (drop (i + 1) ns))
numbered_at [] [] i same lt = absurd (omega (arith, lt))
numbered_at [] (n ∷ ns) i same lt = absurd cc
numbered_at (p ∷ ps) [] i same lt = absurd (omega (arith, lt))
numbered_at (p ∷ ps) (n ∷ ns) zero same lt = refl
numbered_at (p ∷ ps) (n ∷ ns) (suc i) same lt =
    let up : suc i + 1 ≡ suc (i + 1) = omega arith in
    rw up (numbered_at ps ns i (omega (arith, same)) (omega (arith, lt)))

-- ---- things that stand once

module _ {X : Type 0} (number : X → ℕ) where
  among_is : (xs : List X) (n : ℕ) → is_among n (map number xs) ≡ list_any (λ x. number x == n) xs
  among_is xs n = list_any-map number (λ m. m == n) xs

  pub once_at : (xs : List X) (i : ℕ) (d x : X) → i < length xs → x ≡ get_or xs i d
      → are_new (map number (take i xs)) (map number (drop i xs)) ≡ (not (list_any (λ y. number y == number x) (take i xs)) && are_new (map number (take (i + 1) xs)) (map number (drop (i + 1) xs)))
  once_at xs i d x lt is =
      let up : i + 1 ≡ suc i = omega arith in
      let more : map number (take (i + 1) xs) ≡ map number (take i xs) ++ number x ∷ [] =
      ap (λ k. map number (take k xs)) up ∙ ap (map number) (take-suc xs i d lt ∙ ap (λ y. take i xs ++ y ∷ []) (sym is)) ∙ map-append number (take i xs) (x ∷ []) in
      let rest : map number (drop i xs) ≡ number x ∷ map number (drop (i + 1) xs) =
      ap (map number) (drop-cons xs i d lt ∙ ap (λ y. y ∷ drop (suc i) xs) (sym is)) ∙ ap (λ k. number x ∷ map number (drop k xs)) (sym up) in
      ap (are_new (map number (take i xs))) rest
      ∙ ap (λ (t : Bool). not t && are_new (map number (take i xs) ++ number x ∷ []) (map number (drop (i + 1) xs))) (among_is (take i xs) (number x))
      ∙ ap (λ l. not (list_any (λ y. number y == number x) (take i xs)) && are_new l (map number (drop (i + 1) xs))) (sym more)

-- ---- holds and whole pages

pub hold_kind : (k : GrantKind) → is_hold k ≡ true → k ≡ Hold
hold_kind Hold e = refl
hold_kind Read e = absurd (false≢true e)
hold_kind Write e = absurd (false≢true e)

pub whole_sheets : (ps : List LentPage) → AreWhole ps → (x : Sheet) → In x (map lent_sheet ps) → length x.bytes ≡ 4096
whole_sheets ps whole x i = (let p = map-In lent_sheet x ps i in ap (λ (y : Sheet). length y.bytes) p.2 ∙ whole p.0 p.1)
