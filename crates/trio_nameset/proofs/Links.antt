-- Names that are linked in byte order, and one name more.
use Rattle.std.proofs.Common.{◌≡◌, ◌≢◌, ℕ, ◌+◌, ◌<◌, ◌⊎◌, inl, inr, List, [], ◌∷◌, ◌++◌, length, get_or, set, Option, None, Some, refl, sym, ap, subst, ◌∙◌, arith, length-append}
use Rattle.std.proofs.lemmas.Bool.{cases_lt, cases_eq}
use Rattle.std.proofs.lemmas.List.{get_or_push, get_or_append_left, get_or-set_same, get_or-set_other, length-set}
use Rattle.trio_nameset.specs.declared.sorted.Position.{Position}
use Rattle.trio_nameset.specs.declared.sorted.Position.TheVariants.{Front, After}
use Rattle.trio_nameset.specs.inner.Sorted.{nth, IsLess, IsWithin, IsAbove, IsBelow, LeadsUp, IsGap, IsLinked, link_at}
use Rattle.trio_nameset.proofs.Less.{less_itself, less_trans, less_cases}

pub above_trans : (names : List (List ℕ)) (at : Position) (a b : List ℕ) → IsAbove names at a → IsLess a b → IsAbove names at b
above_trans names Front a b h k = tt
above_trans names (After i) a b h k = less_trans (nth names i) a b h k

pub below_trans : (names : List (List ℕ)) (link : Option ℕ) (a b : List ℕ) → IsLess a b → IsBelow names link b → IsBelow names link a
below_trans names None a b h k = tt
below_trans names (Some i) a b h k = less_trans a b (nth names i) h k

-- a name that belongs at a position isn't among those there
pub not_there : (names : List (List ℕ)) (first : Option ℕ) (next : List (Option ℕ)) (name : List ℕ) (at : Position)
    → IsLinked names first next → IsWithin names at → IsAbove names at name → IsBelow names (link_at first next at) name
    → (k : ℕ) → k < length names → nth names k ≡ name → ⊥
not_there names first next name at h w a b k lt e =
    h.gaps at w k lt (subst (λ n. IsAbove names at n) (sym e) a) (subst (λ n. IsBelow names (link_at first next at) n) (sym e) b)

-- and belongs at no other
one_place : (names : List (List ℕ)) (first : Option ℕ) (next : List (Option ℕ)) (name : List ℕ) (p q : Position)
    → IsLinked names first next → IsWithin names p → IsAbove names p name → IsBelow names (link_at first next p) name
    → IsWithin names q → IsAbove names q name → IsBelow names (link_at first next q) name → p ≡ q
one_place names first next name Front Front h wp ap bp wq aq bq = refl
one_place names first next name Front (After j) h wp ap bp wq aq bq =
    absurd (h.gaps Front tt j wq tt (below_trans names first (nth names j) name aq bp))
one_place names first next name (After i) Front h wp ap bp wq aq bq =
    absurd (h.gaps Front tt i wp tt (below_trans names first (nth names i) name ap bq))
one_place names first next name (After i) (After j) h wp a bp wq b bq =
    elim (less_cases (nth names i) (nth names j)) [
      | inl less ↦ absurd (h.gaps (After i) wp j wq less (below_trans names (link_at first next (After i)) (nth names j) name b bp))
      | inr (inl same) ↦ ap After (h.apart i j wp wq same)
      | inr (inr more) ↦ absurd (h.gaps (After j) wq i wp more (below_trans names (link_at first next (After j)) (nth names i) name a bq))
    ]

-- ---- a name more

nth_old : (names : List (List ℕ)) (name : List ℕ) (k : ℕ) → k < length names → nth (names ++ name ∷ []) k ≡ nth names k
nth_old names name k lt = get_or_append_left names (name ∷ []) [] k lt

nth_new : (names : List (List ℕ)) (name : List ℕ) (k : ℕ) → length names ≡ k → nth (names ++ name ∷ []) k ≡ name
nth_new names name k e = get_or_push names name [] k e

above_old : (names : List (List ℕ)) (name : List ℕ) (p : Position) (q : List ℕ) → IsWithin names p → IsAbove (names ++ name ∷ []) p q ≡ IsAbove names p q
above_old names name Front q w = refl
above_old names name (After i) q w = ap (λ n. IsLess n q) (nth_old names name i w)

below_old : (names : List (List ℕ)) (name : List ℕ) (p : Position) (link : Option ℕ) (q : List ℕ) → LeadsUp names p link → IsBelow (names ++ name ∷ []) link q ≡ IsBelow names link q
below_old names name p None q w = refl
below_old names name p (Some i) q w = ap (λ n. IsLess q n) (nth_old names name i w.0)

-- a position among the names and one more: after the new one, the given one, or another among the old
data Spot (names : List (List ℕ)) (at p : Position) : Type 0 where
  newest : p ≡ After (length names) → Spot names at p
  given : p ≡ at → Spot names at p
  other : IsWithin names p → p ≢ at → Spot names at p

-- the links after a name was put in at a position
record AreLinksWith (names : List (List ℕ)) (at : Position) (first : Option ℕ) (next : List (Option ℕ)) (first' : Option ℕ) (next' : List (Option ℕ)) : Type 0 where
  here : link_at first' next' at ≡ Some (length names)
  newest : link_at first' next' (After (length names)) ≡ link_at first next at
  others : (p : Position) → IsWithin names p → p ≢ at → link_at first' next' p ≡ link_at first next p

one_more : (names : List (List ℕ)) (name : List ℕ) → length (names ++ name ∷ []) ≡ length names + 1
one_more names name = length-append names (name ∷ [])

spot : (names : List (List ℕ)) (name : List ℕ) (at p : Position) → IsWithin (names ++ name ∷ []) p → Spot names at p
spot names name Front Front w = given refl
spot names name (After j) Front w = other tt (λ e. cc)
spot names name Front (After i) w =
    elim (cases_lt i (length names)) [
      | inl old ↦ other old (λ e. cc)
      | inr new ↦ newest (ap After (omega (arith, one_more names name)))
    ]
spot names name (After j) (After i) w =
    elim (cases_lt i (length names)) [
      | inl old ↦ elim (cases_eq i j) [ inl same ↦ given (ap After same) | inr differ ↦ other old (λ e. differ cc) ]
      | inr new ↦ newest (ap After (omega (arith, one_more names name)))
    ]

-- the index of one of the names, or of the new one
index_cases : (names : List (List ℕ)) (name : List ℕ) (k : ℕ) → k < length (names ++ name ∷ []) → (k < length names) ⊎ (length names ≡ k)
index_cases names name k lt =
    elim (cases_lt k (length names)) [ inl old ↦ inl old | inr new ↦ inr (omega (arith, one_more names name)) ]

leads_old : (names : List (List ℕ)) (name : List ℕ) (p : Position) (link : Option ℕ) → IsWithin names p → LeadsUp names p link → LeadsUp (names ++ name ∷ []) p link
leads_old names name p None w h = tt
leads_old names name p (Some i) w h = (
  omega (arith, one_more names name, h.0),
  subst (λ n. IsAbove (names ++ name ∷ []) p n) (sym (nth_old names name i h.0)) (subst (λ (A : Type 0). A) (sym (above_old names name p (nth names i) w)) h.1),
)

-- a link from the new name leads up, where it leads up from below it
leads_new : (names : List (List ℕ)) (name : List ℕ) (at : Position) (link : Option ℕ) → LeadsUp names at link → IsBelow names link name → LeadsUp (names ++ name ∷ []) (After (length names)) link
leads_new names name at None h b = tt
leads_new names name at (Some i) h b =
    (omega (arith, one_more names name, h.0), rw (nth_new names name (length names) refl, nth_old names name i h.0) b)

pub apart_more : (names : List (List ℕ)) (first : Option ℕ) (next : List (Option ℕ)) (name : List ℕ) → IsLinked names first next
    → ((k : ℕ) → k < length names → nth names k ≡ name → ⊥)
    → (i j : ℕ) → i < length (names ++ name ∷ []) → j < length (names ++ name ∷ []) → nth (names ++ name ∷ []) i ≡ nth (names ++ name ∷ []) j → i ≡ j
apart_more names first next name h new i j wi wj e =
    elim (index_cases names name i wi) [
      | inl old ↦ elim (index_cases names name j wj) [
        | inl old' ↦ h.apart i j old old' (sym (nth_old names name i old) ∙ e ∙ nth_old names name j old')
        | inr last ↦ absurd (new i old (sym (nth_old names name i old) ∙ e ∙ nth_new names name j last))
      ]
      | inr last ↦ elim (index_cases names name j wj) [
        | inl old' ↦ absurd (new j old' (sym (nth_old names name j old') ∙ sym e ∙ nth_new names name i last))
        | inr last' ↦ sym last ∙ last'
      ]
    ]

module _ (names : List (List ℕ)) (first : Option ℕ) (next : List (Option ℕ)) (name : List ℕ) (at : Position) (h : IsLinked names first next) (w : IsWithin names at) (a : IsAbove names at name) (b : IsBelow names (link_at first next at) name) where
  abbrev all : List (List ℕ)
  all = names ++ name ∷ []

  abbrev link : Option ℕ
  link = link_at first next at

  -- from a type to one that is equal
  along : (A B : Type 0) → A ≡ B → A → B
  along A B e x = subst (λ (X : Type 0). X) e x

  gap_newest : IsGap all (After (length names)) link
  gap_newest k lt over under =
      elim (index_cases names name k lt) [
        | inl old ↦
            let over' : IsLess name (nth names k) = rw (nth_new names name (length names) refl, nth_old names name k old) at over in
            let under' : IsBelow names link (nth names k) = along _ _ (below_old names name at link (nth names k) (h.rising at w)) (subst (λ n. IsBelow all link n) (nth_old names name k old) under) in
            h.gaps at w k old (above_trans names at name (nth names k) a over') under'
        | inr last ↦ less_itself name (rw (nth_new names name (length names) refl, nth_new names name k last) at over)
      ]

  gap_given : IsGap all at (Some (length names))
  gap_given k lt over under =
      elim (index_cases names name k lt) [
        | inl old ↦
            let over' : IsAbove names at (nth names k) = along _ _ (above_old names name at (nth names k) w) (subst (λ n. IsAbove all at n) (nth_old names name k old) over) in
            let under' : IsLess (nth names k) name = rw (nth_new names name (length names) refl, nth_old names name k old) at under in
            h.gaps at w k old over' (below_trans names link (nth names k) name under' b)
        | inr last ↦ less_itself name (rw (nth_new names name k last, nth_new names name (length names) refl) at under)
      ]

  gap_other : (p : Position) → IsWithin names p → p ≢ at → IsGap all p (link_at first next p)
  gap_other p wp ne k lt over under =
      elim (index_cases names name k lt) [
        | inl old ↦
            h.gaps p wp k old
            (along _ _ (above_old names name p (nth names k) wp) (subst (λ n. IsAbove all p n) (nth_old names name k old) over))
            (along _ _ (below_old names name p (link_at first next p) (nth names k) (h.rising p wp)) (subst (λ n. IsBelow all (link_at first next p) n) (nth_old names name k old) under))
        | inr last ↦
            let over' : IsAbove names p name = along _ _ (above_old names name p name wp) (subst (λ n. IsAbove all p n) (nth_new names name k last) over) in
            let under' : IsBelow names (link_at first next p) name = along _ _ (below_old names name p (link_at first next p) name (h.rising p wp)) (subst (λ n. IsBelow all (link_at first next p) n) (nth_new names name k last) under) in
            ne (one_place names first next name p at h wp over' under' w a b)
      ]

  -- the names with one more are linked
  linked_more : (first' : Option ℕ) (next' : List (Option ℕ)) → AreLinksWith names at first next first' next' → IsLinked all first' next'
  linked_more first' next' l = record {
    apart = apart_more names first next name h (not_there names first next name at h w a b);
    rising = λ p wp.
        elim (spot names name at p wp) [
          | newest e ↦ subst (λ q. LeadsUp all q (link_at first' next' q)) (sym e) (subst (λ o. LeadsUp all (After (length names)) o) (sym l.newest) (leads_new names name at link (h.rising at w) b))
          | given e ↦ subst (λ q. LeadsUp all q (link_at first' next' q)) (sym e) (subst (λ o. LeadsUp all at o) (sym l.here) (leads_given))
          | other o ne ↦ subst (λ k. LeadsUp all p k) (sym (l.others p o ne)) (leads_old names name p (link_at first next p) o (h.rising p o))
        ];
    gaps = λ p wp.
        elim (spot names name at p wp) [
          | newest e ↦ subst (λ q. IsGap all q (link_at first' next' q)) (sym e) (subst (λ o. IsGap all (After (length names)) o) (sym l.newest) gap_newest)
          | given e ↦ subst (λ q. IsGap all q (link_at first' next' q)) (sym e) (subst (λ o. IsGap all at o) (sym l.here) gap_given)
          | other o ne ↦ subst (λ k. IsGap all p k) (sym (l.others p o ne)) (gap_other p o ne)
        ];
  }
    where
      leads_given : LeadsUp all at (Some (length names))
      leads_given = (
        omega (arith, one_more names name),
        subst (λ n. IsAbove all at n) (sym (nth_new names name (length names) refl)) (along _ _ (sym (above_old names name at name w)) a),
      )

-- in front of all
pub linked_front : (names : List (List ℕ)) (first : Option ℕ) (next : List (Option ℕ)) (name : List ℕ) (n : ℕ) (link : Option ℕ) → IsLinked names first next
    → IsBelow names (link_at first next Front) name → length names ≡ n → n < length next → link ≡ first
    → IsLinked (names ++ name ∷ []) (Some n) (set next n link)
linked_front names first next name n link h b e room is =
    subst (λ m. IsLinked (names ++ name ∷ []) (Some m) (set next m link)) e
    (linked_more names first next name Front h tt tt b (Some (length names)) (set next (length names) link)
    (record { here = refl; newest = get_or-set_same next (length names) link None (omega arith) ∙ is; others = others }))
  where
    others : (p : Position) → IsWithin names p → p ≢ Front → link_at (Some (length names)) (set next (length names) link) p ≡ link_at first next p
    others Front w ne = absurd (ne refl)
    others (After i) w ne = get_or-set_other next (length names) i link None (omega arith)

-- next after one of the names
pub linked_after : (names : List (List ℕ)) (first : Option ℕ) (next : List (Option ℕ)) (name : List ℕ) (n before : ℕ) (link : Option ℕ) → IsLinked names first next
    → before < length names → IsLess (nth names before) name → IsBelow names (link_at first next (After before)) name → length names ≡ n → n < length next → link ≡ get_or next before None
    → IsLinked (names ++ name ∷ []) first (set (set next n link) before (Some n))
linked_after names first next name n before link h w a b e room is =
    subst (λ m. IsLinked (names ++ name ∷ []) first (set (set next m link) before (Some m))) e
    (linked_more names first next name (After before) h w a b first (set (set next (length names) link) before (Some (length names)))
    (record {
      here = get_or-set_same (set next (length names) link) before (Some (length names)) None (omega (arith, length-set next (length names) link));
      newest = get_or-set_other (set next (length names) link) before (length names) (Some (length names)) None (omega arith) ∙ get_or-set_same next (length names) link None (omega arith) ∙ is;
      others = others;
    }))
  where
    others : (p : Position) → IsWithin names p → p ≢ After before → link_at first (set (set next (length names) link) before (Some (length names))) p ≡ link_at first next p
    others Front w' ne = refl
    others (After i) w' ne =
        get_or-set_other (set next (length names) link) before i (Some (length names)) None (λ same. ne (ap After same))
        ∙ get_or-set_other next (length names) i link None (omega arith)
