-- The copied rows in a list, in rising order of their numbers.
use Rattle.trio_case.proofs.Words.{◌++◌, ◌+◌, ◌<◌, ◌||◌, ◌∙◌, ◌∷◌, ◌≡◌, ◌≤◌, AreRising, Bundled, List, None, Numbers, Option, Row, RowData, Some, Tells, [], ap, arith, as_row, bundle_in, cases_eq, cases_lt, copied_row, eqb, false, get_or, get_or_append_left, inl, inr, is_among, length, length-append, most_copied, option_and_then, option_map, place_of, refl, row_in, row_listed, slice_get, slice_get-get_or, subst, sym, true, ℕ}
use Rattle.std.proofs.lemmas.List.{get_or_past}
use Rattle.std.proofs.Math.Seq.{get_or-append_seam}
use Rattle.trio_case.proofs.CaseRows.{copied_if}
use Rattle.trio_case.proofs.CopiedCount.{copied_below, copied_few, copied_later, copied_next}
use Rattle.trio_case.proofs.Counted.{place_left, place_right, place_within}
use Rattle.trio_case.proofs.Making.{slice_get-last, slice_get-left}
use Rattle.trio_case.proofs.Ordered.{differs, place_none, same_here}

-- of the numbers below this one, just the copied rows are listed
pub record AreListed (t : Numbers) (rows : List (Option Row)) (k : ℕ) (numbers : List ℕ) (listed : List RowData) : Type 0 where
  pub rising : AreRising numbers
  pub below : (i : ℕ) → i < length numbers → get_or numbers i 0 < k
  pub long : length listed ≡ length numbers
  pub few : length numbers ≤ copied_below t rows k
  pub each : (b : Bundled) → Tells t b → (n : ℕ) → n < k → row_listed (record { numbers = numbers; rows = listed }) n ≡ copied_row (bundle_in b) n (row_in rows n)

-- ---- none yet

pub none_listed : (t : Numbers) (rows : List (Option Row)) → AreListed t rows 0 [] []
none_listed t rows = record {
  rising = λ i j l m. absurd (omega (arith, m));
  below = λ i l. absurd (omega (arith, l));
  long = refl;
  few = omega arith;
  each = λ b tells n l. absurd (omega (arith, l));
}

-- ---- numbers beyond

module _ (t : Numbers) (rows : List (Option Row)) (k : ℕ) (ns : List ℕ) (ls : List RowData) (h : AreListed t rows k ns ls) where
  unplaced : (n : ℕ) → k ≤ n → place_of n ns ≡ None
  unplaced n le = place_none n ns (λ i l e. (let less = h.below i l in omega (arith, less, e, le)))

  pub unlisted : (n : ℕ) → k ≤ n → row_listed (record { numbers = ns; rows = ls }) n ≡ None
  unlisted n le = ap (option_and_then (λ at. option_map as_row (slice_get ls at))) (unplaced n le)

  -- a number whose row isn't copied
  pub listed_skip : k < length rows → ((b : Bundled) → Tells t b → copied_row (bundle_in b) k (row_in rows k) ≡ None) → AreListed t rows (k + 1) ns ls
  listed_skip within none = record {
    rising = h.rising;
    below = λ i l. (let less = h.below i l in omega (arith, less));
    long = h.long;
    few = (let more = copied_later t rows k within in omega (arith, more, h.few));
    each = λ b tells n l. elim (cases_eq n k) [
      | inl is ↦ (let here : row_listed (record { numbers = ns; rows = ls }) k ≡ copied_row (bundle_in b) k (row_in rows k) = unlisted k (omega arith) ∙ sym (none b tells) in rw is here)
      | inr d ↦ h.each b tells n (omega (arith, l, d))
    ];
  }

  -- ---- a row more

  module _ (r : RowData) where
    long_more : length (ns ++ k ∷ []) ≡ length ns + 1
    long_more = length-append ns (k ∷ [])

    below_more : (i : ℕ) → i < length ns + 1 → get_or (ns ++ k ∷ []) i 0 < k + 1
    below_more i l = elim (cases_eq i (length ns)) [
      | inl is ↦ (let last = ap (λ j. get_or (ns ++ k ∷ []) j 0) is ∙ get_or-append_seam ns k [] 0 in omega (arith, last))
      | inr d ↦ (let in_front : i < length ns = omega (arith, l, d) in let same = get_or_append_left ns (k ∷ []) 0 i in_front in let less = h.below i in_front in omega (arith, same, less))
    ]

    rising_more : AreRising (ns ++ k ∷ [])
    rising_more i j l m = elim (cases_eq j (length ns)) [
      | inl is ↦ (
          let in_front : i < length ns = omega (arith, l, is) in
          let last : get_or (ns ++ k ∷ []) j 0 ≡ k = ap (λ x. get_or (ns ++ k ∷ []) x 0) is ∙ get_or-append_seam ns k [] 0 in
          let less = h.below i in_front in
          omega (arith, get_or_append_left ns (k ∷ []) 0 i in_front, last, less)
          )
      | inr d ↦ (
          let in_front : j < length ns = omega (arith, m, long_more, d) in
          let before : i < length ns = omega (arith, l, in_front) in
          let less = h.rising i j l in_front in
          omega (arith, get_or_append_left ns (k ∷ []) 0 i before, get_or_append_left ns (k ∷ []) 0 j in_front, less)
          )
    ]

    -- the row of the last number
    last_row : row_listed (record { numbers = ns ++ k ∷ []; rows = ls ++ r ∷ [] }) k ≡ Some (as_row r)
    last_row =
        let alone : place_of k (k ∷ []) ≡ Some 0 = rw (same_here k) refl in
        let at : place_of k (ns ++ k ∷ []) ≡ Some (length ns + 0) = place_right k ns (k ∷ []) (unplaced k (omega arith)) ∙ ap (option_map (λ i. length ns + i)) alone in
        let size : length ls ≡ length ns + 0 = omega (arith, h.long) in
        let there : slice_get (ls ++ r ∷ []) (length ns + 0) ≡ Some r = subst (λ i. slice_get (ls ++ r ∷ []) i ≡ Some r) size (slice_get-last ls r) in
        ap (option_and_then (λ i. option_map as_row (slice_get (ls ++ r ∷ []) i))) at ∙ ap (option_map as_row) there

    -- and of the others
    other_row : (n : ℕ) → (n ≡ k → ⊥) → row_listed (record { numbers = ns ++ k ∷ []; rows = ls ++ r ∷ [] }) n ≡ row_listed (record { numbers = ns; rows = ls }) n
    other_row n d = by (place_of n ns) refl
      where
        f : List RowData → ℕ → Option Row
        f xs i = option_map as_row (slice_get xs i)

        by : (o : Option ℕ) → place_of n ns ≡ o → option_and_then (f (ls ++ r ∷ [])) (place_of n (ns ++ k ∷ [])) ≡ option_and_then (f ls) (place_of n ns)
        by None e =
            let apart : eqb k n ≡ false = differs k n (λ s. d (sym s)) in
            let alone : place_of n (k ∷ []) ≡ None = rw apart refl in
            let gone : place_of n (ns ++ k ∷ []) ≡ None = place_right n ns (k ∷ []) e ∙ ap (option_map (λ i. length ns + i)) alone in
            ap (option_and_then (f (ls ++ r ∷ []))) gone ∙ sym (ap (option_and_then (f ls)) e)
        by (Some i) e =
            let within : i < length ls = omega (arith, place_within n i ns e, h.long) in
            let there : slice_get ls i ≡ Some (get_or ls i r) = slice_get-get_or ls i r within in
            ap (option_and_then (f (ls ++ r ∷ []))) (place_left n i ns (k ∷ []) e)
            ∙ ap (option_map as_row) (slice_get-left ls (r ∷ []) i (get_or ls i r) there ∙ sym there)
            ∙ sym (ap (option_and_then (f ls)) e)

    -- there is a place for it
    pub place_next : k < length rows → row_in rows k ≡ Some (as_row r) → (is_among k t.writes || is_among k t.holds || is_among r.parent t.writes) ≡ true → length ns + 1 ≤ most_copied t rows
    place_next within is own = let more = copied_next t rows k (as_row r) within is own in let few = copied_few t rows (k + 1) in omega (arith, h.few, more, few)

    pub listed_more : k < length rows → row_in rows k ≡ Some (as_row r) → (is_among k t.writes || is_among k t.holds || is_among r.parent t.writes) ≡ true → AreListed t rows (k + 1) (ns ++ k ∷ []) (ls ++ r ∷ [])
    listed_more within is own = record {
      rising = rising_more;
      below = λ i l. below_more i (omega (arith, l, long_more));
      long = length-append ls (r ∷ []) ∙ omega (arith, h.long, long_more);
      few = (let more = copied_next t rows k (as_row r) within is own in omega (arith, more, h.few, long_more));
      each = λ b tells n l. elim (cases_eq n k) [
        | inl at ↦ (
            let here : row_listed (record { numbers = ns ++ k ∷ []; rows = ls ++ r ∷ [] }) k ≡ copied_row (bundle_in b) k (row_in rows k) =
            last_row ∙ copied_if t b k r true tells (sym own) ∙ ap (copied_row (bundle_in b) k) (sym is) in
            rw at here
            )
        | inr d ↦ other_row n d ∙ h.each b tells n (omega (arith, l, d))
      ];
    }

  -- ---- all

  pub all_listed : length rows ≤ k → (b : Bundled) → Tells t b → (n : ℕ) → row_listed (record { numbers = ns; rows = ls }) n ≡ copied_row (bundle_in b) n (row_in rows n)
  all_listed all b tells n = elim (cases_lt n k) [
    | inl within ↦ h.each b tells n within
    | inr past ↦ unlisted n past ∙ sym (ap (copied_row (bundle_in b) n) (get_or_past rows n None (omega (arith, past, all))))
  ]
