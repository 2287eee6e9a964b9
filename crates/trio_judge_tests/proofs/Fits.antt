-- A whole image that can be judged, from what was looked at.
use Rattle.trio_judge_tests.proofs.Words.{◌++◌, ◌+◌, ◌<◌, ◌∙◌, ◌≡◌, ◌≢◌, ◌≤◌, Bool, CanBeJudged, FreshParts, In, IsTrue, IsWhole, LentFile, List, None, Row, Sheet, Some, [], and_parts, ap, arith, bundle_in, cond, eqb, eqb-true, false, false≢true, file_fits, flat_map, fresh_sheet, get_or, get_or_from_slice_get, image_of, inl, inr, is_core, is_some, length, lent_sheet, list_all, map, refl, row_in, sheet_fits, slice_get, slice_get_within, slice_index_or, subst, sym, take, true, ℕ}
use Rattle.std.proofs.Common.{nat_le, nat_lt, Option}
use Rattle.std.proofs.lemmas.Bool.{and_from, cases_lt, ltb-true}
use Rattle.std.proofs.lemmas.List.Folds.{list_all_more, list_all-map}
use Rattle.trio_rights.specs.Bundle.{bundle_sheets}
use Rattle.trio_lists.proofs.Members.{In-cases, flat_map-In, list_all-In}
use Rattle.trio_lease.specs.Bundles.{Bundled}
use Rattle.trio_layout.specs.declared.range.CoreRange.{CoreRange}
use Rattle.trio_proposal.proofs.Puts.{sheets_are}
use Rattle.trio_judge_tests.specs.Whole.{AreWhole}

-- what holds of each number below one and of that one
pub one_more_below : (P : ℕ → Type 0) (i : ℕ) → ((n : ℕ) → n < i → P n) → P i → (n : ℕ) → n < i + 1 → P n
one_more_below P i before at n l =
    elim (cases_lt n i) [
      | inl below ↦ before n below
      | inr above ↦ let same : n ≡ i = omega (arith, above, l) in subst P (sym same) at
    ]

-- one more that passes
pub one_passes : {X : Type 0} (p : X → Bool) (xs : List X) (i : ℕ) (x : X) → slice_get xs i ≡ Some x → p x ≡ true → list_all p (take i xs) ≡ true → list_all p (take (i + 1) xs) ≡ true
one_passes p xs i x at passes before =
    list_all_more p xs i x (slice_get_within xs i x at)
    ∙ and_from (list_all p (take i xs)) (p (get_or xs i x)) before (ap p (get_or_from_slice_get xs i x x at) ∙ passes)

-- all pages of a bundle, where those of its leases and those that were allotted do
pub all_fit : (n : ℕ) (b : Bundled) → list_all (file_fits n) b.writes ≡ true → list_all (λ (p : FreshParts). sheet_fits n (fresh_sheet p)) b.pages ≡ true
    → (x : Sheet) → In x (bundle_sheets (bundle_in b)) → sheet_fits n x ≡ true
all_fit n b writes pages x i =
    let sheets : LentFile → List Sheet = λ f. map lent_sheet f.stands.index ++ map lent_sheet f.stands.blocks in
    elim (In-cases x (flat_map sheets b.writes) (map fresh_sheet b.pages) (subst (In x) (sheets_are b) i)) [
      | inl lent ↦
          let f = flat_map-In sheets x b.writes lent in
          let fits = list_all-In (file_fits n) f.0 b.writes writes f.1 in
          let parts = and_parts (list_all (sheet_fits n) (map lent_sheet f.0.stands.index)) (list_all (sheet_fits n) (map lent_sheet f.0.stands.blocks)) fits in
          elim (In-cases x (map lent_sheet f.0.stands.index) (map lent_sheet f.0.stands.blocks) f.2) [
            | inl index ↦ list_all-In (sheet_fits n) x (map lent_sheet f.0.stands.index) parts.0 index
            | inr block ↦ list_all-In (sheet_fits n) x (map lent_sheet f.0.stands.blocks) parts.1 block
          ]
      | inr fresh ↦ list_all-In (sheet_fits n) x (map fresh_sheet b.pages) (list_all-map (sheet_fits n) fresh_sheet b.pages ∙ pages) fresh
    ]

whole_bytes : (b : Bool) (o : Option (List ℕ)) (bytes : List ℕ) → (b ≡ true → IsWhole o) → cond b o None ≡ Some bytes → length bytes ≡ 4096
whole_bytes false o bytes h e = absurd cc
whole_bytes true o bytes h e = subst IsWhole e (h refl)

is_there : (b : Bool) (o : Option (List ℕ)) → b ≡ true → (b ≡ true → IsWhole o) → IsTrue (is_some (cond b o None))
is_there false o e h = absurd (false≢true e)
is_there true None e h = absurd (h refl)
is_there true (Some bytes) e h = refl

pub can_be_judged : (pages : List (Option (List ℕ))) (root : List ℕ) (range : CoreRange) (rows : List (Option Row)) (b : Bundled)
    → AreWhole pages → range.first ≤ range.end → range.end ≤ 8192 → range.end ≤ length pages → 1 < length rows
    → ((n : ℕ) (r : Row) → row_in rows n ≡ Some r → n ≢ 1 → (r.slot < 16) × IsTrue (is_core range r.page))
    → ((x : Sheet) → In x (bundle_sheets (bundle_in b)) → sheet_fits (length pages) x ≡ true)
    → (bundle_in b).holds ≡ []
    → CanBeJudged (image_of pages root range rows []) (bundle_in b)
can_be_judged pages root range rows b whole order small long some placed fits none =
    let core : (p : ℕ) → is_core range p ≡ true → IsWhole (slice_index_or pages p None) = λ p is.
    let below = ltb-true p range.end (and_parts (nat_le range.first p) (nat_lt p range.end) is).1 in
    whole p (omega (arith, below, long)) in
    record {
      fit = record {
        full = λ p bytes e. whole_bytes (is_core range p) (slice_index_or pages p None) bytes (core p) e;
        long = long;
        numbers = omega (arith, some);
      };
      order = order;
      small = small;
      placed = λ n r e one.
          let at = placed n r e one in
          (at.0, is_there (is_core range r.page) (slice_index_or pages r.page None) at.1 (core r.page));
      full = λ x i. eqb-true (length x.bytes) 4096 (and_parts (eqb (length x.bytes) 4096) (nat_lt x.page (length pages)) (fits x i)).0;
      within = λ x i. ltb-true x.page (length pages) (and_parts (eqb (length x.bytes) 4096) (nat_lt x.page (length pages)) (fits x i)).1;
      no_holds = none;
    }
