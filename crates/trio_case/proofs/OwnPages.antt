-- The pages of a bundle, by its core.
use Rattle.trio_case.proofs.Words.{◌<◌, ◌||◌, ◌∙◌, ◌∷◌, ◌≡◌, AreCountedIn, Bool, Case, CaseShown, IsKept, KeepsPages, KeptPage, KeptPages, List, MatchOption, None, Option, Sheet, Some, StandsAt, [], and_parts, ap, are_new, arith, bundle_core, bundle_in, bundle_pages, bundle_sheets, case_in, cond, eqb, false, false≢true, get_or, get_or-set_other, get_or-set_same, in_order, inl, inr, is_among, is_core, kept_page, leb, length, length-set, list_all, list_all-In, nat_tests, option_and_then, page_of, place_of, refl, replicate, set, sheet_numbers, slice_get, subst, suc, sym, true, with_pages, zero, ℕ, ⊤}
use Rattle.std.proofs.Common.{ltb, is_some}
use Rattle.std.proofs.lemmas.Bool.{cases_Bool, or_cases}
use Rattle.trio_lists.proofs.Members.{is_among-In}
use Rattle.trio_case.proofs.Ordered.{order_length, place_has}
use Rattle.trio_case.proofs.Counted.{place_at, place_some}
use Rattle.trio_case.proofs.Keeping.{none_there, number_is}
use Rattle.trio_case.proofs.Opening.{In-slice_get}

abbrev Pages : Type 0
Pages = List (Option (List ℕ))

-- a page that none of these stands for is as it was
pub sheet_none : (ss : List Sheet) (pages : Pages) (n : ℕ) → is_among n (sheet_numbers ss) ≡ false → get_or (with_pages ss pages) n None ≡ get_or pages n None
sheet_none [] pages n h = refl
sheet_none (x ∷ xs) pages n h =
    let apart = not_either (eqb x.page n) (is_among n (sheet_numbers xs)) h in
    let d : n ≡ x.page → ⊥ = λ e. false≢true (sym apart.0 ∙ (let t : eqb x.page n ≡ true = grind (arith, nat_tests) in t)) in
    sheet_none xs (set pages x.page (Some x.bytes)) n apart.1 ∙ get_or-set_other pages x.page n (Some x.bytes) None d
  where
    not_either : (a b : Bool) → (a || b) ≡ false → (a ≡ false) × (b ≡ false)
    not_either true b e = absurd (false≢true (sym e))
    not_either false b e = (refl, e)

-- one that one of these stands for is there
pub sheet_some : (ss : List Sheet) (pages : Pages) (n : ℕ) → is_among n (sheet_numbers ss) ≡ true → n < length pages → is_some (get_or (with_pages ss pages) n None) ≡ true
sheet_some [] pages n h l = absurd (false≢true h)
sheet_some (x ∷ xs) pages n h l =
    let after : n < length (set pages x.page (Some x.bytes)) = omega (arith, l, length-set pages x.page (Some x.bytes)) in
    elim (cases_Bool (is_among n (sheet_numbers xs))) [
      | inl later ↦ sheet_some xs (set pages x.page (Some x.bytes)) n later after
      | inr none ↦
          let here : eqb x.page n ≡ true = elim (or_cases (eqb x.page n) (is_among n (sheet_numbers xs)) h) [ inl a ↦ a | inr b ↦ absurd (false≢true (sym none ∙ b)) ] in
          let same : n ≡ x.page = grind (arith, nat_tests) in
          let w : x.page < length pages = omega (arith, l, same) in
          ap is_some (sheet_none xs (set pages x.page (Some x.bytes)) n none ∙ ap (λ k. get_or (set pages x.page (Some x.bytes)) k None) same ∙ get_or-set_same pages x.page (Some x.bytes) None w)
    ]

abbrev blanks : ℕ → Pages
blanks n = replicate n None

length-blanks : (n : ℕ) → length (blanks n) ≡ n
length-blanks zero = refl
length-blanks (suc n) = ap suc (length-blanks n)

blank-none : (n k : ℕ) → get_or (blanks n) k None ≡ None
blank-none zero k = refl
blank-none (suc n) zero = refl
blank-none (suc n) (suc k) = blank-none n k

abbrev no_bytes : Option (List ℕ)
no_bytes = None

no_page : (b : Bool) → is_some (cond b no_bytes no_bytes) ≡ false
no_page true = refl
no_page false = refl

-- of a bundle whose pages are core pages, just these are there
pub own_there : (c : Case) (page : ℕ) → list_all (is_core c.range) (bundle_pages c.bundle) ≡ true → is_some (page_of (bundle_core c) page) ≡ is_among page (bundle_pages c.bundle)
own_there c page core =
    elim (cases_Bool (is_among page (bundle_pages c.bundle))) [
      | inl among ↦
          let here : is_core c.range page ≡ true = list_all-In (is_core c.range) page (bundle_pages c.bundle) core (is_among-In page (bundle_pages c.bundle) among) in
          let below : ltb page c.range.end ≡ true = (and_parts (leb c.range.first page) (ltb page c.range.end) here).1 in
          let l : page < length (blanks c.range.end) = let less : page < c.range.end = grind (arith, nat_tests) in omega (arith, less, length-blanks c.range.end) in
          rw here (sheet_some (bundle_sheets c.bundle) (blanks c.range.end) page among l ∙ sym among)
      | inr none ↦
          ap (λ o. is_some (cond (is_core c.range page) o None)) (sheet_none (bundle_sheets c.bundle) (blanks c.range.end) page none ∙ blank-none c.range.end page) ∙ no_page (is_core c.range page) ∙ sym none
    ]

-- the page that is found is the bundle's
pub found_is_own : (k : CaseShown) (kept : KeptPages) (page : ℕ) (found : Option (ℕ × KeptPage)) → KeepsPages k kept → MatchOption found (kept_page kept page ≡ None) (λ f. StandsAt kept page f.0 f.1) → list_all (is_core k.range) (bundle_pages (bundle_in k.bundle)) ≡ true → is_some found ≡ is_among page (bundle_pages (bundle_in k.bundle))
found_is_own k kept page None keeps h core =
    let none : page_of (bundle_core (case_in k)) page ≡ None = subst (λ o. MatchOption o (page_of (bundle_core (case_in k)) page ≡ None) (λ p. p.no ≡ page)) h (keeps.numbered page) in
    sym (ap is_some none) ∙ own_there (case_in k) page core
found_is_own k kept page (Some f) keeps h core =
    let is : kept_page kept page ≡ Some f.1 = ap (option_and_then (λ at. slice_get kept.pages.items at)) h.listed ∙ h.page in
    let no : f.1.no ≡ page = subst (λ o. MatchOption o (page_of (bundle_core (case_in k)) page ≡ None) (λ p. p.no ≡ page)) is (keeps.numbered page) in
    let k' = subst (λ o. MatchOption o ⊤ (IsKept k kept)) h.page (keeps.each f.0) in
    let there : page_of (bundle_core (case_in k)) page ≡ Some k'.bytes = ap (page_of (bundle_core (case_in k))) (sym no) ∙ k'.here in
    sym (ap is_some there) ∙ own_there (case_in k) page core

-- the place of a page that is found, among the bundle's pages in rising order
pub place_found : (k : CaseShown) (kept : KeptPages) (page at : ℕ) (p : KeptPage) → KeepsPages k kept → StandsAt kept page at p → place_of page (in_order (bundle_pages (bundle_in k.bundle))) ≡ Some at
place_found k kept page at p keeps s = rw keeps.order at s.listed

pub place_within : (k : CaseShown) (kept : KeptPages) (page at : ℕ) (p : KeptPage) → KeepsPages k kept → StandsAt kept page at p → at < length (bundle_pages (bundle_in k.bundle))
place_within k kept page at p keeps s =
    let own : List ℕ = bundle_pages (bundle_in k.bundle) in
    let within = (place_has page (in_order own) at (place_found k kept page at p keeps s)).0 in
    omega (arith, within, order_length own)

-- the place among all pages of the bundle that is known of a page found
pub counted_place : (k : CaseShown) (kept : KeptPages) (page at : ℕ) (p : KeptPage) → KeepsPages k kept → AreCountedIn (bundle_pages (bundle_in k.bundle)) kept.pages.items → StandsAt kept page at p → are_new [] (bundle_pages (bundle_in k.bundle)) ≡ true → place_of page (bundle_pages (bundle_in k.bundle)) ≡ Some p.nth
counted_place k kept page at p keeps counted stands new =
    place_at (bundle_pages (bundle_in k.bundle)) page p.nth new
    (counted p (In-slice_get kept.pages.items at p stands.page) ∙ ap (λ n. Some n) (number_is k kept page at p keeps stands))

-- a page that isn't found has none
pub uncounted : (k : CaseShown) (page : ℕ) → is_among page (bundle_pages (bundle_in k.bundle)) ≡ false → place_of page (bundle_pages (bundle_in k.bundle)) ≡ None
uncounted k page none =
    let own = bundle_pages (bundle_in k.bundle) in
    none_there (place_of page own) (sym (place_some page own ∙ none))
