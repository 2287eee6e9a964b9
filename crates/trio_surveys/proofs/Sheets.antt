-- Pages that are put in place, or taken away.
use Rattle.trio_surveys.proofs.Words.{◌++◌, ◌<◌, ◌∙◌, ◌∷◌, ◌≡◌, ◌⊎◌, Bool, Core, In, List, None, Option, Sheet, Some, [], ap, arith, cases_eq, cond, false, false_from_ne_true, inl, inr, is_among, is_among-In, is_core, length, length-set, ne_eqb, option_and_then, option_map, page_of, refl, sheet_numbers, slice_get, slice_set, suc, sym, true, with_other, with_pages, zero, ℕ}
use Rattle.std.specs.List.{cons_option}
use Rattle.trio_rights.specs.Sheets.{without_pages}
use Rattle.trio_layout.specs.Pages.{sheets_of}
use Rattle.trio_surveys.proofs.SheetLaws.{page_of_at, get-set_same, get-set_other, with_pages-other}

abbrev pub Pages : Type 0
Pages = List (Option (List ℕ))

pub not_among : (n : ℕ) (xs : List ℕ) → (In n xs → ⊥) → is_among n xs ≡ false
not_among n xs h = false_from_ne_true (is_among n xs) (λ e. h (is_among-In n xs e))

pub with_pages_apart : (ss : List Sheet) (pages : Pages) (n : ℕ) → (In n (sheet_numbers ss) → ⊥) → slice_get (with_pages ss pages) n ≡ slice_get pages n
with_pages_apart ss pages n h = with_pages-other ss pages n (not_among n (sheet_numbers ss) h)

pub among_cases : (n : ℕ) (xs : List ℕ) → In n xs ⊎ (In n xs → ⊥)
among_cases n [] = inr (λ i. i)
among_cases n (x ∷ xs) =
    elim (cases_eq n x) [
      | inl e ↦ inl (inl e)
      | inr d ↦
          elim (among_cases n xs) [
            | inl i ↦ inl (inr i)
            | inr k ↦ inr (λ (j : (n ≡ x) ⊎ In n xs). elim j [ inl e ↦ d e | inr i ↦ k i ])
          ]
    ]

set_there : (o : Option (Option (List ℕ))) (x y : Option (List ℕ)) → option_map (λ _. x) o ≡ Some y → x ≡ y
set_there None x y e = absurd cc
set_there (Some z) x y e = cc e

-- a page that is put in place is there
pub with_pages_there : (ss : List Sheet) (pages : Pages) (n : ℕ) → In n (sheet_numbers ss) → slice_get (with_pages ss pages) n ≡ Some None → ⊥
with_pages_there [] pages n i e = i
with_pages_there (s ∷ ss) pages n i e =
    elim (among_cases n (sheet_numbers ss)) [
      | inl later ↦ with_pages_there ss (slice_set pages s.page (Some s.bytes)) n later e
      | inr none ↦
          elim i [
            | inr later ↦ none later
            | inl here ↦
                let a : slice_get (slice_set pages s.page (Some s.bytes)) n ≡ Some None = sym (with_pages_apart ss (slice_set pages s.page (Some s.bytes)) n none) ∙ e in
                let b : slice_get (slice_set pages n (Some s.bytes)) n ≡ Some None = ap (λ k. slice_get (slice_set pages k (Some s.bytes)) n) here ∙ a in
                let c : Some s.bytes ≡ None = set_there (slice_get pages n) (Some s.bytes) None (sym (get-set_same pages n (Some s.bytes)) ∙ b) in
                absurd cc
          ]
    ]

-- a page that is absent was absent before, and isn't put in place
pub with_pages_absent : (ss : List Sheet) (pages : Pages) (n : ℕ) → slice_get (with_pages ss pages) n ≡ Some None → (In n (sheet_numbers ss) → ⊥) × (slice_get pages n ≡ Some None)
with_pages_absent ss pages n e = search (arith, with_pages_there, with_pages_apart)

-- where the bytes of a page come from
pub with_pages_from : (ss : List Sheet) (pages : Pages) (n : ℕ) (bytes : List ℕ) → slice_get (with_pages ss pages) n ≡ Some (Some bytes) → ((x : Sheet) × In x ss × (x.bytes ≡ bytes)) ⊎ (slice_get pages n ≡ Some (Some bytes))
with_pages_from [] pages n bytes e = inr e
with_pages_from (s ∷ ss) pages n bytes e =
    elim (with_pages_from ss (slice_set pages s.page (Some s.bytes)) n bytes e) [
      | inl r ↦ inl (r.0, inr r.1, r.2)
      | inr h ↦
          elim (cases_eq s.page n) [
            | inl same ↦
                let b : slice_get (slice_set pages n (Some s.bytes)) n ≡ Some (Some bytes) = ap (λ k. slice_get (slice_set pages k (Some s.bytes)) n) (sym same) ∙ h in
                let c : Some s.bytes ≡ Some bytes = set_there (slice_get pages n) (Some s.bytes) (Some bytes) (sym (get-set_same pages n (Some s.bytes)) ∙ b) in
                let d : s.bytes ≡ bytes = cc c in
                inl (s, inl refl, d)
            | inr differ ↦ inr (sym (get-set_other pages s.page n (Some s.bytes) (ne_eqb s.page n differ)) ∙ h)
          ]
    ]

page_inv : (b : Bool) (o : Option (Option (List ℕ))) (bytes : List ℕ) → cond b (option_and_then (λ x. x) o) None ≡ Some bytes → (b ≡ true) × (o ≡ Some (Some bytes))
page_inv b o bytes e = search arith

pub page_there : (core : Core) (p : ℕ) (bytes : List ℕ) → page_of core p ≡ Some bytes → (is_core core.range p ≡ true) × (slice_get core.pages p ≡ Some (Some bytes))
page_there core p bytes e = page_inv (is_core core.range p) (slice_get core.pages p) bytes (sym (page_of_at core p) ∙ e)

pub page_from : (core : Core) (p : ℕ) (bytes : List ℕ) → is_core core.range p ≡ true → slice_get core.pages p ≡ Some (Some bytes) → page_of core p ≡ Some bytes
page_from core p bytes c e =
    page_of_at core p ∙ ap (λ b. cond b (option_and_then (λ x. x) (slice_get core.pages p)) None) c ∙ ap (option_and_then (λ x. x)) e

pub page_same : (core : Core) (pages : Pages) (p : ℕ) → slice_get pages p ≡ slice_get core.pages p → page_of (with_other core pages) p ≡ page_of core p
page_same core pages p e =
    page_of_at (with_other core pages) p
    ∙ ap (λ o. cond (is_core core.range p) (option_and_then (λ x. x) o) None) e
    ∙ sym (page_of_at core p)

-- pages that are taken away
pub without_apart : (ns : List ℕ) (pages : Pages) (n : ℕ) → (In n ns → ⊥) → slice_get (without_pages ns pages) n ≡ slice_get pages n
without_apart [] pages n h = refl
without_apart (k ∷ ks) pages n h =
    without_apart ks (slice_set pages k None) n (λ i. h (inr i))
    ∙ get-set_other pages k n None (ne_eqb k n (λ e. h (inl (sym e))))

-- a page that is absent then was absent or was taken
pub without_absent : (ns : List ℕ) (pages : Pages) (n : ℕ) → slice_get (without_pages ns pages) n ≡ Some None → In n ns ⊎ (slice_get pages n ≡ Some None)
without_absent ns pages n e = search (arith, among_cases, without_apart)

pub with_pages-append : (xs ys : List Sheet) (pages : Pages) → with_pages (xs ++ ys) pages ≡ with_pages ys (with_pages xs pages)
with_pages-append [] ys pages = refl
with_pages-append (x ∷ xs) ys pages = with_pages-append xs ys (slice_set pages x.page (Some x.bytes))

set_cong : (a b : Pages) (k n : ℕ) (x : Option (List ℕ)) → slice_get a n ≡ slice_get b n → slice_get (slice_set a k x) n ≡ slice_get (slice_set b k x) n
set_cong a b k n x e = search (arith, cases_eq, get-set_same, get-set_other, ne_eqb)

-- a page goes by what it was, and by what is put in place
pub with_pages_cong : (ss : List Sheet) (a b : Pages) (n : ℕ) → slice_get a n ≡ slice_get b n → slice_get (with_pages ss a) n ≡ slice_get (with_pages ss b) n
with_pages_cong [] a b n e = e
with_pages_cong (s ∷ ss) a b n e =
    with_pages_cong ss (slice_set a s.page (Some s.bytes)) (slice_set b s.page (Some s.bytes)) n (set_cong a b s.page n (Some s.bytes) e)

-- a page that is put in place with these bytes alone
pub with_pages_known : (ss : List Sheet) (pages : Pages) (n : ℕ) (bytes : List ℕ) (o : Option (List ℕ)) → In n (sheet_numbers ss) → ((x : Sheet) → In x ss → x.page ≡ n → x.bytes ≡ bytes) → slice_get pages n ≡ Some o → slice_get (with_pages ss pages) n ≡ Some (Some bytes)
with_pages_known [] pages n bytes o i all e = absurd i
with_pages_known (s ∷ ss) pages n bytes o i all e =
    let P : Pages = slice_set pages s.page (Some s.bytes) in
    elim (cases_eq s.page n) [
      | inl same ↦
          let now : slice_get P n ≡ Some (Some bytes) =
          ap (λ j. slice_get (slice_set pages j (Some s.bytes)) n) same ∙ get-set_same pages n (Some s.bytes) ∙ ap (option_map (λ _. Some s.bytes)) e ∙ ap (λ b. Some (Some b)) (all s (inl refl) same) in
          elim (among_cases n (sheet_numbers ss)) [
            | inl later ↦ with_pages_known ss P n bytes (Some bytes) later (λ x j. all x (inr j)) now
            | inr none ↦ with_pages_apart ss P n none ∙ now
          ]
      | inr differ ↦
          let now : slice_get P n ≡ Some o = get-set_other pages s.page n (Some s.bytes) (ne_eqb s.page n differ) ∙ e in
          elim i [
            | inl here ↦ absurd (differ (sym here))
            | inr later ↦ with_pages_known ss P n bytes o later (λ x j. all x (inr j)) now
          ]
    ]

pub length-without : (ns : List ℕ) (pages : Pages) → length (without_pages ns pages) ≡ length pages
length-without [] pages = refl
length-without (n ∷ ns) pages = length-without ns (slice_set pages n None) ∙ length-set pages n None

-- a page that is taken away is absent
pub without_there : (ns : List ℕ) (pages : Pages) (n : ℕ) (o : Option (List ℕ)) → In n ns → slice_get pages n ≡ Some o → slice_get (without_pages ns pages) n ≡ Some None
without_there [] pages n o i e = absurd i
without_there (k ∷ ks) pages n o i e =
    elim (cases_eq k n) [
      | inl same ↦
          let now : slice_get (slice_set pages k None) n ≡ Some None =
          ap (λ j. slice_get (slice_set pages j None) n) same ∙ get-set_same pages n None ∙ ap (option_map (λ _. None)) e in
          elim (among_cases n ks) [
            | inl later ↦ without_there ks (slice_set pages k None) n None later now
            | inr none ↦ without_apart ks (slice_set pages k None) n none ∙ now
          ]
      | inr differ ↦
          let now : slice_get (slice_set pages k None) n ≡ Some o = get-set_other pages k n None (ne_eqb k n differ) ∙ e in
          elim i [
            | inl here ↦ absurd (differ (sym here))
            | inr later ↦ without_there ks (slice_set pages k None) n o later now
          ]
    ]

-- each place below the length has an entry
pub place_there : (pages : Pages) (n : ℕ) → n < length pages → (o : Option (List ℕ)) × (slice_get pages n ≡ Some o)
place_there [] n l = absurd (omega arith)
place_there (p ∷ ps) zero l = (p, refl)
place_there (p ∷ ps) (suc n) l = place_there ps n (omega arith)

pub place_within : (pages : Pages) (n : ℕ) (o : Option (List ℕ)) → slice_get pages n ≡ Some o → n < length pages
place_within [] n o e = absurd cc
place_within (p ∷ ps) zero o e = omega arith
place_within (p ∷ ps) (suc n) o e = let ih = place_within ps n o e in omega (arith, ih)

-- the pages of these numbers
pub sheets_in : (core : Core) (ns : List ℕ) (x : Sheet) → In x (sheets_of core ns) → In x.page ns × (page_of core x.page ≡ Some x.bytes)
sheets_in core [] x i = absurd i
sheets_in core (n ∷ ns) x i = sheets_step core n ns x (page_of core n) refl (sheets_in core ns x) i
  where
    sheets_step : (core : Core) (n : ℕ) (ns : List ℕ) (x : Sheet) (o : Option (List ℕ)) → page_of core n ≡ o → (In x (sheets_of core ns) → In x.page ns × (page_of core x.page ≡ Some x.bytes)) → In x (cons_option (option_map (λ bytes. record { page = n; bytes = bytes }) o) (sheets_of core ns)) → ((x.page ≡ n) ⊎ In x.page ns) × (page_of core x.page ≡ Some x.bytes)
    sheets_step core n ns x None e h i = let r = h i in (inr r.0, r.1)
    sheets_step core n ns x (Some b) e h (inl s) =
        let p : x.page ≡ n = ap (λ (y : Sheet). y.page) s in
        let q : x.bytes ≡ b = ap (λ (y : Sheet). y.bytes) s in
        (inl p, ap (page_of core) p ∙ e ∙ ap Some (sym q))
    sheets_step core n ns x (Some b) e h (inr i) = let r = h i in (inr r.0, r.1)

pub sheets_all : (core : Core) (ns : List ℕ) → ((p : ℕ) → In p ns → (bytes : List ℕ) × (page_of core p ≡ Some bytes)) → sheet_numbers (sheets_of core ns) ≡ ns
sheets_all core [] h = refl
sheets_all core (n ∷ ns) h =
    let r = h n (inl refl) in
    ap (λ o. sheet_numbers (cons_option (option_map (λ bytes. record { page = n; bytes = bytes }) o) (sheets_of core ns))) r.1
    ∙ ap (λ l. n ∷ l) (sheets_all core ns (λ p i. h p (inr i)))
