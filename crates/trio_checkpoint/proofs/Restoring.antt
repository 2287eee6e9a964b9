-- Pages that are put back.
use Rattle.trio_checkpoint.proofs.Words.{◌&&◌, ◌++◌, ◌∙◌, ◌∷◌, ◌≡◌, All, All-head, All-tail, Bool, Core, IsCopy, IsTrue, Kind, List, None, Option, Sheet, Some, [], all_below, and_from, and_parts, ap, cases_lt, covered_of, false, get_or, inl, inr, length, list_all-append, map-append, page_of, refl, set, sheet_numbers, sheets_of, subst, sym, true, with_pages, ℕ}
use Rattle.std.proofs.Common.{cond, ltb}
use Rattle.std.proofs.Math.ListN.{length-set}
use Rattle.std.proofs.lemmas.Bool.{lt-ltb}
use Rattle.std.proofs.lemmas.List.{set-get_or, get_or_past}
use Rattle.trio_rights.specs.ByKind.{covers_blocks}
use Rattle.trio_page.specs.Home.{Pages}
use Rattle.trio_checkpoint.proofs.Copies.{at_its_number}

pub with_pages-append : (xs ys : List Sheet) (pages : List (Option (List ℕ))) → with_pages (xs ++ ys) pages ≡ with_pages ys (with_pages xs pages)
with_pages-append [] ys pages = refl
with_pages-append (x ∷ xs) ys pages = with_pages-append xs ys (set pages x.page (Some x.bytes))

pub length-with_pages : (xs : List Sheet) (pages : List (Option (List ℕ))) → length (with_pages xs pages) ≡ length pages
length-with_pages [] pages = refl
length-with_pages (x ∷ xs) pages = length-with_pages xs (set pages x.page (Some x.bytes)) ∙ length-set pages x.page (Some x.bytes)

below-append : (n : ℕ) (xs ys : List Sheet) → all_below n (sheet_numbers (xs ++ ys)) ≡ (all_below n (sheet_numbers xs) && all_below n (sheet_numbers ys))
below-append n xs ys =
    ap (all_below n) (map-append (λ (x : Sheet). x.page) xs ys)
    ∙ list_all-append (λ m. ltb m n) (sheet_numbers xs) (sheet_numbers ys)

-- the numbers of pages in two lists are below a number just where those of each are
pub below_parts : (n : ℕ) (xs ys : List Sheet) → IsTrue (all_below n (sheet_numbers (xs ++ ys))) → IsTrue (all_below n (sheet_numbers xs)) × IsTrue (all_below n (sheet_numbers ys))
below_parts n xs ys h = and_parts (all_below n (sheet_numbers xs)) (all_below n (sheet_numbers ys)) (sym (below-append n xs ys) ∙ h)

pub below_joined : (n : ℕ) (xs ys : List Sheet) → IsTrue (all_below n (sheet_numbers xs)) → IsTrue (all_below n (sheet_numbers ys)) → IsTrue (all_below n (sheet_numbers (xs ++ ys)))
below_joined n xs ys h k = below-append n xs ys ∙ and_from (all_below n (sheet_numbers xs)) (all_below n (sheet_numbers ys)) h k

there_is_within : (pages : List (Option (List ℕ))) (n : ℕ) (bytes : List ℕ) → get_or pages n None ≡ Some bytes → ltb n (length pages) ≡ true
there_is_within pages n bytes e =
    elim (cases_lt n (length pages)) [
      | inl lt ↦ lt-ltb n (length pages) lt
      | inr ge ↦ absurd (cc (get_or_past pages n None ge))
    ]

-- copies are of pages that have their places at home
pub copies_within : (pages : List (Option (List ℕ))) (xs : List Sheet) → All (IsCopy pages) xs → IsTrue (all_below (length pages) (sheet_numbers xs))
copies_within pages [] h = refl
copies_within pages (x ∷ xs) h =
    and_from (ltb x.page (length pages)) (all_below (length pages) (sheet_numbers xs))
    (there_is_within pages x.page x.bytes (All-head (IsCopy pages) x xs h))
    (copies_within pages xs (All-tail (IsCopy pages) x xs h))

put_same : (pages : List (Option (List ℕ))) (n : ℕ) (bytes : List ℕ) → get_or pages n None ≡ Some bytes → set pages n (Some bytes) ≡ pages
put_same pages n bytes e = ap (set pages n) (sym e) ∙ set-get_or pages n None

-- pages of a core, put back, leave it as it is
sheets_back : (core : Core) (ns : List ℕ) → with_pages (sheets_of core ns) core.pages ≡ core.pages
sheets_back core [] = refl
sheets_back core (n ∷ ns) = by (sheets_back core ns) (page_of core n) refl
  where
    by : with_pages (sheets_of core ns) core.pages ≡ core.pages → (o : Option (List ℕ)) → page_of core n ≡ o → with_pages (sheets_of core (n ∷ ns)) core.pages ≡ core.pages
    by again None e = rw e again
    by again (Some bytes) e =
        let stands : get_or core.pages n None ≡ Some bytes = sym (at_its_number core n (rw e refl)) ∙ e in
        rw e (ap (with_pages (sheets_of core ns)) (put_same core.pages n bytes stands) ∙ again)

pub restoring_keeps : (core : Core) (kind : Kind) (guarded : Bool) (index blocks : List ℕ) → with_pages (covered_of kind guarded (sheets_of core index) (sheets_of core blocks)) core.pages ≡ core.pages
restoring_keeps core kind guarded index blocks = by (covers_blocks kind guarded)
  where
    by : (t : Bool) → with_pages (cond t (sheets_of core index ++ sheets_of core blocks) (sheets_of core index)) core.pages ≡ core.pages
    by false = sheets_back core index
    by true =
        with_pages-append (sheets_of core index) (sheets_of core blocks) core.pages
        ∙ ap (with_pages (sheets_of core blocks)) (sheets_back core index)
        ∙ sheets_back core blocks

-- pages that are put after others are within too
pub within_still : (pages now : Pages) (xs ys : List Sheet) → IsTrue (all_below (length pages.pages) (sheet_numbers (xs ++ ys))) → now ≡ record pages { pages = with_pages xs pages.pages } → IsTrue (all_below (length now.pages) (sheet_numbers ys))
within_still pages now xs ys below is =
    let n : length now.pages ≡ length pages.pages = ap (λ (h : Pages). length h.pages) is ∙ length-with_pages xs pages.pages in
    subst (λ k. IsTrue (all_below k (sheet_numbers ys))) (sym n) (below_parts (length pages.pages) xs ys below).1

pub put_both : (pages now after : Pages) (xs ys : List Sheet) → now ≡ record pages { pages = with_pages xs pages.pages } → after ≡ record now { pages = with_pages ys now.pages } → after ≡ record pages { pages = with_pages (xs ++ ys) pages.pages }
put_both pages now after xs ys first second =
    second
    ∙ ap (λ (h : Pages). record h { pages = with_pages ys h.pages }) first
    ∙ ap (λ ps. record pages { pages = ps }) (sym (with_pages-append xs ys pages.pages))
