-- The pages that a file in the grammar lists are core pages.
use Rattle.trio_survey.proofs.Words.{◌&&◌, ◌++◌, ◌-◌, ◌∙◌, ◌∷◌, ◌≡◌, Bool, Chain, Core, CoreRange, Err, FileRead, IfOk, Index, List, Met, Ok, Result, Some, [], and_from, and_parts, ap, arith, at_page, body_of, bytes_eq, chain_from, chain_of, entries_of_kind, eqb, false, false≢true, file_with, if_ok_at, if_ok_map, if_ok_then, if_ok_weaker, index_at, index_bytes, index_fits, index_page, inl, inr, is_among, is_core, leb, link_fits, list_all, list_all-append, ltb, min, nat_tests, nowhere, or_cases, page_of, refl, result_map, result_then, suc, sym, there_or, true, with_index, zero, ℕ}
use Rattle.trio_layout.specs.Index.{index_of}
use Rattle.trio_layout.specs.Survey.{file_of}
use Rattle.trio_survey.proofs.Fits.{there_some, and_then_some, cond_some, cond_there}

index_numbers : (used : ℕ) (last : Bool) (range : CoreRange) (page : List ℕ) (i : Index) → index_of used last range page ≡ Some i → list_all (is_core range) i.numbers ≡ true
unfolding index_of
index_numbers used last range page i e =
    let x : Index = index_at used page in
    let c = cond_some (bytes_eq page (index_bytes x) && index_fits used last range x) x i e in
    let fits = (and_parts (bytes_eq page (index_bytes x)) (index_fits used last range x) c.0).1 in
    let two = (and_parts (eqb _ used && list_all (is_core range) x.numbers) (link_fits last range x.next) fits).0 in
    ap (λ (y : Index). list_all (is_core range) y.numbers) (sym c.1)
    ∙ (and_parts (eqb _ used) (list_all (is_core range) x.numbers) two).1

page_and_numbers : (core : Core) (at used : ℕ) (last : Bool) (i : Index) → index_page core at used last ≡ Ok i → (is_core core.range at ≡ true) × (list_all (is_core core.range) i.numbers ≡ true)
page_and_numbers core at used last i e =
    let read = and_then_some (index_of used last core.range) (page_of core at) i (there_some (at_page at) _ i e) in
    (cond_there (is_core core.range at) _ read.0 read.1, index_numbers used last core.range read.0 i read.2)

-- the pages of a chain are core pages
abbrev IsCoreChain : CoreRange → Chain → Type 0
IsCoreChain range c = (list_all (is_core range) c.index ≡ true) × (list_all (is_core range) c.blocks ≡ true)

chain_in_core : (core : Core) (n blocks at : ℕ) → IfOk (chain_from core n blocks at) (IsCoreChain core.range)
chain_in_core core zero blocks at = (refl, refl)
chain_in_core core (suc n) blocks at =
    if_ok_then (index_page core at (min blocks 511) (eqb n 0)) (λ i. result_map (with_index at i) (chain_from core n (blocks - 511) i.next)) (IsCoreChain core.range)
    (λ i e.
    let here = page_and_numbers core at (min blocks 511) (eqb n 0) i e in
    if_ok_map (chain_from core n (blocks - 511) i.next) (with_index at i) (IsCoreChain core.range)
    (if_ok_weaker (chain_from core n (blocks - 511) i.next) (IsCoreChain core.range) (λ c. IsCoreChain core.range (with_index at i c))
    (λ c h. (
      and_from (is_core core.range at) (list_all (is_core core.range) c.index) here.0 h.0,
      list_all-append (is_core core.range) i.numbers c.blocks ∙ and_from (list_all (is_core core.range) i.numbers) (list_all (is_core core.range) c.blocks) here.1 h.1,
    ))
    (chain_in_core core n (blocks - 511) i.next)))

any_ok : {X E : Type 0} (r : Result X E) (P : Type 0) → P → IfOk r (λ _. P)
any_ok (Ok x) P p = p
any_ok (Err e) P p = tt

-- a file's pages are core pages
abbrev IsCoreFile : CoreRange → FileRead → Type 0
IsCoreFile range f = list_all (is_core range) (f.chain.index ++ f.chain.blocks) ≡ true

pub file_in_core : (core : Core) (m : Met) (f : FileRead) → file_of core m ≡ Ok f → list_all (is_core core.range) (f.chain.index ++ f.chain.blocks) ≡ true
unfolding file_of
file_in_core core m f e =
    if_ok_at _ f (IsCoreFile core.range) e
    (if_ok_then (there_or nowhere (body_of m.kind core.range m.body)) (λ b. result_then (file_with core m.kind b) (chain_of core b)) (IsCoreFile core.range)
    (λ b _. if_ok_then (chain_of core b) (file_with core m.kind b) (IsCoreFile core.range)
    (λ c p.
    let all = if_ok_at (chain_of core b) c (IsCoreChain core.range) p (chain_in_core core _ _ b.head) in
    let both : IsCoreFile core.range (record { body = b; chain = c; entries = [] }) =
    list_all-append (is_core core.range) c.index c.blocks ∙ and_from (list_all (is_core core.range) c.index) (list_all (is_core core.range) c.blocks) all.0 all.1 in
    if_ok_map (entries_of_kind core m.kind c.blocks) (λ es. record { body = b; chain = c; entries = es }) (IsCoreFile core.range)
    (any_ok (entries_of_kind core m.kind c.blocks) (IsCoreFile core.range (record { body = b; chain = c; entries = [] })) both))))

among_all : (q : ℕ → Bool) (p : ℕ) (xs : List ℕ) → list_all q xs ≡ true → is_among p xs ≡ true → q p ≡ true
among_all q p [] a h = absurd (false≢true h)
among_all q p (x ∷ xs) a h =
    let parts = and_parts (q x) (list_all q xs) a in
    elim (or_cases (eqb x p) (is_among p xs) h) [
      | inl here ↦ let s : x ≡ p = grind (arith, nat_tests) in ap q (sym s) ∙ parts.0
      | inr later ↦ among_all q p xs parts.1 later
    ]

-- a page that stands below the core is listed by no such file
pub listed_not_below : (range : CoreRange) (p : ℕ) (pages : List ℕ) → list_all (is_core range) pages ≡ true → is_among p pages ≡ true → ltb p range.first ≡ false
listed_not_below range p pages a h =
    let first : leb range.first p ≡ true = (and_parts (leb range.first p) (ltb p range.end) (among_all (is_core range) p pages a h)).0 in
    grind (arith, nat_tests)
