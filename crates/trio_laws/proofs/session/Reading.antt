-- A file reads the same where the pages that it lists are the same; and which bytes a page of a bundle has.
use Rattle.trio_laws.proofs.Words.{◌++◌, ◌-◌, ◌<◌, ◌∙◌, ◌∷◌, ◌≡◌, Chain, Core, CoreRange, FileRead, In, In-left, In-map, In-right, Index, Kind, List, Met, None, Ok, Option, Pages, Sheet, Some, [], and_parts, ap, are_new, arith, both, cases_Bool, chain_within, entries_where, entries_within, eqb, file_within, flat_map-same, gathered, index_within, inl, inr, is_core, leb, length, length-replicate, ltb, ltb-true, map-In, min, one_keyed, page_from, page_of, pages_bytes, place_there, refl, replicate, rest_of, result_map-Ok, result_then, result_then-Ok, sheet_numbers, suc, sym, true, with_names_apart, with_other, with_pages, with_pages_known, within_from, within_to, zero, ℕ, cond, is_directory}
use Rattle.std.specs.Option.{unwrap_or}
use Rattle.trio_surveys.proofs.SheetLaws.{page_of_at}

module _ (core : Core) (pages : Pages) where
  abbrev other : Core
  other = with_other core pages

  -- this page is the same in both
  abbrev Same : ℕ → Type 0
  Same p = page_of (with_other core pages) p ≡ page_of core p

  index_step : (n blocks at : ℕ) (c : Chain) (o : Option (List ℕ)) → ((i : Index) (r : Chain) → rest_of core n blocks i ≡ Ok r → ((p : ℕ) → In p r.index → Same p) → rest_of other n blocks i ≡ Ok r) → index_within core at (min blocks 511) (eqb n 0) (rest_of core n blocks) o ≡ Ok c → ((p : ℕ) → In p c.index → Same p)
      → Same at × (index_within other at (min blocks 511) (eqb n 0) (rest_of other n blocks) o ≡ Ok c)
  index_step n blocks at c o more e same = search (arith, min, result_then-Ok, result_map-Ok)

  pub chain_same : (n blocks at : ℕ) (c : Chain) → chain_within core n blocks at ≡ Ok c → ((p : ℕ) → In p c.index → Same p) → chain_within other n blocks at ≡ Ok c
  chain_same zero blocks at c e same = e
  chain_same (suc n) blocks at c e same =
      let s = index_step n blocks at c (page_of core at) (λ i r k t. chain_same n (blocks - 511) i.next r k t) e same in
      ap (index_within other at (min blocks 511) (eqb n 0) (rest_of other n blocks)) s.0 ∙ s.1

  gathered_same : (blocks : List ℕ) → ((p : ℕ) → In p blocks → Same p) → gathered (λ page. entries_where core.inodes page (page_of other page)) blocks ≡ gathered (λ page. entries_where core.inodes page (page_of core page)) blocks
  gathered_same [] h = refl
  gathered_same (b ∷ bs) h =
      ap (λ o. both (entries_where core.inodes b o) (gathered (λ page. entries_where core.inodes page (page_of other page)) bs)) (h b (inl refl))
      ∙ ap (both (entries_where core.inodes b (page_of core b))) (gathered_same bs (λ p i. h p (inr i)))

  entries_same : (kind : Kind) (blocks : List ℕ) → ((p : ℕ) → In p blocks → Same p) → entries_within other kind blocks ≡ entries_within core kind blocks
  entries_same kind blocks h = ap (λ r. cond (is_directory kind) (result_then with_names_apart r) (Ok [])) (gathered_same blocks h)

  -- a file reads as before where the pages that it lists are as before
  pub file_as_before : (m : Met) (f : FileRead) → file_within core m ≡ Ok f → ((p : ℕ) → In p (f.chain.index ++ f.chain.blocks) → page_of (with_other core pages) p ≡ page_of core p) → file_within (with_other core pages) m ≡ Ok f
  file_as_before m f e same =
      let r = within_from core m f e in
      search (arith, within_to, chain_same, In-left, entries_same, In-right)

  -- and so do the bytes of blocks
  pub bytes_as_before : (blocks : List ℕ) → ((p : ℕ) → In p blocks → page_of (with_other core pages) p ≡ page_of core p) → pages_bytes (with_other core pages) blocks ≡ pages_bytes core blocks
  bytes_as_before blocks same =
      flat_map-same (λ page. unwrap_or (page_of other page) []) (λ page. unwrap_or (page_of core page) []) blocks (λ p i. ap (λ o. unwrap_or o []) (same p i))

-- ---- the pages of a bundle

-- a core that has these pages alone
abbrev pub core_of : CoreRange → ℕ → List Sheet → Core
core_of range inodes sheets = record { pages = with_pages sheets (replicate range.end None); root = []; range = range; inodes = inodes }

-- where each number stands once, a core page of them has its bytes
pub sheet_there : (range : CoreRange) (inodes : ℕ) (ss : List Sheet) (x : Sheet) → are_new [] (sheet_numbers ss) ≡ true → In x ss → is_core range x.page ≡ true → page_of (core_of range inodes ss) x.page ≡ Some x.bytes
sheet_there range inodes ss x once i core =
    let none : Option (List ℕ) = None in
    let blanks : Pages = replicate range.end none in
    let below : x.page < range.end = ltb-true x.page range.end (and_parts (leb range.first x.page) (ltb x.page range.end) core).1 in
    let l : x.page < length blanks = omega (arith, below, length-replicate range.end none) in
    let o = place_there blanks x.page l in
    page_from (core_of range inodes ss) x.page x.bytes core
    (with_pages_known ss blanks x.page x.bytes o.0 (In-map (λ (y : Sheet). y.page) x ss i)
    (λ y j e. ap (λ (z : Sheet). z.bytes) (one_keyed (λ (z : Sheet). z.page) ss y x once j i e)) o.1)

-- a page of a bundle is the same in a bundle with more pages
pub page_kept : (range : CoreRange) (inodes : ℕ) (ss more : List Sheet) (p : ℕ) → are_new [] (sheet_numbers ss) ≡ true → are_new [] (sheet_numbers more) ≡ true → ((x : Sheet) → In x ss → In x more) → In p (sheet_numbers ss)
    → page_of (core_of range inodes more) p ≡ page_of (core_of range inodes ss) p
page_kept range inodes ss more p once once' sub i =
    let q = map-In (λ (y : Sheet). y.page) p ss i in
    elim (cases_Bool (is_core range p)) [
      | inl core ↦
          let core' : is_core range q.0.page ≡ true = ap (is_core range) (sym q.2) ∙ core in
          ap (page_of (core_of range inodes more)) q.2
          ∙ sheet_there range inodes more q.0 once' (sub q.0 q.1) core'
          ∙ sym (sheet_there range inodes ss q.0 once q.1 core')
          ∙ ap (page_of (core_of range inodes ss)) (sym q.2)
      | inr out ↦ search (arith, page_of_at)
    ]
