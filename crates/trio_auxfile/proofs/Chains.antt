-- The chain of a body is its index.
use Rattle.std.proofs.Common.{◌≡◌, ℕ, zero, suc, ◌+◌, ◌*◌, ◌-◌, ◌/◌, ◌%◌, ◌^◌, ◌<◌, ◌≤◌, ◌&&◌, ◌==◌, min, Bool, true, false, cond, List, [], ◌∷◌, ◌++◌, length, map, get_or, Option, None, Some, refl, sym, ap, subst, ◌∙◌, inl, inr, arith}
use Rattle.std.specs.Prelude.{Result, Ok, Err, nat_le, nat_lt}
use Rattle.std.specs.Int.{w64}
use Rattle.std.specs.Str.{bytes_eq}
use Rattle.std.specs.List.{list_all}
use Rattle.std.specs.Option.{option_and_then}
use Rattle.std.proofs.lemmas.Bool.{cases_lt, and_parts, ltb-true}
use Rattle.std.proofs.lemmas.List.{ext_get_or}
use Rattle.std.proofs.lemmas.List.Sums.{AllPass-from_list_all}
use Rattle.trio_page.specs.Field.{number_at}
use Rattle.trio_layout.specs.declared.range.CoreRange.{CoreRange}
use Rattle.trio_layout.specs.declared.body.Body.{Body}
use Rattle.trio_layout.specs.Range.{is_core}
use Rattle.trio_layout.specs.Body.{block_count, body_at, body_bytes, body_fits, body_of}
use Rattle.trio_layout.specs.Index.{Index, index_at, index_bytes, index_fits, index_of, link_fits, numbers_in}
use Rattle.trio_layout.specs.Core.{Core, Location, at_page, page_of}
use Rattle.trio_layout.specs.Chain.{Chain, chain_from, index_count, index_page, with_index}
use Rattle.trio_lists.specs.Lists.{result_map, result_then, tabulated, there_or}
use Rattle.trio_layout.proofs.IndexPages.{length-numbers_in, numbers_in-at}
use Rattle.trio_lists.proofs.Tabulated.{tabulated-length, tabulated-get}
use Rattle.trio_auxfile.specs.Blocks.{block_number, block_index, bytes_of, NamesBlocks}
use Rattle.trio_auxfile.specs.Laws.{ChainIsIndex}
use Rattle.trio_auxfile.proofs.Numbers.{tabulated-same_below, tabulated-add}

same_some : {X : Type 0} (x y : X) → Some x ≡ Some y → x ≡ y
same_some x y e = cc

same_ok : {X E : Type 0} (x y : X) → ◌≡◌ {A = Result X E} (Ok x) (Ok y) → x ≡ y
same_ok x y e = cc

-- ---- an index page that was read

record Read (core : Core) (page used : ℕ) (i : Index) : Type 0 where
  bytes : List ℕ
  there : page_of core page ≡ Some bytes
  numbers : i.numbers ≡ numbers_in used bytes
  within : list_all (is_core core.range) i.numbers ≡ true

by_test : (place : Location) (b : Bool) (x i : Index) → there_or place (cond b (Some x) None) ≡ Ok i → (b ≡ true) × (x ≡ i)
by_test place true x i e = (refl, same_ok x i e)
by_test place false x i e = absurd cc

by_page : (core : Core) (page used : ℕ) (last : Bool) (i : Index) (o : Option (List ℕ)) → page_of core page ≡ o
    → there_or (at_page page) (option_and_then (index_of used last core.range) o) ≡ Ok i → Read core page used i
unfolding index_of
by_page core page used last i None is e = absurd cc
by_page core page used last i (Some p) is e =
    let x : Index = index_at used p in
    let spelled : Bool = bytes_eq p (index_bytes x) in
    let t = by_test (at_page page) (spelled && index_fits used last core.range x) x i e in
    let fits = (and_parts spelled (index_fits used last core.range x) t.0).1 in
    let both = (and_parts ((length x.numbers == used) && list_all (is_core core.range) x.numbers) (link_fits last core.range x.next) fits).0 in
    record {
      bytes = p;
      there = is;
      numbers = ap (λ (j : Index). j.numbers) (sym t.1);
      within = ap (λ (j : Index). list_all (is_core core.range) j.numbers) (sym t.1)
          ∙ (and_parts (length x.numbers == used) (list_all (is_core core.range) x.numbers) both).1;
    }

-- ---- one step of a chain

record Step (page : ℕ) (r : Result Index Location) (q : Index → Result Chain Location) (c : Chain) : Type 0 where
  index : Index
  rest : Chain
  first : r ≡ Ok index
  later : q index ≡ Ok rest
  same : with_index page index rest ≡ c

by_rest : (page : ℕ) (i : Index) (q : Index → Result Chain Location) (d : Result Chain Location) (c : Chain) → q i ≡ d
    → result_map (with_index page i) d ≡ Ok c → Step page (Ok i) q c
by_rest page i q (Err place) c is e = absurd cc
by_rest page i q (Ok d) c is e = record { index = i; rest = d; first = refl; later = is; same = same_ok (with_index page i d) c e }

by_step : (page : ℕ) (r : Result Index Location) (q : Index → Result Chain Location) (c : Chain)
    → result_then (λ i. result_map (with_index page i) (q i)) r ≡ Ok c → Step page r q c
by_step page (Err place) q c e = absurd cc
by_step page (Ok i) q c e = by_rest page i q (q i) c refl e

-- ---- numbers

numbers_in-tabulated : (n : ℕ) (bytes : List ℕ) → numbers_in n bytes ≡ tabulated (λ k. number_at w64 (8 * k) bytes) n
numbers_in-tabulated n bytes =
    ext_get_or 0 (numbers_in n bytes) (tabulated (λ k. number_at w64 (8 * k) bytes) n) (length-numbers_in n bytes
    ∙ sym (tabulated-length (λ k. number_at w64 (8 * k) bytes) n))
    (λ i lt.
    let within : i < n = omega (arith, lt, length-numbers_in n bytes) in
    numbers_in-at n i bytes within ∙ sym (tabulated-get (λ k. number_at w64 (8 * k) bytes) n i 0 within))

block_number-at : (index : List (List ℕ)) (i a b : ℕ) → i % 511 ≡ a → i / 511 ≡ b → block_number index i ≡ number_at w64 (8 * a) (get_or index b [])
block_number-at index i a b e f =
    ap (λ (x : ℕ). number_at w64 (8 * x) (get_or index (i / 511) [])) e ∙ ap (λ (x : ℕ). number_at w64 (8 * a) (get_or index x [])) f

core_below : (range : CoreRange) (n : ℕ) → is_core range n ≡ true → n < range.end
core_below range n is = ltb-true n range.end (and_parts (nat_le range.first n) (nat_lt n range.end) is).1

-- ---- a chain, from one of its index pages on

record Named (numbers : List ℕ) (blocks : ℕ) (index : List (List ℕ)) : Type 0 where
  is : numbers ≡ tabulated (block_number index) blocks
  names : NamesBlocks blocks index

first_numbers : (p : List ℕ) (ps : List (List ℕ)) (k : ℕ) → k < 511 → block_number (p ∷ ps) k ≡ number_at w64 (8 * k) p
first_numbers p ps k lt = block_number-at (p ∷ ps) k k 0 (omega (arith, lt)) (omega (arith, lt))

later_numbers : (p : List ℕ) (ps : List (List ℕ)) (i k : ℕ) → i ≡ 511 + k → block_number (p ∷ ps) i ≡ block_number ps k
later_numbers p ps i k e = block_number-at (p ∷ ps) i (k % 511) (suc (k / 511)) (omega (arith, e)) (omega (arith, e))

named_join : (range : CoreRange) (p : List ℕ) (ps : List (List ℕ)) (blocks : ℕ) (numbers rest : List ℕ) → range.end ≤ 2 ^ 32
    → numbers ≡ numbers_in (min blocks 511) p
    → list_all (is_core range) numbers ≡ true → Named rest (blocks - 511) ps → Named (numbers ++ rest) blocks (p ∷ ps)
named_join range p ps blocks numbers rest small is within later =
    let u : ℕ = min blocks 511 in
    let r : ℕ = blocks - 511 in
    let F : ℕ → ℕ = block_number (p ∷ ps) in
    let e : blocks ≡ u + r = omega arith in
    let front : numbers ≡ tabulated F u = is ∙ numbers_in-tabulated u p
    ∙ tabulated-same_below F (λ k. number_at w64 (8 * k) p) u (λ k lt. sym (first_numbers p ps k (omega (arith, lt)))) in
    let back : rest ≡ tabulated (λ k. F (u + k)) r = later.is
    ∙ tabulated-same_below (λ k. F (u + k)) (block_number ps) r (λ k lt. sym (later_numbers p ps (u + k) k (omega (arith, lt)))) in
    record {
      is = ap (λ (x : List ℕ). x ++ rest) front ∙ ap (λ (x : List ℕ). tabulated F u ++ x) back ∙ sym (tabulated-add F u r) ∙ ap (tabulated F) (sym e);
      names = record {
        named = omega (arith, later.names.named);
        narrow = λ i lt.
            elim (cases_lt i u) [
              | inl before ↦
                  let len : i < length numbers = omega (arith, before, ap length front, tabulated-length F u) in
                  let core = AllPass-from_list_all (is_core range) numbers within i 0 len in
                  let same : get_or numbers i 0 ≡ F i = ap (λ (x : List ℕ). get_or x i 0) front ∙ tabulated-get F u i 0 before in
                  omega (arith, core_below range (get_or numbers i 0) core, same, small)
              | inr from ↦
                  let at : i ≡ 511 + (i - 511) = omega (arith, from, lt) in
                  let below : i - 511 < r = omega (arith, from, lt) in
                  omega (arith, later_numbers p ps i (i - 511) at, later.names.narrow (i - 511) below)
            ];
      };
    }

chain_named : (core : Core) → core.range.end ≤ 2 ^ 32 → (more blocks page : ℕ) (c : Chain) (index : List (List ℕ)) → chain_from core more blocks page ≡ Ok c
    → map (page_of core) c.index ≡ map Some index → blocks ≤ 511 * more → Named c.blocks blocks index
chain_named core small zero blocks page c index e there le =
    let none : blocks ≡ 0 = omega (arith, le) in
    record {
      is = ap (λ (x : Chain). x.blocks) (sym (same_ok (record { index = []; blocks = [] }) c e)) ∙ ap (tabulated (block_number index)) (sym none);
      names = record { named = omega (arith, none); narrow = λ i lt. absurd (omega (arith, none, lt)) };
    }
chain_named core small (suc more) blocks page c [] e there le =
    let s = by_step page (index_page core page (min blocks 511) (more == 0)) (λ i. chain_from core more (blocks - 511) i.next) c e in
    let some : page_of core page ∷ map (page_of core) s.rest.index ≡ [] = ap (λ (x : Chain). map (page_of core) x.index) s.same ∙ there in
    absurd cc
chain_named core small (suc more) blocks page c (p ∷ ps) e there le =
    let s = by_step page (index_page core page (min blocks 511) (more == 0)) (λ i. chain_from core more (blocks - 511) i.next) c e in
    let t = by_page core page (min blocks 511) (more == 0) s.index (page_of core page) refl s.first in
    let some : page_of core page ∷ map (page_of core) s.rest.index ≡ Some p ∷ map Some ps = ap (λ (x : Chain). map (page_of core) x.index) s.same ∙ there in
    let here : page_of core page ≡ Some p = cc in
    let later : map (page_of core) s.rest.index ≡ map Some ps = cc in
    let same : t.bytes ≡ p = same_some t.bytes p (sym t.there ∙ here) in
    let numbers : s.index.numbers ≡ numbers_in (min blocks 511) p = t.numbers ∙ ap (numbers_in (min blocks 511)) same in
    let rest = chain_named core small more (blocks - 511) s.index.next s.rest ps s.later later (omega (arith, le)) in
    subst (λ (x : Chain). Named x.blocks blocks (p ∷ ps)) s.same (named_join core.range p ps blocks s.index.numbers s.rest.blocks small numbers t.within rest)

by_fits : (b : Bool) (x y : Body) → cond b (Some x) None ≡ Some y → x ≡ y
by_fits true x y e = same_some x y e
by_fits false x y e = absurd cc

pub chain_index : ChainIsIndex
unfolding body_of block_index
chain_index core kind s b c small body chain there =
    let x : Body = body_at s.body in
    let same : x ≡ b = by_fits (bytes_eq s.body (body_bytes x) && body_fits kind core.range x) x b body in
    let count : block_count b.size ≡ block_count (number_at w64 16 s.body) = ap (λ (y : Body). block_count y.size) (sym same) in
    let n : ℕ = block_count b.size in
    let enough : n ≤ 511 * index_count n = omega arith in
    let named = chain_named core small (index_count n) n b.head c (bytes_of s.index) chain there enough in
    (named.is ∙ ap (tabulated (block_number (bytes_of s.index))) count, subst (λ (k : ℕ). NamesBlocks k (bytes_of s.index)) count named.names)
