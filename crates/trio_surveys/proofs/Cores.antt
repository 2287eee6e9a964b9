-- The pages that a file in the grammar lists are core pages.
use Rattle.trio_surveys.proofs.Words.{◌++◌, ◌-◌, ◌∙◌, ◌∷◌, ◌≡◌, Bool, Chain, Core, CoreRange, FileRead, In, In-cases, In-left, In-right, Index, List, Met, None, Ok, Option, Some, and_parts, ap, arith, at_page, block_count, chain_from, cond, cond_some, eqb, false, file_of, index_count, index_page, inl, inr, is_core, list_all-In, min, option_and_then-Some, page_of, pages_of, refl, result_map, result_map-Ok, result_then-Ok, subst, suc, sym, there_or-Ok, true, with_index, zero, ℕ}
use Rattle.std.specs.List.{list_all}
use Rattle.trio_layout.specs.Index.{index_of}
use Rattle.trio_surveys.proofs.Local.{reads_from}
use Rattle.trio_surveys.proofs.Owned.{pages_are}

page_cond : (b : Bool) (o : Option (List ℕ)) (page : List ℕ) → cond b o None ≡ Some page → b ≡ true
page_cond true o page e = refl
page_cond false o page e = absurd cc

pub page_is_core : (core : Core) (at : ℕ) (page : List ℕ) → page_of core at ≡ Some page → is_core core.range at ≡ true
page_is_core core at page e = page_cond (is_core core.range at) _ page e

index_core : (range : CoreRange) (used : ℕ) (last : Bool) (page : List ℕ) (i : Index) → index_of used last range page ≡ Some i → list_all (is_core range) i.numbers ≡ true
unfolding index_of
index_core range used last page i e = search (arith, cond_some, and_parts)

pub chain_core : (core : Core) (n blocks at : ℕ) (c : Chain) (p : ℕ) → chain_from core n blocks at ≡ Ok c → In p (c.index ++ c.blocks) → is_core core.range p ≡ true
chain_core core zero blocks at c p e i = search (arith, min, result_then-Ok, result_map-Ok, option_and_then-Some, there_or-Ok, page_is_core, In-cases, In-left, list_all-In, index_core, In-right)
chain_core core (suc n) blocks at c p e i =
    let used : ℕ = min blocks 511 in
    let s1 = result_then-Ok (λ i. result_map (with_index at i) (chain_from core n (blocks - 511) i.next)) (index_page core at used (eqb n 0)) c e in
    let x : Index = s1.0 in
    let s2 = result_map-Ok (with_index at x) (chain_from core n (blocks - 511) x.next) c s1.2 in
    let s3 = option_and_then-Some (index_of used (eqb n 0) core.range) (page_of core at) x (there_or-Ok (at_page at) _ x s1.1) in
    let rest : Chain = s2.0 in
    let j : In p (at ∷ (rest.index ++ (x.numbers ++ rest.blocks))) = subst (λ (y : Chain). In p (y.index ++ y.blocks)) (sym s2.2) i in
    elim j [
      | inl here ↦ ap (is_core core.range) here ∙ page_is_core core at s3.0 s3.1
      | inr more ↦
          elim (In-cases p rest.index (x.numbers ++ rest.blocks) more) [
            | inl a ↦ chain_core core n (blocks - 511) x.next rest p s2.1 (In-left p rest.index rest.blocks a)
            | inr b ↦
                elim (In-cases p x.numbers rest.blocks b) [
                  | inl here ↦ list_all-In (is_core core.range) p x.numbers (index_core core.range used (eqb n 0) s3.0 x s3.2) here
                  | inr later ↦ chain_core core n (blocks - 511) x.next rest p s2.1 (In-right p rest.index rest.blocks later)
                ]
          ]
    ]

pub listed_is_core : (core : Core) (m : Met) (f : FileRead) (p : ℕ) → file_of core m ≡ Ok f → In p (pages_of core m) → is_core core.range p ≡ true
listed_is_core core m f p e i =
    let r = reads_from core m f e in
    chain_core core (index_count (block_count f.body.size)) (block_count f.body.size) f.body.head f.chain p r.chain (subst (λ l. In p l) (pages_are core m f e) i)
