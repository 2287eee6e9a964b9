-- One index page more of a chain.
use Rattle.trio_survey.proofs.Words.{◌++◌, ◌-◌, ◌<◌, ◌∙◌, ◌∷◌, ◌≡◌, Chain, Core, Err, Index, List, Location, None, Ok, Result, Some, [], append-nil, append_assoc, arith, at_page, chain_from, eqb, index_count, index_page, leb, min, nat_tests, page_of, refl, result_map, result_then, suc, sym, with_index, ℕ}
use Rattle.trio_layout.specs.Index.{index_of}

-- a chain that goes on after these pages and blocks
abbrev pub after : List ℕ → List ℕ → Chain → Chain
after index blocks c = record { index = index ++ c.index; blocks = blocks ++ c.blocks }

-- the chain of so many blocks from a page on
abbrev pub rest_of : Core → ℕ → ℕ → Result Chain Location
rest_of core left at = chain_from core (index_count left) left at

after-with_index : (index blocks : List ℕ) (at : ℕ) (i : Index) (r : Result Chain Location) → result_map (after index blocks) (result_map (with_index at i) r) ≡ result_map (after (index ++ at ∷ []) (blocks ++ i.numbers)) r
after-with_index index blocks at i (Err p) = refl
after-with_index index blocks at i (Ok c) = simp append_assoc

-- the first index page, and the rest
rest_more : (core : Core) (left at : ℕ) → 0 < left → rest_of core left at ≡ result_then (λ i. result_map (with_index at i) (rest_of core (left - 511) i.next)) (index_page core at (min left 511) (leb left 511))
rest_more core left at h =
    let n : index_count left ≡ suc (index_count (left - 511)) = omega arith in
    let last : eqb (index_count (left - 511)) 0 ≡ leb left 511 = grind (arith, nat_tests) in
    rw (n, last) refl

-- an index page that is absent
pub no_page_at : (core : Core) (r : Result Chain Location) (left at : ℕ) (index blocks : List ℕ) → 0 < left → result_map (after index blocks) (rest_of core left at) ≡ r → None ≡ page_of core at → Err (at_page at) ≡ r
no_page_at core r left at index blocks h e p = rw (rest_more core left at h, ← p) at e

-- an index page outside the grammar
pub no_index_at : (core : Core) (r : Result Chain Location) (left at : ℕ) (index blocks page : List ℕ) → 0 < left → result_map (after index blocks) (rest_of core left at) ≡ r → Some page ≡ page_of core at → index_of (min left 511) (leb left 511) core.range page ≡ None → Err (at_page at) ≡ r
no_index_at core r left at index blocks page h e p q = rw (rest_more core left at h, ← p, q) at e

-- an index page that is read
pub one_index_more : (core : Core) (r : Result Chain Location) (left at : ℕ) (index blocks page numbers : List ℕ) (next : ℕ) → 0 < left → result_map (after index blocks) (rest_of core left at) ≡ r → Some page ≡ page_of core at → index_of (min left 511) (leb left 511) core.range page ≡ Some (record { numbers = numbers; next = next }) → result_map (after (index ++ at ∷ []) (blocks ++ numbers)) (rest_of core (left - 511) next) ≡ r
one_index_more core r left at index blocks page numbers next h e p q =
    let i : Index = record { numbers = numbers; next = next } in
    sym (after-with_index index blocks at i (rest_of core (left - 511) next)) ∙ (rw (rest_more core left at h, ← p, q) at e)

-- no blocks are left
pub chain_whole : (core : Core) (r : Result Chain Location) (left at : ℕ) (index blocks : List ℕ) → left ≡ 0 → result_map (after index blocks) (rest_of core left at) ≡ r → Ok (record { index = index; blocks = blocks }) ≡ r
chain_whole core r left at index blocks z e =
    let none : index_count left ≡ 0 = omega arith in
    rw (none, append-nil, append-nil) at e
