-- One index page more of a chain that is in the grammar.
use Rattle.trio_checkpoint.proofs.Words.{◌++◌, ◌-◌, ◌∙◌, ◌∷◌, ◌≡◌, Core, IsSome, List, None, Ok, Option, Some, [], append-nil, arith, eqb, false≢true, page_of, refl, result_map, sym, ℕ}
use Rattle.std.proofs.Common.{suc, ◌<◌, min, leb, IfSome, Result, Err, IsOk, append_assoc}
use Rattle.std.proofs.lemmas.Bool.Decides.{nat_tests}
use Rattle.trio_layout.specs.Core.{Location}
use Rattle.trio_layout.specs.Index.{Index, index_of}
use Rattle.trio_lists.specs.Lists.{result_then}
use Rattle.trio_layout.specs.Chain.{Chain, chain_from, index_count, index_page, with_index}
use Rattle.trio_checkpoint.specs.inner.Steps.{Appends}

-- a chain that goes on after these index pages and blocks
abbrev pub after : List ℕ → List ℕ → Chain → Chain
after index blocks c = record { index = index ++ c.index; blocks = blocks ++ c.blocks }

-- the chain of so many blocks from a page on
abbrev pub rest_of : Core → ℕ → ℕ → Result Chain Location
rest_of core left at = chain_from core (index_count left) left at

-- what the grammar makes of an index page from which so many blocks are left
abbrev pub index_here : Core → ℕ → List ℕ → Option Index
index_here core left page = index_of (min left 511) (leb left 511) core.range page

after-with_index : (index blocks : List ℕ) (at : ℕ) (i : Index) (r : Result Chain Location) → result_map (after index blocks) (result_map (with_index at i) r) ≡ result_map (after (index ++ at ∷ []) (blocks ++ i.numbers)) r
after-with_index index blocks at i (Err p) = refl
after-with_index index blocks at i (Ok c) = simp append_assoc

-- the first index page, and the rest
rest_more : (core : Core) (left at : ℕ) → 0 < left → rest_of core left at ≡ result_then (λ i. result_map (with_index at i) (rest_of core (left - 511) i.next)) (index_page core at (min left 511) (leb left 511))
rest_more core left at h =
    let n : index_count left ≡ suc (index_count (left - 511)) = omega arith in
    let last : eqb (index_count (left - 511)) 0 ≡ leb left 511 = grind (arith, nat_tests) in
    rw (n, last) refl

-- the first index page is there
pub page_is_there : (core : Core) (r : Result Chain Location) (left at : ℕ) (index blocks : List ℕ) → 0 < left → result_map (after index blocks) (rest_of core left at) ≡ r → IsOk r → IsSome (page_of core at)
page_is_there core r left at index blocks h e ok = by (page_of core at) refl
  where
    by : (o : Option (List ℕ)) → page_of core at ≡ o → IsSome o
    by (Some page) p = refl
    by None p = absurd (false≢true (rw (← e, rest_more core left at h, p) at ok))

-- and in the grammar
pub index_is_there : (core : Core) (r : Result Chain Location) (left at : ℕ) (index blocks page : List ℕ) → 0 < left → result_map (after index blocks) (rest_of core left at) ≡ r → IsOk r → page_of core at ≡ Some page → IsSome (index_here core left page)
index_is_there core r left at index blocks page h e ok there = by (index_here core left page) refl
  where
    by : (o : Option Index) → index_here core left page ≡ o → IsSome o
    by (Some i) p = refl
    by None p = absurd (false≢true (rw (← e, rest_more core left at h, there, p) at ok))

-- what is left after it
pub one_index_more : (core : Core) (r : Result Chain Location) (left at : ℕ) (index blocks page : List ℕ) (next : ℕ) (blocks' : List ℕ) → 0 < left → result_map (after index blocks) (rest_of core left at) ≡ r → page_of core at ≡ Some page → IsSome (index_here core left page) → IfSome (index_here core left page) (λ i. Appends i next blocks blocks') → result_map (after (index ++ at ∷ []) blocks') (rest_of core (left - 511) next) ≡ r
one_index_more core r left at index blocks page next blocks' h e there some read = by (index_here core left page) refl some read
  where
    by : (o : Option Index) → index_here core left page ≡ o → IsSome o → IfSome o (λ i. Appends i next blocks blocks') → result_map (after (index ++ at ∷ []) blocks') (rest_of core (left - 511) next) ≡ r
    by None p some read = absurd (false≢true some)
    by (Some i) p some read =
        rw (read.0, read.1) (sym (after-with_index index blocks at i (rest_of core (left - 511) i.next)) ∙ (rw (rest_more core left at h, there, p) at e))

-- no blocks are left
pub chain_whole : (core : Core) (r : Result Chain Location) (left at : ℕ) (index blocks : List ℕ) → left ≡ 0 → result_map (after index blocks) (rest_of core left at) ≡ r → Ok (record { index = index; blocks = blocks }) ≡ r
chain_whole core r left at index blocks z e =
    let none : index_count left ≡ 0 = omega arith in
    rw (none, append-nil, append-nil) at e
