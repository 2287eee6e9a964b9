-- How long the chain of a file is that a lease lends.
use Rattle.trio_session.proofs.Words.{◌&&◌, ◌+◌, ◌-◌, ◌∙◌, ◌≡◌, Bool, Chain, Core, CoreRange, List, None, Ok, Some, [], ap, arith, at_page, bytes_eq, cond, false, index_count, length, length-append, min, option_and_then, page_of, result_then-Ok, suc, sym, there_or-Ok, true, zero, ℕ}
use Rattle.std.proofs.Common.{◌==◌}
use Rattle.trio_lists.specs.Lists.{result_map}
use Rattle.trio_lists.proofs.Members.{result_map-Ok, option_and_then-Some}
use Rattle.trio_layout.specs.Index.{Index, index_at, index_bytes, index_fits, index_of}
use Rattle.trio_layout.specs.Chain.{chain_from, index_page, with_index}
use Rattle.trio_layout.proofs.IndexPages.{length-numbers_in}

-- an index page that was read has as many numbers as are in use
read_length : (used : ℕ) (last : Bool) (range : CoreRange) (bytes : List ℕ) (i : Index) → index_of used last range bytes ≡ Some i → length i.numbers ≡ used
unfolding index_of
read_length used last range bytes i e = by (bytes_eq bytes (index_bytes x) && index_fits used last range x) e
  where
    x : Index
    x = index_at used bytes

    by : (b : Bool) → cond b (Some x) None ≡ Some i → length i.numbers ≡ used
    by true e = let same : x ≡ i = (let t : Some x ≡ Some i = e in cc t) in ap (λ (j : Index). length j.numbers) (sym same) ∙ length-numbers_in used bytes
    by false e = absurd (let t : None ≡ Some i = e in cc t)

-- a chain that was read has as many index pages as were asked, and as many blocks where those are the pages that they take
pub chain_lengths : (core : Core) (more blocks page : ℕ) (c : Chain) → chain_from core more blocks page ≡ Ok c → (length c.index ≡ more) × (more ≡ index_count blocks → length c.blocks ≡ blocks)
chain_lengths core zero blocks page c e =
    let same : (let t : Chain = record { index = []; blocks = [] } in t) ≡ c = (let t : Ok (let n : Chain = record { index = []; blocks = [] } in n) ≡ Ok c = e in cc t) in
    (ap (λ (d : Chain). length d.index) (sym same), λ k. ap (λ (d : Chain). length d.blocks) (sym same) ∙ (let z : 0 ≡ blocks = omega (arith, k) in z))
chain_lengths core (suc more) blocks page c e =
    let a = result_then-Ok (λ (i : Index). result_map (with_index page i) (chain_from core more (blocks - 511) i.next)) (index_page core page (min blocks 511) (more == 0)) c e in
    let r = result_map-Ok (with_index page a.0) (chain_from core more (blocks - 511) a.0.next) c a.2 in
    let rest = chain_lengths core more (blocks - 511) a.0.next r.0 r.1 in
    let o = option_and_then-Some (index_of (min blocks 511) (more == 0) core.range) (page_of core page) a.0 (there_or-Ok (at_page page) (option_and_then (index_of (min blocks 511) (more == 0) core.range) (page_of core page)) a.0 a.1) in
    let used = read_length (min blocks 511) (more == 0) core.range o.0 a.0 o.2 in (
      ap (λ (d : Chain). length d.index) (sym r.2) ∙ ap suc rest.0,
      λ k. let less : more ≡ index_count (blocks - 511) = omega (arith, k) in
          ap (λ (d : Chain). length d.blocks) (sym r.2) ∙ length-append a.0.numbers r.0.blocks ∙ (let two = rest.1 less in let s : length a.0.numbers + length r.0.blocks ≡ blocks = omega (arith, two, used, k) in s),
    )
