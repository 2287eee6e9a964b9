-- A file that is read as far as its pages are there, and the same file where they all are.
use Rattle.trio_surveys.proofs.Words.{◌++◌, ◌-◌, ◌∙◌, ◌∷◌, ◌≡◌, Chain, Core, CoreRange, Directory, FileRead, In, In-left, In-right, Index, Kind, Link, List, Met, None, Ok, Option, Regular, Some, [], ap, arith, at_page, block_count, both, chain_from, entries_of_kind, entries_on, eqb, file_within, gathered, index_count, index_of, inl, inr, min, option_and_then, page_entries, page_of, pages_read, refl, result_map, result_map-Ok, result_then, result_then-Ok, subst, suc, sym, there_or, with_index, with_names_apart, zero, ℕ}
use Rattle.trio_layout.specs.Survey.{file_of}
use Rattle.trio_layout.specs.Within.{chain_within, entries_where, entries_within, index_within}
use Rattle.trio_surveys.proofs.Local.{reads_from, reads_to}
use Rattle.trio_layout.proofs.WithinCore.{rest_of, within_from, within_to}

-- ---- where all pages are there

abbrev IsThere : Core → ℕ → Type 0
IsThere core p = (bytes : List ℕ) × (page_of core p ≡ Some bytes)

whole_step : (core : Core) (n blocks at : ℕ) (c : Chain) (o : Option (List ℕ)) → page_of core at ≡ o → ((i : Index) (r : Chain) → rest_of core n blocks i ≡ Ok r → ((p : ℕ) → In p r.index → IsThere core p) → chain_from core n (blocks - 511) i.next ≡ Ok r) → index_within core at (min blocks 511) (eqb n 0) (rest_of core n blocks) o ≡ Ok c → ((p : ℕ) → In p c.index → IsThere core p) → chain_from core (suc n) blocks at ≡ Ok c
whole_step core n blocks at c None page more e there =
    let k : record { index = at ∷ []; blocks = [] } ≡ c = cc e in
    let t = there at (subst (λ (x : Chain). In at x.index) k (inl refl)) in
    let wrong : None ≡ Some t.0 = sym page ∙ t.1 in absurd cc
whole_step core n blocks at c (Some bytes) page more e there = search (arith, min, result_then-Ok, result_map-Ok)

chain_whole : (core : Core) (n blocks at : ℕ) (c : Chain) → chain_within core n blocks at ≡ Ok c → ((p : ℕ) → In p c.index → IsThere core p) → chain_from core n blocks at ≡ Ok c
chain_whole core zero blocks at c e there = e
chain_whole core (suc n) blocks at c e there =
    whole_step core n blocks at c (page_of core at) refl (λ i r k t. chain_whole core n (blocks - 511) i.next r k t) e there

part_step : (core : Core) (n blocks at : ℕ) (c : Chain) (o : Option (List ℕ)) → page_of core at ≡ o → ((i : Index) (r : Chain) → chain_from core n (blocks - 511) i.next ≡ Ok r → rest_of core n blocks i ≡ Ok r) → result_then (λ i. result_map (with_index at i) (chain_from core n (blocks - 511) i.next)) (there_or (at_page at) (option_and_then (index_of (min blocks 511) (eqb n 0) core.range) o)) ≡ Ok c → index_within core at (min blocks 511) (eqb n 0) (rest_of core n blocks) o ≡ Ok c
part_step core n blocks at c o page more e = search (arith, min, result_then-Ok, result_map-Ok)

chain_part : (core : Core) (n blocks at : ℕ) (c : Chain) → chain_from core n blocks at ≡ Ok c → chain_within core n blocks at ≡ Ok c
chain_part core zero blocks at c e = e
chain_part core (suc n) blocks at c e =
    part_step core n blocks at c (page_of core at) refl (λ i r k. chain_part core n (blocks - 511) i.next r k) e

page_where : (core : Core) (p : ℕ) (o : Option (List ℕ)) → page_of core p ≡ o → IsThere core p → entries_where core.inodes p o ≡ result_then (entries_on core.inodes p) (there_or (at_page p) o)
page_where core p None e t = let wrong : None ≡ Some t.0 = sym e ∙ t.1 in absurd cc
page_where core p (Some bytes) e t = refl

gathered_where : (core : Core) (blocks : List ℕ) → ((p : ℕ) → In p blocks → IsThere core p) → gathered (λ page. entries_where core.inodes page (page_of core page)) blocks ≡ gathered (page_entries core) blocks
gathered_where core [] h = refl
gathered_where core (b ∷ bs) h =
    ap (λ r. both r (gathered (λ page. entries_where core.inodes page (page_of core page)) bs)) (page_where core b (page_of core b) refl (h b (inl refl)))
    ∙ ap (both (page_entries core b)) (gathered_where core bs (λ p i. h p (inr i)))

entries_whole : (core : Core) (kind : Kind) (blocks : List ℕ) → ((p : ℕ) → In p blocks → IsThere core p) → entries_within core kind blocks ≡ entries_of_kind core kind blocks
entries_whole core Regular blocks h = refl
entries_whole core Directory blocks h = ap (result_then with_names_apart) (gathered_where core blocks h)
entries_whole core Link blocks h = refl

-- where all pages that it lists are there a file is read whole
pub file_whole : (core : Core) (m : Met) (f : FileRead) → file_within core m ≡ Ok f → ((p : ℕ) → In p (f.chain.index ++ f.chain.blocks) → (bytes : List ℕ) × (page_of core p ≡ Some bytes)) → file_of core m ≡ Ok f
file_whole core m f e there =
    let r = within_from core m f e in
    reads_to core m f (record {
      body = r.body;
      chain = chain_whole core (index_count (block_count f.body.size)) (block_count f.body.size) f.body.head f.chain r.chain (λ p i. there p (In-left p f.chain.index f.chain.blocks i));
      entries = sym (entries_whole core m.kind f.chain.blocks (λ p i. there p (In-right p f.chain.index f.chain.blocks i))) ∙ r.entries;
    })

-- a file that is read whole is read so within what is there
pub file_part : (core : Core) (m : Met) (f : FileRead) → file_of core m ≡ Ok f → ((p : ℕ) → In p (f.chain.index ++ f.chain.blocks) → (bytes : List ℕ) × (page_of core p ≡ Some bytes)) → file_within core m ≡ Ok f
file_part core m f e there =
    let r = reads_from core m f e in
    within_to core m f (record {
      body = r.body;
      chain = chain_part core (index_count (block_count f.body.size)) (block_count f.body.size) f.body.head f.chain r.chain;
      entries = entries_whole core m.kind f.chain.blocks (λ p i. there p (In-right p f.chain.index f.chain.blocks i)) ∙ r.entries;
    })

-- the root's body isn't looked at
pub root_unread : (pages : List (Option (List ℕ))) (one two : List ℕ) (range : CoreRange) (inodes : ℕ) (m : Met) → file_of (record { pages = pages; root = one; range = range; inodes = inodes }) m ≡ file_of (record { pages = pages; root = two; range = range; inodes = inodes }) m
unfolding file_of
root_unread pages one two range inodes m = refl

-- a file is read by its kind and its body
pub file_same : (core : Core) (m x : Met) → m.kind ≡ x.kind → m.body ≡ x.body → file_of core m ≡ file_of core x
unfolding file_of
file_same core m x kind body = search arith

-- the pages that are read of a file are pages that it lists
pub read_pages : (m : Met) (f : FileRead) (p : ℕ) → In p (pages_read m.kind f) → In p (f.chain.index ++ f.chain.blocks)
read_pages m f p i = search (arith, In-left)
