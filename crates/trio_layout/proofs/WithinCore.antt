-- A file that is read as far as its pages are there, by its parts; the pages that it lists are core pages.
use Rattle.trio_layout.proofs.Words.{◌&&◌, ◌++◌, ◌-◌, ◌∙◌, ◌∷◌, ◌≡◌, ◌⊎◌, Body, Bool, Core, CoreRange, In, In-cases, In-left, In-right, Index, Kind, List, Listed, Location, Met, None, Ok, Option, Result, Some, [], and_parts, ap, arith, block_count, body_at, body_fits, bytes_eq, cases_eq, cond, core_count, entries_within, eqb, head_fits, index_at, index_fits, inl, inr, is_core, length, link_fits, list_all, ne_eqb, page_of, result_map, result_then, size_fits, subst, suc, sym, true, zero, ℕ}
use Rattle.std.proofs.Common.{min}
use Rattle.std.proofs.lemmas.Option.{cond_some}
use Rattle.std.specs.Prelude.{nat_le}
use Rattle.trio_rights.specs.ByKind.{guard_fits}
use Rattle.trio_lists.proofs.Members.{list_all-In, result_map-Ok, result_then-Ok, there_or-Ok}
use Rattle.trio_lists.specs.Lists.{there_or}
use Rattle.trio_layout.specs.Body.{body_bytes, body_of}
use Rattle.trio_layout.specs.Chain.{Chain, index_count, with_index}
use Rattle.trio_layout.specs.Core.{at_page, nowhere}
use Rattle.trio_layout.specs.Index.{index_bytes, index_of}
use Rattle.trio_layout.specs.Survey.{FileRead}
use Rattle.trio_layout.specs.Within.{chain_within, file_with_within, file_within, index_within}

-- a file that is read within what is there, by its parts
pub record ReadsWithin (core : Core) (m : Met) (f : FileRead) : Type 0 where
  pub body : body_of m.kind core.range m.body ≡ Some f.body
  pub chain : chain_within core (index_count (block_count f.body.size)) (block_count f.body.size) f.body.head ≡ Ok f.chain
  pub entries : entries_within core m.kind f.chain.blocks ≡ Ok f.entries

within_parts : (core : Core) (m : Met) (f : FileRead) (b : Body) (c : Chain) (es : List Listed) → body_of m.kind core.range m.body ≡ Some b → chain_within core (index_count (block_count b.size)) (block_count b.size) b.head ≡ Ok c → entries_within core m.kind c.blocks ≡ Ok es → record { body = b; chain = c; entries = es } ≡ f → ReadsWithin core m f
within_parts core m f b c es p q r e =
    let R : FileRead → Type 0 = λ g. ReadsWithin core m g in subst R e (record { body = p; chain = q; entries = r })

pub within_from : (core : Core) (m : Met) (f : FileRead) → file_within core m ≡ Ok f → ReadsWithin core m f
unfolding file_within
within_from core m f e =
    let s1 = result_then-Ok (λ b. result_then (file_with_within core m.kind b) (chain_within core (index_count (block_count b.size)) (block_count b.size) b.head)) (there_or nowhere (body_of m.kind core.range m.body)) f e in
    let s2 = result_then-Ok (file_with_within core m.kind s1.0) (chain_within core (index_count (block_count s1.0.size)) (block_count s1.0.size) s1.0.head) f s1.2 in
    let F : List Listed → FileRead = λ es. record { body = s1.0; chain = s2.0; entries = es } in
    let s3 = result_map-Ok F (entries_within core m.kind s2.0.blocks) f s2.2 in
    within_parts core m f s1.0 s2.0 s3.0 (there_or-Ok nowhere (body_of m.kind core.range m.body) s1.0 s1.1) s2.1 s3.1 s3.2

pub within_to : (core : Core) (m : Met) (f : FileRead) → ReadsWithin core m f → file_within core m ≡ Ok f
unfolding file_within
within_to core m f r =
    ap (λ o. result_then (λ b. result_then (file_with_within core m.kind b) (chain_within core (index_count (block_count b.size)) (block_count b.size) b.head)) (there_or nowhere o)) r.body
    ∙ ap (result_then (file_with_within core m.kind f.body)) r.chain
    ∙ ap (result_map (λ es. record { body = f.body; chain = f.chain; entries = es })) r.entries

-- ---- pages that are listed are core pages, also those that aren't there

index_parts : (range : CoreRange) (used : ℕ) (last : Bool) (page : List ℕ) (i : Index) → index_of used last range page ≡ Some i → (list_all (is_core range) i.numbers ≡ true) × (link_fits last range i.next ≡ true)
unfolding index_of
index_parts range used last page i e =
    let x : Index = index_at used page in
    let spelled : Bool = bytes_eq page (index_bytes x) in
    let many : Bool = eqb (length x.numbers) used in
    let inside : Bool = list_all (is_core range) x.numbers in
    let k = cond_some (spelled && index_fits used last range x) x i e in
    let fits = (and_parts spelled (index_fits used last range x) k.0).1 in
    let p = and_parts (many && inside) (link_fits last range x.next) fits in
    let P : Index → Type 0 = λ y. (list_all (is_core range) y.numbers ≡ true) × (link_fits last range y.next ≡ true) in
    subst P k.1 ((and_parts many inside p.0).1, p.1)

body_head : (kind : Kind) (range : CoreRange) (bytes : List ℕ) (b : Body) → body_of kind range bytes ≡ Some b → head_fits range (block_count b.size) b.head ≡ true
unfolding body_of
body_head kind range bytes b e =
    let x : Body = body_at bytes in
    let k = cond_some (bytes_eq bytes (body_bytes x) && body_fits kind range x) x b e in
    let fits = (and_parts (bytes_eq bytes (body_bytes x)) (body_fits kind range x) k.0).1 in
    let sizes : Bool = nat_le x.mode.0 511 && nat_le (block_count x.size) (core_count range) && size_fits kind x.size in
    let g = and_parts (sizes && head_fits range (block_count x.size) x.head) (guard_fits kind x.guard) fits in
    let p = and_parts sizes (head_fits range (block_count x.size) x.head) g.0 in
    let P : Body → Type 0 = λ y. head_fits range (block_count y.size) y.head ≡ true in
    subst P k.1 p.1

-- the page at which a chain goes on, where it goes on
Goes : CoreRange → ℕ → ℕ → Type 0
Goes range n at = (n ≡ 0) ⊎ (is_core range at ≡ true)

link_goes : (range : CoreRange) (n at : ℕ) → link_fits (eqb n 0) range at ≡ true → Goes range n at
unfolding Goes
link_goes range n at e =
    elim (cases_eq n 0) [
      | inl z ↦ inl z
      | inr d ↦ inr (ap (λ t. cond t (eqb at 0) (is_core range at)) (sym (ne_eqb n 0 d)) ∙ e)
    ]

abbrev pub rest_of : Core → ℕ → ℕ → Index → Result Chain Location
rest_of core n blocks i = chain_within core n (blocks - 511) i.next

step_core : (core : Core) (n blocks at : ℕ) (c : Chain) (p : ℕ) (o : Option (List ℕ)) → is_core core.range at ≡ true → ((i : Index) (r : Chain) → Goes core.range n i.next → rest_of core n blocks i ≡ Ok r → In p (r.index ++ r.blocks) → is_core core.range p ≡ true) → index_within core at (min blocks 511) (eqb n 0) (rest_of core n blocks) o ≡ Ok c → In p (c.index ++ c.blocks) → is_core core.range p ≡ true
step_core core n blocks at c p None here more e i =
    let k : record { index = at ∷ []; blocks = [] } ≡ c = cc e in
    let j : In p (at ∷ []) = subst (λ (x : Chain). In p (x.index ++ x.blocks)) (sym k) i in
    elim j [ inl s ↦ ap (is_core core.range) s ∙ here | inr no' ↦ absurd no' ]
step_core core n blocks at c p (Some bytes) here more e i =
    let used : ℕ = min blocks 511 in
    let s1 = result_then-Ok (λ i. result_map (with_index at i) (rest_of core n blocks i)) (there_or (at_page at) (index_of used (eqb n 0) core.range bytes)) c e in
    let x : Index = s1.0 in
    let s2 = result_map-Ok (with_index at x) (rest_of core n blocks x) c s1.2 in
    let r : Chain = s2.0 in
    let parts = index_parts core.range used (eqb n 0) bytes x (there_or-Ok (at_page at) _ x s1.1) in
    let go = more x r (link_goes core.range n x.next parts.1) s2.1 in
    let j : In p (at ∷ (r.index ++ (x.numbers ++ r.blocks))) = subst (λ (y : Chain). In p (y.index ++ y.blocks)) (sym s2.2) i in
    elim j [
      | inl s ↦ ap (is_core core.range) s ∙ here
      | inr later ↦
          elim (In-cases p r.index (x.numbers ++ r.blocks) later) [
            | inl a ↦ go (In-left p r.index r.blocks a)
            | inr b ↦
                elim (In-cases p x.numbers r.blocks b) [
                  | inl own ↦ list_all-In (is_core core.range) p x.numbers parts.0 own
                  | inr rest ↦ go (In-right p r.index r.blocks rest)
                ]
          ]
    ]

within_core : (core : Core) (n blocks at : ℕ) (c : Chain) (p : ℕ) → Goes core.range n at → chain_within core n blocks at ≡ Ok c → In p (c.index ++ c.blocks) → is_core core.range p ≡ true
unfolding Goes
within_core core zero blocks at c p g e i =
    let k : record { index = []; blocks = [] } ≡ c = cc e in
    let none : In p [] = subst (λ (x : Chain). In p (x.index ++ x.blocks)) (sym k) i in absurd none
within_core core (suc n) blocks at c p (inl z) e i = absurd (omega (arith, z))
within_core core (suc n) blocks at c p (inr here) e i =
    step_core core n blocks at c p (page_of core at) here (λ x r g k j. within_core core n (blocks - 511) x.next r p g k j) e i

head_goes : (range : CoreRange) (b : Body) → head_fits range (block_count b.size) b.head ≡ true → Goes range (index_count (block_count b.size)) b.head
unfolding Goes
head_goes range b e =
    elim (cases_eq (block_count b.size) 0) [
      | inl z ↦ inl (ap index_count z)
      | inr d ↦ inr (ap (λ t. cond t (eqb b.head 0) (is_core range b.head)) (sym (ne_eqb (block_count b.size) 0 d)) ∙ e)
    ]

-- each page that a file lists is a core page
pub listed_within_core : (core : Core) (m : Met) (f : FileRead) (p : ℕ) → file_within core m ≡ Ok f → In p (f.chain.index ++ f.chain.blocks) → is_core core.range p ≡ true
listed_within_core core m f p e i =
    let r = within_from core m f e in
    within_core core (index_count (block_count f.body.size)) (block_count f.body.size) f.body.head f.chain p (head_goes core.range f.body (body_head m.kind core.range m.body f.body r.body)) r.chain i
