-- What a directory reads where the body in one slot of its pages is exchanged: the entry in this slot has the new body, and all else is as it was.
use Rattle.trio_edit_laws.proofs.Words.{◌&&◌, ◌++◌, ◌<◌, ◌||◌, ◌∙◌, ◌∷◌, ◌≡◌, Bad, Bool, Core, Directory, Empty, Entry, Err, FileRead, In, In-left, In-right, Kind, List, Listed, Location, Met, None, Ok, Option, Pages, Placed, Regular, Result, SlotRead, Some, [], and_from, and_parts, ap, arith, below_from, block_count, body_in_slot, both, bytes_eq, cases_eq, chain_same, cond, entries_where, entries_within, eq-eqb, eqb, eqb-true, false, false≢true, file_within, gathered, gathered_below, gathered_from, has_name, index_count, inl, inr, length, listed_at, map, map-append, page_of, refl, repeated_name, result_map, result_then, result_then-Ok, slot_bytes, slot_entries, slot_of, subst, suc, sym, true, unless_repeated, with_body_in, with_names_apart, with_other, within_from, within_to, zero, ℕ, Link}
use Rattle.trio_layout.specs.Entries.{place_of}
use Rattle.trio_layout.specs.Entries.{entries_on}
use Rattle.trio_surveys.proofs.Places.{at_place, below_has, gathered_has}
use Rattle.trio_surveys.proofs.Slots.{slot_by_front, with_body-body, with_body-front, with_body-other}

-- ---- what is gathered, each element changed

both-map : {X Y E : Type 0} (g : X → Y) (q r : Result (List X) E) → both (result_map (map g) q) (result_map (map g) r) ≡ result_map (map g) (both q r)
both-map g q r = search (arith, map-append)

gathered-map : {X Y E : Type 0} (g : Y → Y) (f f' : X → Result (List Y) E) (xs : List X) → ((x : X) → In x xs → f' x ≡ result_map (map g) (f x)) → gathered f' xs ≡ result_map (map g) (gathered f xs)
gathered-map g f f' [] h = refl
gathered-map g f f' (x ∷ xs) h =
    ap (λ r. both r (gathered f' xs)) (h x (inl refl))
    ∙ ap (both (result_map (map g) (f x))) (gathered-map g f f' xs (λ y i. h y (inr i)))
    ∙ both-map g (f x) (gathered f xs)

below-map : {Y E : Type 0} (g : Y → Y) (f f' : ℕ → Result (List Y) E) (n : ℕ) → ((k : ℕ) → f' k ≡ result_map (map g) (f k)) → gathered_below f' n ≡ result_map (map g) (gathered_below f n)
below-map g f f' zero h = refl
below-map g f f' (suc n) h =
    ap (λ r. both r (f' n)) (below-map g f f' n h) ∙ ap (both (result_map (map g) (gathered_below f n))) (h n) ∙ both-map g (gathered_below f n) (f n)

-- ---- where an entry stands

listed-stands : (core : Core) (blocks : List ℕ) (p s : ℕ) (bytes : List ℕ) (es : List Listed) (l : Listed) → In p blocks → s < 16 → page_of core p ≡ Some bytes
    → (r : SlotRead) → slot_of core.inodes (slot_bytes s bytes) ≡ r → listed_at p s (body_in_slot s bytes) r ≡ Ok es → In l es → Placed core blocks l
listed-stands core blocks p s bytes es l i low there Empty says e j = let none : [] ≡ es = cc e in absurd (subst (λ x. In l x) (sym none) j)
listed-stands core blocks p s bytes es l i low there Bad says e j = absurd cc
listed-stands core blocks p s bytes es l i low there (Entry part) says e j =
    let one : at_place part p s (body_in_slot s bytes) ∷ [] ≡ es = cc e in
    only (subst (λ x. In l x) (sym one) j)
  where
    only : In l (at_place part p s (body_in_slot s bytes) ∷ []) → Placed core blocks l
    only (inl same) = subst (λ x. Placed core blocks x) (sym same) (record { block = i; bytes = bytes; page = there; slot = low; says = says; body = refl })
    only (inr no') = absurd no'

page-stands : (core : Core) (blocks : List ℕ) (p : ℕ) (o : Option (List ℕ)) (es : List Listed) (l : Listed) → In p blocks → page_of core p ≡ o → entries_where core.inodes p o ≡ Ok es → In l es → Placed core blocks l
unfolding entries_on
page-stands core blocks p None es l i there e j = let none : [] ≡ es = cc e in absurd (subst (λ x. In l x) (sym none) j)
page-stands core blocks p (Some bytes) es l i there e j =
    let w = below_from (slot_entries core.inodes p bytes) 16 es l e j in
    listed-stands core blocks p w.0 bytes w.1 l i w.2 there (slot_of core.inodes (slot_bytes w.0 bytes)) refl w.3 w.4

unless-same : (ls es : List Listed) (o : Option Location) → unless_repeated ls o ≡ Ok es → ls ≡ es
unless-same ls es None e = cc e
unless-same ls es (Some place) e = absurd cc

entries-stand : (core : Core) (kind : Kind) (blocks : List ℕ) (es : List Listed) (l : Listed) → entries_within core kind blocks ≡ Ok es → In l es → Placed core blocks l
entries-stand core Regular blocks es l e i = let none : [] ≡ es = cc e in absurd (subst (λ x. In l x) (sym none) i)
entries-stand core Link blocks es l e i = let none : [] ≡ es = cc e in absurd (subst (λ x. In l x) (sym none) i)
entries-stand core Directory blocks es l e i =
    let f : ℕ → Result (List Listed) Location = λ page. entries_where core.inodes page (page_of core page) in
    let s = result_then-Ok with_names_apart (gathered f blocks) es e in
    let same = unless-same s.0 es (repeated_name [] s.0) s.2 in
    let g = gathered_from f blocks s.0 l s.1 (subst (λ x. In l x) (sym same) i) in
    page-stands core blocks g.0 (page_of core g.0) g.1 l g.2 refl g.3 g.4

-- each entry of a file that reads stands in one of its blocks
pub entry-stands : (core : Core) (m : Met) (f : FileRead) (l : Listed) → file_within core m ≡ Ok f → In l f.entries → Placed core f.chain.blocks l
entry-stands core m f l e i = entries-stand core m.kind f.chain.blocks f.entries l (within_from core m f e).entries i

-- and each slot of a directory's blocks that says an entry is one of them
pub stands-entry : (core : Core) (m : Met) (f : FileRead) (l : Listed) → m.kind ≡ Directory → file_within core m ≡ Ok f → Placed core f.chain.blocks l → In l f.entries
unfolding entries_on
stands-entry core m f l kind e p =
    let each : ℕ → Result (List Listed) Location = λ page. entries_where core.inodes page (page_of core page) in
    let dir : result_then with_names_apart (gathered each f.chain.blocks) ≡ Ok f.entries = sym (ap (λ k. entries_within core k f.chain.blocks) kind) ∙ (within_from core m f e).entries in
    let s = result_then-Ok with_names_apart (gathered each f.chain.blocks) f.entries dir in
    let same = unless-same s.0 f.entries (repeated_name [] s.0) s.2 in
    let a = gathered_has each f.chain.blocks s.0 l.page s.1 p.block in
    let on : gathered_below (slot_entries core.inodes l.page p.bytes) 16 ≡ Ok a.0 = sym (ap (entries_where core.inodes l.page) p.page) ∙ a.1 in
    let b = below_has (slot_entries core.inodes l.page p.bytes) 16 a.0 l.slot on p.slot in
    let one : Ok (at_place l.entry l.page l.slot (body_in_slot l.slot p.bytes) ∷ []) ≡ Ok b.0 = sym (ap (listed_at l.page l.slot (body_in_slot l.slot p.bytes)) p.says) ∙ b.1 in
    let listed : at_place l.entry l.page l.slot (body_in_slot l.slot p.bytes) ∷ [] ≡ b.0 = cc one in
    let is : l ≡ at_place l.entry l.page l.slot (body_in_slot l.slot p.bytes) = ap (at_place l.entry l.page l.slot) p.body in
    subst (λ ls. In l ls) same (a.2 l (b.2 l (subst (λ ls. In l ls) listed (inl is))))

-- ---- one slot of one page

-- the entry with this body, where it stands at this place
abbrev pub placed_with : ℕ → ℕ → List ℕ → Listed → Listed
placed_with page slot body l = cond (eqb l.page page && eqb l.slot slot) (record l { body = body }) l

module _ (q s : ℕ) (body : List ℕ) where
  slot-map : (inodes p : ℕ) (bytes bytes' : List ℕ) (t : ℕ) → slot_of inodes (slot_bytes t bytes') ≡ slot_of inodes (slot_bytes t bytes)
      → (p ≡ q → t ≡ s → body_in_slot t bytes' ≡ body) → ((p ≡ q → t ≡ s → ⊥) → body_in_slot t bytes' ≡ body_in_slot t bytes)
      → slot_entries inodes p bytes' t ≡ result_map (map (placed_with q s body)) (slot_entries inodes p bytes t)
  slot-map inodes p bytes bytes' t front here other = search (arith, and_parts, eqb-true, false≢true, and_from, eq-eqb)

  -- ---- names

  has_name-map : (name : List ℕ) (ls : List Listed) → has_name name (map (placed_with q s body) ls) ≡ has_name name ls
  has_name-map name [] = refl
  has_name-map name (l ∷ ls) = by (eqb l.page q && eqb l.slot s) (has_name-map name ls)
    where
      by : (b : Bool) → has_name name (map (placed_with q s body) ls) ≡ has_name name ls → has_name name (cond b (record l { body = body }) l ∷ map (placed_with q s body) ls) ≡ has_name name (l ∷ ls)
      by true e = ap (λ t. bytes_eq l.entry.name name || t) e
      by false e = ap (λ t. bytes_eq l.entry.name name || t) e

  repeated-map : (seen ls : List Listed) → repeated_name (map (placed_with q s body) seen) (map (placed_with q s body) ls) ≡ repeated_name seen ls
  repeated-map seen [] = refl
  repeated-map seen (l ∷ ls) =
      by (eqb l.page q && eqb l.slot s) refl
      ∙ ap (λ b. cond b (Some (place_of l)) (repeated_name (map (placed_with q s body) seen ++ placed_with q s body l ∷ []) (map (placed_with q s body) ls))) (has_name-map l.entry.name seen)
      ∙ ap (λ z. cond (has_name l.entry.name seen) (Some (place_of l)) (repeated_name z (map (placed_with q s body) ls))) (sym (map-append (placed_with q s body) seen (l ∷ [])))
      ∙ ap (λ z. cond (has_name l.entry.name seen) (Some (place_of l)) z) (repeated-map (seen ++ l ∷ []) ls)
    where
      by : (b : Bool) → (eqb l.page q && eqb l.slot s) ≡ b
          → repeated_name (map (placed_with q s body) seen) (map (placed_with q s body) (l ∷ ls))
          ≡ cond (has_name l.entry.name (map (placed_with q s body) seen)) (Some (place_of l)) (repeated_name (map (placed_with q s body) seen ++ placed_with q s body l ∷ []) (map (placed_with q s body) ls))
      by true e = rw e refl
      by false e = rw e refl

  apart-map : (ls : List Listed) → with_names_apart (map (placed_with q s body) ls) ≡ result_map (map (placed_with q s body)) (with_names_apart ls)
  apart-map ls = search (arith, repeated-map)

  then-map : (r : Result (List Listed) Location) → result_then with_names_apart (result_map (map (placed_with q s body)) r) ≡ result_map (map (placed_with q s body)) (result_then with_names_apart r)
  then-map (Err place) = refl
  then-map (Ok ls) = apart-map ls

  -- ---- a file

  module _ (core : Core) (pages : Pages) (page : List ℕ) (full : length page ≡ 4096) (inside : s < 16) (sized : length body ≡ 64) (before : page_of core q ≡ Some page)
      (after : page_of (with_other core pages) q ≡ Some (with_body_in s body page)) where
    abbrev other : Core
    other = with_other core pages

    on-page : (inodes : ℕ) → entries_on inodes q (with_body_in s body page) ≡ result_map (map (placed_with q s body)) (entries_on inodes q page)
    unfolding entries_on
    on-page inodes =
        below-map (placed_with q s body) (slot_entries inodes q page) (slot_entries inodes q (with_body_in s body page)) 16
        (λ t. slot-map inodes q page (with_body_in s body page) t
        (slot_by_front inodes (slot_bytes t (with_body_in s body page)) (slot_bytes t page) (with_body-front page body s full inside sized t))
        (λ on at. ap (λ k. body_in_slot k (with_body_in s body page)) at ∙ with_body-body page body s full inside sized)
        (λ apart. with_body-other page body s full inside sized t (λ at. apart refl at)))

    off-page : (inodes p : ℕ) (o : Option (List ℕ)) → (p ≡ q → ⊥) → entries_where inodes p o ≡ result_map (map (placed_with q s body)) (entries_where inodes p o)
    unfolding entries_on
    off-page inodes p None d = refl
    off-page inodes p (Some bytes) d =
        below-map (placed_with q s body) (slot_entries inodes p bytes) (slot_entries inodes p bytes) 16 (λ t. slot-map inodes p bytes bytes t refl (λ on at. absurd (d on)) (λ apart. refl))

    entries-on : (p : ℕ) → ((p ≡ q → ⊥) → page_of other p ≡ page_of core p)
        → entries_where core.inodes p (page_of other p) ≡ result_map (map (placed_with q s body)) (entries_where core.inodes p (page_of core p))
    entries-on p else' = search (arith, cases_eq, on-page, off-page)

    entries-now : (kind : Kind) (blocks : List ℕ) (es : List Listed) → ((p : ℕ) → In p blocks → (p ≡ q → ⊥) → page_of other p ≡ page_of core p)
        → entries_within core kind blocks ≡ Ok es → entries_within other kind blocks ≡ Ok (map (placed_with q s body) es)
    entries-now Regular blocks es else' e =
        let none : [] ≡ es = cc e in ap (λ l. Ok (map (placed_with q s body) l)) none
    entries-now Link blocks es else' e =
        let none : [] ≡ es = cc e in ap (λ l. Ok (map (placed_with q s body) l)) none
    entries-now Directory blocks es else' e =
        let f : ℕ → Result (List Listed) Location = λ p. entries_where core.inodes p (page_of core p) in
        let f' : ℕ → Result (List Listed) Location = λ p. entries_where core.inodes p (page_of other p) in
        ap (result_then with_names_apart) (gathered-map (placed_with q s body) f f' blocks (λ p i. entries-on p (else' p i)))
        ∙ then-map (gathered f blocks)
        ∙ ap (result_map (map (placed_with q s body))) e

    -- a directory of which this page is a block reads the same body and pages, and the entry in the slot with the new body
    pub file-placed : (m : Met) (f : FileRead) → file_within core m ≡ Ok f → (In q f.chain.index → ⊥)
        → ((p : ℕ) → In p (f.chain.index ++ f.chain.blocks) → (p ≡ q → ⊥) → page_of (with_other core pages) p ≡ page_of core p)
        → file_within (with_other core pages) m ≡ Ok (record f { entries = map (placed_with q s body) f.entries })
    file-placed m f e out else' =
        let r = within_from core m f e in
        within_to other m (record f { entries = map (placed_with q s body) f.entries }) (record {
          body = r.body;
          chain = chain_same core pages (index_count (block_count f.body.size)) (block_count f.body.size) f.body.head f.chain r.chain
              (λ p i. else' p (In-left p f.chain.index f.chain.blocks i) (λ same. out (subst (λ k. In k f.chain.index) same i)));
          entries = entries-now m.kind f.chain.blocks f.entries (λ p i. else' p (right p i)) r.entries;
        })
      where
        right : (p : ℕ) → In p f.chain.blocks → In p (f.chain.index ++ f.chain.blocks)
        right p i = In-right p f.chain.index f.chain.blocks i
