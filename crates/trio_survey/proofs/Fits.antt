-- The numbers that a file in the grammar lists are numbers of its image.
use Rattle.trio_survey.proofs.Words.{◌&&◌, ◌+◌, ◌-◌, ◌∙◌, ◌∷◌, ◌≡◌, Bool, Chain, Core, CoreRange, Directory, FileRead, IfOk, Index, IsWithin, Kind, Link, List, Listed, Location, Met, None, Ok, Option, Regular, Some, [], all_below, all_some, and_from, and_parts, ap, at_page, body_of, bytes_eq, chain_from, chain_of, cond, entries_of_kind, entries_on, eqb, false, file_with, gathered, if_ok_at, if_ok_map, if_ok_then, if_ok_weaker, index_at, index_bytes, index_fits, index_page, is_core, leb, link_fits, list_all, list_all-append, ltb, map, min, nowhere, option_and_then, page_entries, page_of, refl, repeated_name, result_map, result_then, suc, sym, there_or, true, with_index, zero, ℕ}
use Rattle.std.proofs.lemmas.List.Folds.{list_all-map}
use Rattle.trio_layout.specs.Index.{index_of}
use Rattle.trio_layout.specs.Entries.{with_names_apart}
use Rattle.trio_layout.specs.Survey.{file_of}
use Rattle.trio_layout.proofs.EntryNumbers.{AreInodes, entries_on_fit, gathered_all, is_inode, unless_repeated_fit}

pub there_some : {X : Type 0} (place : Location) (o : Option X) (x : X) → there_or place o ≡ Ok x → o ≡ Some x
there_some place None x e = absurd cc
there_some place (Some y) x e = cc

pub and_then_some : {X Y : Type 0} (f : X → Option Y) (o : Option X) (y : Y) → option_and_then f o ≡ Some y → (x : X) × (o ≡ Some x) × (f x ≡ Some y)
and_then_some f None y e = absurd cc
and_then_some f (Some x) y e = (x, refl, e)

pub cond_some : {X : Type 0} (b : Bool) (x y : X) → cond b (Some x) None ≡ Some y → (b ≡ true) × (x ≡ y)
cond_some true x y e = (refl, cc)
cond_some false x y e = absurd cc

pub cond_there : {X : Type 0} (b : Bool) (o : Option X) (x : X) → cond b o None ≡ Some x → b ≡ true
cond_there true o x e = refl
cond_there false o x e = absurd cc

list_all-weaker : {X : Type 0} (p q : X → Bool) (xs : List X) → ((x : X) → p x ≡ true → q x ≡ true) → list_all p xs ≡ true → list_all q xs ≡ true
list_all-weaker p q [] w h = refl
list_all-weaker p q (x ∷ xs) w h =
    let parts = and_parts (p x) (list_all p xs) h in
    and_from (q x) (list_all q xs) (w x parts.0) (list_all-weaker p q xs w parts.1)

core_is_below : (range : CoreRange) (page : ℕ) → is_core range page ≡ true → ltb page range.end ≡ true
core_is_below range page h = (and_parts (leb range.first page) (ltb page range.end) h).1

-- an index page is a core page, as are those that it names
index_numbers : (used : ℕ) (last : Bool) (range : CoreRange) (page : List ℕ) (i : Index) → index_of used last range page ≡ Some i → all_below range.end i.numbers ≡ true
unfolding index_of
index_numbers used last range page i e =
    let x : Index = index_at used page in
    let c = cond_some (bytes_eq page (index_bytes x) && index_fits used last range x) x i e in
    let fits = (and_parts (bytes_eq page (index_bytes x)) (index_fits used last range x) c.0).1 in
    let two = (and_parts (eqb _ used && list_all (is_core range) x.numbers) (link_fits last range x.next) fits).0 in
    let numbers = (and_parts (eqb _ used) (list_all (is_core range) x.numbers) two).1 in
    ap (λ (y : Index). all_below range.end y.numbers) (sym c.1)
    ∙ list_all-weaker (is_core range) (λ n. ltb n range.end) x.numbers (core_is_below range) numbers

index_page_below : (core : Core) (at used : ℕ) (last : Bool) (i : Index) → index_page core at used last ≡ Ok i → (ltb at core.range.end ≡ true) × (all_below core.range.end i.numbers ≡ true)
index_page_below core at used last i e =
    let read = and_then_some (index_of used last core.range) (page_of core at) i (there_some (at_page at) _ i e) in
    (core_is_below core.range at (cond_there (is_core core.range at) _ read.0 read.1), index_numbers used last core.range read.0 i read.2)

-- the pages of a chain are below the end of the core
abbrev pub IsBelow : ℕ → Chain → Type 0
IsBelow end c = (all_below end c.index ≡ true) × (all_below end c.blocks ≡ true)

pub chain_fits : (core : Core) (n blocks at : ℕ) → IfOk (chain_from core n blocks at) (IsBelow core.range.end)
chain_fits core zero blocks at = (refl, refl)
chain_fits core (suc n) blocks at =
    let end : ℕ = core.range.end in
    if_ok_then (index_page core at (min blocks 511) (eqb n 0)) (λ i. result_map (with_index at i) (chain_from core n (blocks - 511) i.next)) (IsBelow end)
    (λ i e.
    let here = index_page_below core at (min blocks 511) (eqb n 0) i e in
    if_ok_map (chain_from core n (blocks - 511) i.next) (with_index at i) (IsBelow end)
    (if_ok_weaker (chain_from core n (blocks - 511) i.next) (IsBelow end) (λ c. IsBelow end (with_index at i c))
    (λ c h. (
      and_from (ltb at end) (all_below end c.index) here.0 h.0,
      list_all-append (λ x. ltb x end) i.numbers c.blocks ∙ and_from (all_below end i.numbers) (all_below end c.blocks) here.1 h.1,
    ))
    (chain_fits core n (blocks - 511) i.next)))

pub entries_fit : (core : Core) (kind : Kind) (blocks : List ℕ) → IfOk (entries_of_kind core kind blocks) (AreInodes core.inodes)
entries_fit core Regular blocks = refl
entries_fit core Link blocks = refl
entries_fit core Directory blocks =
    if_ok_then (gathered (page_entries core) blocks) with_names_apart (AreInodes core.inodes)
    (λ ls e. unless_repeated_fit core.inodes ls (repeated_name [] ls)
    (if_ok_at (gathered (page_entries core) blocks) ls (AreInodes core.inodes) e
    (gathered_all (λ l. is_inode core.inodes l.entry.ino) (page_entries core)
    (λ page. if_ok_then (there_or (at_page page) (page_of core page)) (entries_on core.inodes page) (AreInodes core.inodes) (λ bytes _. entries_on_fit core.inodes page bytes)) blocks)))

numbers_fit : (inodes : ℕ) (ls : List Listed) → AreInodes inodes ls → (all_below (inodes + 1) (map (λ l. l.entry.ino) ls) ≡ true) × (all_some (map (λ l. l.entry.ino) ls) ≡ true)
numbers_fit inodes ls h = (
  list_all-map (λ n. ltb n (inodes + 1)) (λ (l : Listed). l.entry.ino) ls
      ∙ list_all-weaker (λ (l : Listed). is_inode inodes l.entry.ino) (λ (l : Listed). ltb l.entry.ino (inodes + 1)) ls (λ l k. (and_parts (ltb 0 l.entry.ino) (ltb l.entry.ino (inodes + 1)) k).1) h,
  list_all-map (λ n. ltb 0 n) (λ (l : Listed). l.entry.ino) ls
      ∙ list_all-weaker (λ (l : Listed). is_inode inodes l.entry.ino) (λ (l : Listed). ltb 0 l.entry.ino) ls (λ l k. (and_parts (ltb 0 l.entry.ino) (ltb l.entry.ino (inodes + 1)) k).0) h,
)

-- the file lists only numbers of the image
abbrev pub FileIsWithin : Core → FileRead → Type 0
FileIsWithin core f = IsWithin core.range core.inodes f.chain.index f.chain.blocks (map (λ l. l.entry.ino) f.entries)

pub file_within : (core : Core) (m : Met) (f : FileRead) → file_of core m ≡ Ok f → FileIsWithin core f
unfolding file_of
file_within core m f e =
    if_ok_at _ f (FileIsWithin core) e
    (if_ok_then (there_or nowhere (body_of m.kind core.range m.body)) (λ b. result_then (file_with core m.kind b) (chain_of core b)) (FileIsWithin core)
    (λ b _. if_ok_then (chain_of core b) (file_with core m.kind b) (FileIsWithin core)
    (λ c p.
    let below = if_ok_at (chain_of core b) c (IsBelow core.range.end) p (chain_fits core _ _ b.head) in
    if_ok_map (entries_of_kind core m.kind c.blocks) (λ es. record { body = b; chain = c; entries = es }) (FileIsWithin core)
    (if_ok_weaker (entries_of_kind core m.kind c.blocks) (AreInodes core.inodes) (λ es. FileIsWithin core (record { body = b; chain = c; entries = es }))
    (λ es h.
    let numbers = numbers_fit core.inodes es h in
    record { index_below = below.0; blocks_below = below.1; numbers_below = numbers.0; numbers_some = numbers.1 })
    (entries_fit core m.kind c.blocks)))))
