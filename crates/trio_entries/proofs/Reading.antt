-- The entries of a listing stand in slots of the bundle's pages.
use Rattle.trio_entries.proofs.Words.{◌<◌, ◌∙◌, ◌∷◌, ◌≡◌, Bad, Bool, Case, Core, Empty, Entry, Err, FileRead, In, In-cases, IsReadable, Kind, List, ListedEntry, Location, Met, None, Ok, Option, Result, Some, [], ap, arith, bundle_core, children_in, cond, entries_in, entry_listed, false, flat_map-In, inl, inr, is_directory, judged_entries, listing, map-In, page_of, plain, refl, slot_bytes, slot_of, subst, suc, sym, true, zero, ℕ}
use Rattle.trio_lists.specs.Lists.{gathered, gathered_below, result_then}
use Rattle.trio_lists.proofs.Members.{both-Ok, result_then-Ok}
use Rattle.trio_layout.specs.declared.slot.SlotRead.{SlotRead}
use Rattle.trio_layout.specs.Case.{file_in}
use Rattle.trio_layout.specs.Entries.{Listed, body_in_slot, entries_on, listed_at, repeated_name, slot_entries, unless_repeated, with_names_apart}
use Rattle.trio_layout.specs.JudgedFiles.{judged_files}
use Rattle.trio_layout.specs.Survey.{met_in}
use Rattle.trio_layout.specs.Within.{entries_where, entries_within}
use Rattle.trio_layout.proofs.WithinCore.{within_from}

-- ---- what is gathered comes from one of the lists

gathered-In : {X Y E : Type 0} (f : X → Result (List Y) E) (xs : List X) (ls : List Y) (y : Y) → gathered f xs ≡ Ok ls → In y ls → (x : X) × (ys : List Y) × (f x ≡ Ok ys) × In y ys
gathered-In f [] ls y e i = let none : [] ≡ ls = cc in absurd (subst (In y) (sym none) i)
gathered-In f (x ∷ xs) ls y e i =
    let b = both-Ok (f x) (gathered f xs) ls e in
    elim (In-cases y b.0 b.1 (subst (In y) (sym b.4) i)) [
      | inl here ↦ (x, b.0, b.2, here)
      | inr later ↦ gathered-In f xs b.1 y b.3 later
    ]

below-In : {Y E : Type 0} (f : ℕ → Result (List Y) E) (n : ℕ) (ls : List Y) (y : Y) → gathered_below f n ≡ Ok ls → In y ls → (k : ℕ) × (k < n) × (ys : List Y) × (f k ≡ Ok ys) × In y ys
below-In f zero ls y e i = let none : [] ≡ ls = cc in absurd (subst (In y) (sym none) i)
below-In f (suc n) ls y e i =
    let b = both-Ok (gathered_below f n) (f n) ls e in
    elim (In-cases y b.0 b.1 (subst (In y) (sym b.4) i)) [
      | inl before ↦ (let w = below-In f n b.0 y b.2 before in (w.0, omega (arith, w.1), w.2, w.3, w.4))
      | inr here ↦ (n, omega arith, b.1, b.3, here)
    ]

-- ---- a slot

-- the place of an entry on a page, and what its slot is
pub record StandsOn (inodes page : ℕ) (bytes : List ℕ) (l : Listed) : Type 0 where
  pub on : l.page ≡ page
  pub slot : l.slot < 16
  pub says : slot_of inodes (slot_bytes l.slot bytes) ≡ Entry l.entry

stands_in : (inodes page slot : ℕ) (bytes : List ℕ) (ys : List Listed) (l : Listed) → slot < 16 → (r : SlotRead) → slot_of inodes (slot_bytes slot bytes) ≡ r → listed_at page slot (body_in_slot slot bytes) r ≡ Ok ys → In l ys → StandsOn inodes page bytes l
stands_in inodes page slot bytes ys l small Empty is e i = let none : [] ≡ ys = cc in absurd (subst (In l) (sym none) i)
stands_in inodes page slot bytes ys l small (Entry part) is e i =
    let here : Listed = record { entry = part; page = page; slot = slot; body = body_in_slot slot bytes } in
    let one : here ∷ [] ≡ ys = cc in
    only (subst (In l) (sym one) i)
  where
    only : In l (record { entry = part; page = page; slot = slot; body = body_in_slot slot bytes } ∷ []) → StandsOn inodes page bytes l
    only (inl same) = subst (StandsOn inodes page bytes) (sym same) (record { on = refl; slot = small; says = is })
    only (inr j) = absurd j
stands_in inodes page slot bytes ys l small Bad is e i = absurd cc

stands_on : (inodes page : ℕ) (bytes : List ℕ) (ys : List Listed) (l : Listed) → entries_on inodes page bytes ≡ Ok ys → In l ys → StandsOn inodes page bytes l
unfolding entries_on
stands_on inodes page bytes ys l e i =
    let w = below-In (slot_entries inodes page bytes) 16 ys l e i in
    stands_in inodes page w.0 bytes w.2 l w.1 (slot_of inodes (slot_bytes w.0 bytes)) refl w.3 w.4

-- ---- a page

-- an entry on a page that is there
pub record StandsWithin (core : Core) (l : Listed) : Type 0 where
  pub slot : l.slot < 16
  pub bytes : List ℕ
  pub here : page_of core l.page ≡ Some bytes
  pub says : slot_of core.inodes (slot_bytes l.slot bytes) ≡ Entry l.entry

page_stands : (core : Core) (page : ℕ) (o : Option (List ℕ)) (ys : List Listed) (l : Listed) → page_of core page ≡ o → entries_where core.inodes page o ≡ Ok ys → In l ys → StandsWithin core l
page_stands core page None ys l is e i = let none : [] ≡ ys = cc in absurd (subst (In l) (sym none) i)
page_stands core page (Some bytes) ys l is e i =
    let s = stands_on core.inodes page bytes ys l e i in
    record { slot = s.slot; bytes = bytes; here = ap (page_of core) s.on ∙ is; says = s.says }

apart_same : (ls es : List Listed) (o : Option Location) → unless_repeated ls o ≡ Ok es → ls ≡ es
apart_same ls es None e = cc
apart_same ls es (Some place) e = absurd cc

within_stands : (core : Core) (kind : Kind) (blocks : List ℕ) (es : List Listed) (l : Listed) → entries_within core kind blocks ≡ Ok es → In l es → StandsWithin core l
within_stands core kind blocks es l e i = by (is_directory kind) e
  where
    f : ℕ → Result (List Listed) Location
    f = λ page. entries_where core.inodes page (page_of core page)

    by : (lists : Bool) → cond lists (result_then with_names_apart (gathered f blocks)) (Ok []) ≡ Ok es → StandsWithin core l
    by false said = let none : [] ≡ es = cc in absurd (subst (In l) (sym none) i)
    by true said =
        let s = result_then-Ok with_names_apart (gathered f blocks) es said in
        let same = apart_same s.0 es (repeated_name [] s.0) s.2 in
        let w = gathered-In f blocks s.0 l s.1 (subst (In l) (sym same) i) in
        page_stands core w.0 (page_of core w.0) w.1 l refl w.2 w.3

-- ---- a file

met_stands : (c : Case) (d : Met) (m : Met) (r : Result FileRead Location) → file_in c d ≡ r → In m (children_in plain d.ino r) → (l : Listed) × StandsWithin (bundle_core c) l × (m ≡ met_in plain d.ino l)
met_stands c d m (Ok f) is i =
    let w = map-In (met_in plain d.ino) m f.entries i in
    let r = within_from (bundle_core c) d f is in
    (w.0, within_stands (bundle_core c) d.kind f.chain.blocks f.entries w.0 r.entries w.1, w.2)
met_stands c d m (Err place) is i = absurd i

-- each entry of the listing can be read
pub listed_readable : (c : Case) (e : ListedEntry) → In e (listing c).entries → IsReadable c e
listed_readable c e i =
    let w = map-In (entry_listed c) e (judged_entries c) i in
    let d = flat_map-In (entries_in c) w.0 (judged_files c) w.1 in
    let s = met_stands c d.0 w.0 (file_in c d.0) refl d.2 in
    subst (IsReadable c) (sym (w.2 ∙ ap (entry_listed c) s.2)) (record { slot = s.1.slot; bytes = s.1.bytes; here = s.1.here; part = s.0.entry; says = s.1.says })
