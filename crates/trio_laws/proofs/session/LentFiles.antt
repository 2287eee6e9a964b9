-- A file as a lease gives it, read among the pages of a bundle.
use Rattle.trio_laws.proofs.Words.{◌++◌, ◌∙◌, ◌∷◌, ◌≡◌, Directory, FileRead, In, In-left, In-list_any, In-map, In-right, IsWellLent, LentPage, List, Listed, Met, None, Ok, Option, Regular, Row, Sheet, Shown, Sizes, Some, [], and_from, ap, append_assoc, are_new, arith, at_page, body_at, body_in_slot, body_of, both, bytes_eq, bytes_eq-Decides, bytes_read, bytes_shown, cond, entries_of_kind, entries_on, entries_shown, false, false_from_ne_true, false≢true, file_of, file_within, flat_map, gathered, gathers_directory, has_name, inl, inr, is_among, is_among-In, is_core, is_ok-Ok, is_place_of, lent_numbers, lent_sheet, listed_is_core, map, map-In, map-append, map-map, not_from_false, numbers_of_file, page_entries, page_of, pages_bytes, pages_in, place_of, place_parts, placed_from, reads_to, refl, repeated_name, result_then, row_in, sheet_numbers, slot_bytes, slot_of, some_one, subst, sym, there_or, true, ℕ}
use Rattle.std.specs.Option.{unwrap_or}
use Rattle.trio_layout.specs.declared.slot.SlotRead.TheVariants.{Entry}
use Rattle.trio_surveys.proofs.Within.{file_part}
use Rattle.trio_desk.specs.Out.{lent_core}
use Rattle.trio_laws.proofs.session.Reading.{core_of, file_as_before, page_kept, sheet_there}

-- the pages of a lease, as pages of a bundle
abbrev pub lent_sheets : Shown → List Sheet
lent_sheets f = map lent_sheet (f.index ++ f.blocks)

pub lent_sheet_numbers : (f : Shown) → sheet_numbers (lent_sheets f) ≡ numbers_of_file f
lent_sheet_numbers f = map-map (λ (x : Sheet). x.page) lent_sheet (f.index ++ f.blocks) ∙ map-append (λ (p : LentPage). p.no.0) f.index f.blocks

-- numbers differ where names differ, and a number has one name
pub numbers_by_names : (seen ls : List Listed) → repeated_name seen ls ≡ None → ((l k : Listed) → In l (seen ++ ls) → In k (seen ++ ls) → l.entry.ino ≡ k.entry.ino → l.entry.name ≡ k.entry.name) → are_new (map (λ l. l.entry.ino) seen) (map (λ l. l.entry.ino) ls) ≡ true
numbers_by_names seen [] e same = refl
numbers_by_names seen (l ∷ ls) e same =
    let number : Listed → ℕ = λ l. l.entry.ino in
    let apart : has_name l.entry.name seen ≡ false = search (arith, false_from_ne_true) in
    let out : is_among l.entry.ino (map number seen) ≡ false =
    false_from_ne_true (is_among l.entry.ino (map number seen))
    (λ t.
    let k = map-In number l.entry.ino seen (is_among-In l.entry.ino (map number seen) t) in
    let named : k.0.entry.name ≡ l.entry.name = same k.0 l (In-left k.0 seen (l ∷ ls) k.1) (In-right l seen (l ∷ ls) (inl refl)) (sym k.2) in
    false≢true (sym apart ∙ In-list_any (λ (x : Listed). bytes_eq x.entry.name l.entry.name) k.0 seen k.1 (ap (λ n. bytes_eq n l.entry.name) named ∙ (bytes_eq-Decides l.entry.name l.entry.name).1 refl))) in
    let on : repeated_name (seen ++ l ∷ []) ls ≡ None = sym (ap (λ b. cond b (Some (place_of l)) (repeated_name (seen ++ l ∷ []) ls)) apart) ∙ e in
    let rest = numbers_by_names (seen ++ l ∷ []) ls on
    (λ a b i j k. same a b (subst (λ z. In a z) (append_assoc seen (l ∷ []) ls) i) (subst (λ z. In b z) (append_assoc seen (l ∷ []) ls) j) k) in
    search (arith, and_from, not_from_false, map-append)

pub listed_same : (l k : Listed) → l.entry ≡ k.entry → l.page ≡ k.page → l.slot ≡ k.slot → l.body ≡ k.body → l ≡ k
listed_same l k entry page slot body = search arith

module _ (sizes : Sizes) (f : Shown) (well : IsWellLent sizes f) where
  -- its entries, as they are read
  pub lent_entries : (es : List Listed) × (entries_of_kind (lent_core sizes f) f.kind (lent_numbers f.blocks) ≡ Ok es)
  lent_entries = is_ok-Ok (entries_of_kind (lent_core sizes f) f.kind (lent_numbers f.blocks)) well.entries

  -- what it reads
  pub lent_file : FileRead
  lent_file = record { body = body_at f.body; chain = record { index = lent_numbers f.index; blocks = lent_numbers f.blocks }; entries = lent_entries.0 }

  pub lent_file-body : lent_file.body ≡ body_at f.body
  unfolding lent_file
  lent_file-body = refl

  pub lent_file-chain : lent_file.chain ≡ record { index = lent_numbers f.index; blocks = lent_numbers f.blocks }
  unfolding lent_file
  lent_file-chain = refl

  pub lent_file-pages : lent_file.chain.index ++ lent_file.chain.blocks ≡ numbers_of_file f
  unfolding lent_file
  lent_file-pages = refl

  module _ (m : Met) (kind : m.kind ≡ f.kind) (body : m.body ≡ f.body) where
    lent_whole : file_of (lent_core sizes f) m ≡ Ok lent_file
    unfolding lent_file
    lent_whole =
        reads_to (lent_core sizes f) m lent_file (record {
          body = ap (λ k. body_of k sizes.range m.body) kind ∙ ap (body_of f.kind sizes.range) body ∙ well.body;
          chain = well.chain;
          entries = ap (λ k. entries_of_kind (lent_core sizes f) k (lent_numbers f.blocks)) kind ∙ lent_entries.1;
        })

    lent_is_core : (p : ℕ) → In p (numbers_of_file f) → is_core sizes.range p ≡ true
    lent_is_core p i =
        listed_is_core (lent_core sizes f) m lent_file p lent_whole
        (subst (λ r. In p (pages_in r)) (sym lent_whole) (subst (λ l. In p l) (sym lent_file-pages) i))

    lent_once : are_new [] (sheet_numbers (lent_sheets f)) ≡ true
    lent_once = ap (are_new []) (lent_sheet_numbers f) ∙ well.once

    pub lent_page : (q : LentPage) → In q (f.index ++ f.blocks) → page_of (lent_core sizes f) q.no.0 ≡ Some q.page
    lent_page q i =
        let j : In (lent_sheet q) (lent_sheets f) = In-map lent_sheet q (f.index ++ f.blocks) i in
        let k : In q.no.0 (numbers_of_file f) = subst (λ l. In q.no.0 l) (map-append (λ (p : LentPage). p.no.0) f.index f.blocks) (In-map (λ (p : LentPage). p.no.0) q (f.index ++ f.blocks) i) in
        sheet_there sizes.range sizes.inodes (lent_sheets f) (lent_sheet q) lent_once j (lent_is_core q.no.0 k)

    lent_within : file_within (lent_core sizes f) m ≡ Ok lent_file
    lent_within =
        file_part (lent_core sizes f) m lent_file lent_whole
        (λ p i.
        let k : In p (map (λ (q : LentPage). q.no.0) (f.index ++ f.blocks)) = subst (λ l. In p l) (lent_file-pages ∙ sym (map-append (λ (q : LentPage). q.no.0) f.index f.blocks)) i in
        let q = map-In (λ (q : LentPage). q.no.0) p (f.index ++ f.blocks) k in
        (q.0.page, ap (page_of (lent_core sizes f)) q.2 ∙ lent_page q.0 q.1))

    blocks_gather : (ps : List LentPage) → ((q : LentPage) → In q ps → page_of (lent_core sizes f) q.no.0 ≡ Some q.page) → gathered (page_entries (lent_core sizes f)) (lent_numbers ps) ≡ gathered (λ p. entries_on sizes.inodes p.no.0 p.page) ps
    blocks_gather [] there = refl
    blocks_gather (q ∷ qs) there =
        ap (λ o. both (result_then (entries_on sizes.inodes q.no.0) (there_or (at_page q.no.0) o)) (gathered (page_entries (lent_core sizes f)) (lent_numbers qs))) (there q (inl refl))
        ∙ ap (both (entries_on sizes.inodes q.no.0 q.page)) (blocks_gather qs (λ p i. there p (inr i)))

    -- the entries that are read are those that the lease shows
    pub lent_entries_are : lent_file.entries ≡ entries_shown sizes f
    unfolding lent_file
    lent_entries_are = search (arith, lent_file, lent_entries, gathers_directory, blocks_gather, lent_page, In-right)

    -- a directory's entries gather from its pages
    pub lent_gathers : f.kind ≡ Directory → gathered (λ p. entries_on sizes.inodes p.no.0 p.page) f.blocks ≡ Ok (entries_shown sizes f)
    unfolding lent_file
    lent_gathers t = search (arith, lent_file, lent_entries, gathers_directory, blocks_gather, lent_page, In-right, lent_entries_are)

    -- two entries at one place are one
    same_entry : (rows : List (Option Row)) → ((l : Listed) → In l lent_file.entries → is_place_of f.ino l.page l.slot (row_in rows l.entry.ino) ≡ true) → (l k : Listed) → In l lent_file.entries → In k lent_file.entries → l.entry.ino ≡ k.entry.ino → l ≡ k
    unfolding lent_file
    same_entry rows places l k i j same =
        let p = place_parts f.ino l.page l.slot (row_in rows l.entry.ino) (places l i) in
        let q = place_parts f.ino k.page k.slot (row_in rows k.entry.ino) (places k j) in
        let row : p.0 ≡ q.0 = some_one (row_in rows k.entry.ino) p.0 q.0 (ap (row_in rows) (sym same) ∙ p.1) q.1 in
        let page : l.page ≡ k.page = sym p.3 ∙ ap (λ (r : Row). r.page) row ∙ q.3 in
        let slot : l.slot ≡ k.slot = sym p.4 ∙ ap (λ (r : Row). r.slot) row ∙ q.4 in
        let a = placed_from (lent_core sizes f) f.kind (lent_numbers f.blocks) lent_entries.0 l lent_entries.1 i in
        let b = placed_from (lent_core sizes f) f.kind (lent_numbers f.blocks) lent_entries.0 k lent_entries.1 j in
        let bytes : a.bytes ≡ b.bytes = some_one (page_of (lent_core sizes f) k.page) a.bytes b.bytes (ap (page_of (lent_core sizes f)) (sym page) ∙ a.page) b.page in
        let says : Entry l.entry ≡ Entry k.entry =
        sym a.says ∙ ap (λ n. slot_of sizes.inodes (slot_bytes n a.bytes)) slot ∙ ap (λ y. slot_of sizes.inodes (slot_bytes k.slot y)) bytes ∙ b.says in
        let entry : l.entry ≡ k.entry = cc says in
        let body : l.body ≡ k.body = a.body ∙ ap (λ n. body_in_slot n a.bytes) slot ∙ ap (body_in_slot k.slot) bytes ∙ sym b.body in
        listed_same l k entry page slot body

    pub lent_entry_one : (rows : List (Option Row)) → ((l : Listed) → In l lent_file.entries → is_place_of f.ino l.page l.slot (row_in rows l.entry.ino) ≡ true) → (l k : Listed) → In l lent_file.entries → In k lent_file.entries → l.entry.ino ≡ k.entry.ino → l ≡ k
    lent_entry_one rows places l k i j same = same_entry rows places l k i j same

    -- the entries of a directory have names apart
    pub lent_names : repeated_name [] lent_file.entries ≡ None
    unfolding lent_file
    lent_names = search (arith, lent_file, lent_entries, gathers_directory)

    pub lent_numbers_new : (rows : List (Option Row)) → ((l : Listed) → In l lent_file.entries → is_place_of f.ino l.page l.slot (row_in rows l.entry.ino) ≡ true) → are_new [] (map (λ l. l.entry.ino) lent_file.entries) ≡ true
    lent_numbers_new rows places =
        numbers_by_names [] lent_file.entries lent_names (λ l k i j e. ap (λ (x : Listed). x.entry.name) (same_entry rows places l k i j e))

    -- ---- among the pages of a bundle

    module _ (sheets : List Sheet) (once : are_new [] (sheet_numbers sheets) ≡ true) (sub : (x : Sheet) → In x (lent_sheets f) → In x sheets) where
      lent_kept : (p : ℕ) → In p (numbers_of_file f) → page_of (core_of sizes.range sizes.inodes sheets) p ≡ page_of (lent_core sizes f) p
      lent_kept p i = page_kept sizes.range sizes.inodes (lent_sheets f) sheets p lent_once once sub (subst (λ l. In p l) (sym (lent_sheet_numbers f)) i)

      pub lent_reads : file_within (core_of sizes.range sizes.inodes sheets) m ≡ Ok lent_file
      lent_reads =
          file_as_before (lent_core sizes f) (core_of sizes.range sizes.inodes sheets).pages m lent_file lent_within
          (λ p i. lent_kept p (subst (λ l. In p l) lent_file-pages i))

      there_bytes : (ps : List LentPage) → ((q : LentPage) → In q ps → page_of (core_of sizes.range sizes.inodes sheets) q.no.0 ≡ Some q.page) → pages_bytes (core_of sizes.range sizes.inodes sheets) (lent_numbers ps) ≡ flat_map (λ p. p.page) ps
      there_bytes [] there = refl
      there_bytes (q ∷ qs) there =
          ap (λ o. unwrap_or o [] ++ pages_bytes (core_of sizes.range sizes.inodes sheets) (lent_numbers qs)) (there q (inl refl))
          ∙ ap (λ l. q.page ++ l) (there_bytes qs (λ p i. there p (inr i)))

      pub lent_bytes : bytes_read (core_of sizes.range sizes.inodes sheets) Regular (Ok lent_file) ≡ Some (bytes_shown f)
      unfolding lent_file
      lent_bytes = search (arith, lent_file, there_bytes, In-right, map-append, In-map, lent_kept, lent_page)
