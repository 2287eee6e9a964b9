-- Where a live file is listed in an image that verifies, and what its name and its chain are.
use Rattle.trio_laws.proofs.Words.{◌&&◌, ◌+◌, ◌<◌, ◌∙◌, ◌≡◌, ◌≤◌, ◌⊎◌, Bad, Bool, Core, Directory, Empty, EntryPart, FileRead, Image, In, In-right, IsFit, Kind, List, Listed, Met, MetAt, None, Ok, Option, Regular, Row, Some, TablesOf, Verifies, [], and_parts, ap, arith, bytes_eq, child_from, child_placed, children, cond, entries_of_kind, entry_at, eqb, false≢true, file_of, flat_map-In, inl, inr, met_numbered, met_row, name_of, nat_lt, ne_eqb, page_of, pages_read, plain, reads_from, refl, root_or_listed, row_at, row_at_is, settled_body, settled_body_met, settled_chain, slot_bytes, subst, survey, sym, take, true, ℕ, Link}
use Rattle.std.specs.Prelude.{nat_le}
use Rattle.trio_names.specs.Name.{is_name}
use Rattle.trio_layout.specs.declared.slot.SlotRead.TheVariants.{Entry}
use Rattle.trio_layout.specs.Slot.{slot_of, entry_bytes, entry_fits}

-- a file that isn't the root is listed by a directory, on one of its blocks
pub record Listing (core : Core) (n : ℕ) (r : Row) : Type 0 where
  pub parent : Met
  pub file : FileRead
  pub entry : Listed
  pub met : In parent (survey core plain)
  pub read : file_of core parent ≡ Ok file
  pub listed : In entry file.entries
  pub number : entry.entry.ino ≡ n
  pub above : r.parent ≡ parent.ino
  pub page : r.page ≡ entry.page
  pub slot : r.slot ≡ entry.slot
  pub directory : parent.kind ≡ Directory
  pub block : In r.page file.chain.blocks
  pub bytes : List ℕ
  pub there : page_of core r.page ≡ Some bytes
  pub says : slot_of core.inodes (slot_bytes r.slot bytes) ≡ Entry entry.entry

-- what a slot says is the entry at the places of the fields
said_entry : (a b : Bool) (e x : EntryPart) → cond a Empty (cond b (Entry e) Bad) ≡ Entry x → e ≡ x
said_entry a b e x h = search arith

pub slot_entry : (inodes : ℕ) (bytes : List ℕ) (x : EntryPart) → slot_of inodes bytes ≡ Entry x → entry_at bytes ≡ x
unfolding slot_of
slot_entry inodes bytes x h = search (arith, said_entry)

-- and its name isn't empty
said_named : (inodes : ℕ) (a : Bool) (p : Bool) (e x : EntryPart) → cond a Empty (cond (p && entry_fits inodes e) (Entry e) Bad) ≡ Entry x → (e ≡ x) × (entry_fits inodes e ≡ true)
said_named inodes a p e x h = search (arith, and_parts)

pub slot_named : (inodes : ℕ) (bytes : List ℕ) (x : EntryPart) → slot_of inodes bytes ≡ Entry x → x.name ≡ [] → ⊥
unfolding slot_of
slot_named inodes bytes x h none =
    let e = entry_at bytes in
    let s = said_named inodes (eqb e.ino 0) (bytes_eq (take 192 bytes) (entry_bytes e)) e x h in
    let name : is_name x.name ≡ true = ap (λ (y : EntryPart). is_name y.name) (sym s.0) ∙ (and_parts (nat_lt 0 e.ino && nat_le e.ino inodes) (is_name e.name) s.1).1 in
    false≢true (ap is_name (sym none) ∙ name)

-- what lists is a directory
lists : (core : Core) (kind : Kind) (blocks : List ℕ) (es : List Listed) (l : Listed) → entries_of_kind core kind blocks ≡ Ok es → In l es → kind ≡ Directory
lists core kind blocks es l e i = search arith

module _ (image : Image) (fit : IsFit image.core) (v : Verifies image) where
  pub tables_of : TablesOf image image.core plain
  tables_of = record { rows = v.rows; owners = v.owners }

  -- the file of a live number
  pub met_at : (n : ℕ) (r : Row) → row_at image n ≡ Some r → MetAt image.core plain n r
  met_at n r e = met_row image.core plain fit v.sound n r (sym (row_at_is image.core plain fit v.sound image tables_of n) ∙ e)

  -- no file is live beyond the numbers
  pub row_outside : (n : ℕ) → (n < 1) ⊎ (1 + image.core.inodes ≤ n) → row_at image n ≡ None
  row_outside n out = by (row_at image n) refl
    where
      by : (o : Option Row) → row_at image n ≡ o → o ≡ None
      by None row = refl
      by (Some r) row =
          let m = met_at n r row in
          let q = met_numbered image.core plain fit v.sound m.met m.stands in
          let a = q.0 in
          let c = q.1 in
          let d = m.number in
          absurd (elim out [ inl l ↦ omega (arith, l, a, d) | inr g ↦ omega (arith, g, c, d) ])

  pub body_met : (n : ℕ) (r : Row) (e : row_at image n ≡ Some r) → settled_body image n ≡ (met_at n r e).met.body
  body_met n r e = search (arith, met_at, settled_body_met, tables_of)

  pub chain_met : (n : ℕ) (r : Row) (e : row_at image n ≡ Some r) → settled_chain image r.kind n ≡ Ok (met_at n r e).file.chain
  chain_met n r e =
      let m = met_at n r e in
      let f = reads_from image.core m.met m.file m.read in
      search (arith, body_met)

  pub listing : (n : ℕ) (r : Row) → row_at image n ≡ Some r → (n ≡ 1 → ⊥) → Listing image.core n r
  listing n r e other =
      let m = met_at n r e in
      elim (root_or_listed image.core plain fit v.sound m.met m.stands) [
        | inl root ↦ absurd (other (sym m.number ∙ ap (λ (x : Met). x.ino) root))
        | inr j ↦
            let q = flat_map-In (children image.core plain) m.met (survey image.core plain) j in
            let c = child_from image.core plain q.0 m.met q.2 in
            let pl = child_placed image.core plain q.0 m.met c in
            let page : r.page ≡ c.entry.page = ap (λ (x : Row). x.page) m.row ∙ ap (λ (x : Met). x.page) c.is in
            let slot : r.slot ≡ c.entry.slot = ap (λ (x : Row). x.slot) m.row ∙ ap (λ (x : Met). x.slot) c.is in
            record {
              parent = q.0;
              file = c.file;
              entry = c.entry;
              met = q.1;
              read = c.read;
              listed = c.listed;
              number = sym (ap (λ (x : Met). x.ino) c.is) ∙ m.number;
              above = ap (λ (x : Row). x.parent) m.row ∙ ap (λ (x : Met). x.parent) c.is;
              page = page;
              slot = slot;
              directory = lists image.core q.0.kind c.file.chain.blocks c.file.entries c.entry (reads_from image.core q.0 c.file c.read).entries c.listed;
              block = subst (λ p. In p c.file.chain.blocks) (sym page) pl.block;
              bytes = pl.bytes;
              there = ap (page_of image.core) page ∙ pl.page;
              says = ap (λ s. slot_of image.core.inodes (slot_bytes s pl.bytes)) slot ∙ pl.says;
            }
      ]

  -- the name of a file is that of its entry
  pub name_listed : (n : ℕ) (r : Row) → (l : Listing image.core n r) → (n ≡ 1 → ⊥) → name_of image n r ≡ l.entry.entry.name
  name_listed n r l other = search (arith, ne_eqb, slot_entry)

-- a block of a directory is read
pub block_read : (kind : Kind) (f : FileRead) (p : ℕ) → kind ≡ Directory → In p f.chain.blocks → In p (pages_read kind f)
block_read Directory f p e i = In-right p f.chain.index f.chain.blocks i
block_read Regular f p e i = absurd cc
block_read Link f p e i = absurd cc
