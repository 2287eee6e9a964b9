-- The bytes of the blocks of a live file are as many as its size says.
use Rattle.trio_laws.proofs.Words.{Chain, GrantKind, In, In-right, Kept, LentWhole, List, MetAt, None, Ok, OpenGrant, Option, Row, Sheet, Some, State, Write, [], and_from, and_parts, ap, arith, block_sheets, blocks_of, both_ways, bytes_of_sheets, data_of, eq-eqb, eqb, eqb-true, find-In, is_write, length, length-take, page_of, pages_are, plain, reads_from, refl, resized, row_at, settled, settled_chain, sheet_numbers, sheets_all, sheets_in, sheets_of, size_of, subst, suc, sym, take_all, true, writer_of, ℕ, ◌∙◌, ◌∷◌, ◌≡◌}
use Rattle.std.proofs.Common.{append-nil}
use Rattle.trio_laws.proofs.StateFacts.{pages_there, write_is}
use Rattle.trio_laws.proofs.history.Blocks.{chain_count, flat_long}
use Rattle.trio_laws.proofs.history.Follows.{chain_read, size_read}
use Rattle.trio_laws.proofs.history.Listing.{met_at, chain_met}
use Rattle.trio_laws.proofs.history.Told.{Count}
use Rattle.trio_laws.proofs.history.Writers.{writes, none_found}

-- bytes of a size are what they are when they are cut or grown to it
pub resized_same : (size : ℕ) (bytes : List ℕ) → length bytes ≡ size → resized size bytes ≡ bytes
resized_same size bytes e = search (arith, append-nil, take_all)

pub cut_long : (size : ℕ) (xs : List Sheet) → ((x : Sheet) → In x xs → length x.bytes ≡ 4096) → Count (length xs) size → length (bytes_of_sheets size xs) ≡ size
cut_long size xs full count = search (arith, length-take, flat_long)

numbers_count : (xs : List Sheet) → length (sheet_numbers xs) ≡ length xs
numbers_count [] = refl
numbers_count (x ∷ xs) = ap suc (numbers_count xs)

module _ (s : State) (k : Kept s) (whole : LentWhole s) (n : ℕ) (r : Row) (row : row_at s.home n ≡ Some r) where
  abbrev m : MetAt (settled s).core plain n r
  m = met_at (settled s) k.fit k.verifies n r row

  -- size and blocks of the file that is met
  pub count_is : Count (length m.file.chain.blocks) (size_of (settled s) n)
  count_is =
      let c = chain_count (settled s).core m.file.body m.file.chain (reads_from (settled s).core m.met m.file m.read).chain in
      let z : size_of (settled s) n ≡ m.file.body.size =
      ap (size_of (settled s)) (sym m.number) ∙ size_read (settled s) k.fit k.verifies m.met m.file m.stands m.read r (ap (row_at s.home) m.number ∙ row) in
      subst (λ j. Count (length m.file.chain.blocks) j) (sym z) c

  -- what an open write grant lent is what the file lists
  pub lent_is : (g : OpenGrant) → In g s.open_grants → writes n g ≡ true → sheet_numbers g.blocks ≡ m.file.chain.blocks
  lent_is g i t =
      let p = and_parts (eqb g.ino n) (is_write g.kind) t in
      let l = k.lent g i (write_is g.kind p.1) in
      let number : l.met.ino ≡ n = l.number ∙ eqb-true g.ino n p.0 in
      let one = chain_read (settled s) k.fit k.verifies l.met l.file l.stands l.read r (ap (row_at s.home) number ∙ row) in
      let two = chain_met (settled s) k.fit k.verifies n r row in
      let same : Ok l.file.chain ≡ Ok m.file.chain = sym one ∙ ap (settled_chain (settled s) r.kind) number ∙ two in
      l.blocks ∙ (let c : l.file.chain ≡ m.file.chain = cc same in ap (λ (x : Chain). x.blocks) c)

  -- a file that nobody writes has its blocks
  unwritten_there : writer_of s n ≡ None → (p : ℕ) → In p m.file.chain.blocks → (bytes : List ℕ) × (page_of (settled s).core p ≡ Some bytes)
  unwritten_there none p i =
      pages_there s k m.met p m.stands (subst (λ l. In p l) (sym (pages_are (settled s).core m.met m.file m.read)) (In-right p m.file.chain.index m.file.chain.blocks i))
      (λ g j w same. both_ways (writes n g) (none_found (writes n) s.open_grants g none j) (and_from (eqb g.ino n) (is_write g.kind) (eq-eqb g.ino n (same ∙ m.number)) (write_kept g.kind w)))
    where
      write_kept : (t : GrantKind) → t ≡ Write → is_write t ≡ true
      write_kept t e = search arith

  long_by : (o : Option OpenGrant) → writer_of s n ≡ o → length (bytes_of_sheets (size_of (settled s) n) (blocks_of (settled s) n r o)) ≡ size_of (settled s) n
  long_by (Some g) e =
      let f = find-In (writes n) s.open_grants g e in
      let c : length m.file.chain.blocks ≡ length g.blocks = ap length (sym (lent_is g f.0 f.1)) ∙ numbers_count g.blocks in
      cut_long (size_of (settled s) n) g.blocks (λ x i. whole g x f.0 i) (subst (λ j. Count j (size_of (settled s) n)) c count_is)
  long_by None e =
      let ps : List ℕ = m.file.chain.blocks in
      let xs : List Sheet = sheets_of (settled s).core ps in
      let c : length ps ≡ length xs = ap length (sym (sheets_all (settled s).core ps (unwritten_there e))) ∙ numbers_count xs in
      ap (λ l. length (bytes_of_sheets (size_of (settled s) n) (block_sheets (settled s).core l))) (chain_met (settled s) k.fit k.verifies n r row)
      ∙ cut_long (size_of (settled s) n) xs (λ x i. (let q = sheets_in (settled s).core ps x i in k.fit.full x.page x.bytes q.1)) (subst (λ j. Count j (size_of (settled s) n)) c count_is)

  -- the bytes of a file's blocks are as many as its size
  pub old_long : length (data_of (settled s) n r (writer_of s n)) ≡ size_of (settled s) n
  old_long = long_by (writer_of s n) refl
