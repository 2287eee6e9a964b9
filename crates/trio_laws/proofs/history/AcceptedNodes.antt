-- The nodes after an accepted release.
use Rattle.trio_laws.proofs.Words.{Bool, Bundle, Core, Ends, GivenTo, Handed, HandedFile, Image, In, In-find, In-right, IsFit, IsMarked, Kept, LentWhole, List, Met, None, Ok, OpenGrant, Option, RawFile, Row, Sheet, Some, State, ToldBlock, Verifies, Written, [], and_from, and_parts, ap, arith, block_numbers, block_sheets, blocks_of, both_ways, bundle_handed, bundle_pages, bundle_sheets, bytes_eq, bytes_eq-Decides, bytes_in, bytes_of, bytes_of_sheets, cases_lt, chain_blocks, cond, creds_of, data_of, drop, eq-eqb, eqb, eqb-true, false, false_from_ne_true, false≢true, find-In, guard_of, inl, inr, is_accepted, is_among, is_among-In, is_block_told, is_core, is_directory, is_told, is_touched, is_write, is_written, length, length-replicate, list_all-In, lists_own, min, name_by, name_of, next, node_at, node_by, node_in, node_of, nodes_of, not, not-false, or_left, or_parts, page_from, page_of, page_there, pages_are, pages_of, picked_entry, place_there, plain, raw_blocks, raw_bytes, raw_file, raw_files, raw_nodes, read_met, reads_from, refl, resized, root_is_met, root_of, row_at, row_at_is, row_by, row_met, settled, settled_chain, sheet_numbers, size_of, slice_get, slot_bytes, some_of, subst, suc, sym, take, told_blocks, told_blocks_of, told_by, told_file, true, unwrap_or, with_blocks, with_pages_known, writer_of, zero, ℕ, ◌&&◌, ◌*◌, ◌+◌, ◌-◌, ◌<◌, ◌∙◌, ◌∷◌, ◌≡◌, ◌≤◌, ◌⊎◌}
use Rattle.trio_nodes.specs.declared.answers.ReleaseAnswer.TheVariants.{Accepted}
use Rattle.std.proofs.Common.{ltb-true, map, replicate, is_some, flat_map, find}
use Rattle.trio_laws.proofs.Bundles.{Unwritten, unwritten_finds}
use Rattle.trio_laws.proofs.history.AcceptedFiles.{P, pick, fitP, fitJ, verifiesJ, Now, now, kept_follows, own_block, FileIs, Stayed, Wrote, New, file_is, unheld_now}
use Rattle.trio_laws.proofs.history.Blocks.{chain_count, flat_sheets}
use Rattle.trio_laws.proofs.history.Facts.{node_is}
use Rattle.trio_laws.proofs.history.Follows.{Follows, size_follows, chain_read, size_read, data_follows, guard_follows}
use Rattle.trio_laws.proofs.history.Grown.{resized_long, chunk_grown, unlisted_is}
use Rattle.trio_laws.proofs.history.Listing.{met_at, chain_met, tables_of, listing, name_listed, slot_named, row_outside}
use Rattle.trio_laws.proofs.history.OldBytes.{resized_same, old_long, count_is, lent_is}
use Rattle.trio_laws.proofs.history.RawGiven.{given_row}
use Rattle.trio_laws.proofs.history.RawNodes.{becomes, part_of, blocks_in, raw_in, raw_out, raw_length}
use Rattle.trio_laws.proofs.history.RawParts.{raw_number, own_blocks, told_none, same_told, sheet_at, get_in}
use Rattle.trio_laws.proofs.history.Told.{Count, block_bytes, told_put}
use Rattle.trio_laws.proofs.history.Untouched.{handed_same}
use Rattle.trio_laws.proofs.history.WithNode.{nodes_same, nodes_long}
use Rattle.trio_laws.proofs.history.Writers.{writes, other_writer, no_writer, dead_writer}
use Rattle.trio_laws.proofs.history.ToldBlocks.{clean_block}
use Rattle.trio_laws.proofs.history.Still.{node_with}

module _ (s s' : State) (k : Kept s) (k' : Kept s') (whole : LentWhole s) (lib : ℕ) (h : Handed) (given : GivenTo s lib (bundle_handed h)) (accepted : is_accepted (settled s) (creds_of s lib) (bundle_handed h) ≡ true) (e : Ends s lib (bundle_handed h) (next (settled s) (bundle_handed h)) s') (marked : (w : HandedFile) → In w h.writes → IsMarked s lib w) where
  abbrev b : Bundle
  b = bundle_handed h

  abbrev image : Image
  image = settled s

  abbrev after : Image
  after = next image b

  abbrev proposed_core : Core
  proposed_core = P s k lib (creds_of s lib) b given accepted

  abbrev at_now : (n : ℕ) (r : Row) → row_at after n ≡ Some r → Now s k lib (creds_of s lib) b given accepted n r
  at_now n r row = now s k lib (creds_of s lib) b given accepted n r row

  abbrev Is : Met → Type 0
  Is m = FileIs s k lib (creds_of s lib) b given accepted m

  fit' : IsFit after.core
  fit' = fitJ s k lib (creds_of s lib) b given accepted

  verifies' : Verifies after
  verifies' = verifiesJ s k lib (creds_of s lib) b given accepted

  -- ---- the file of a number, as it is read after the release

  chain_now : (n : ℕ) (r : Row) (row : row_at after n ≡ Some r) → settled_chain after r.kind n ≡ Ok (at_now n r row).file.chain
  chain_now n r row =
      let w = at_now n r row in
      ap (settled_chain after r.kind) (sym w.number)
      ∙ chain_read after fit' verifies' w.met (record w.file { entries = map (picked_entry (pick s k lib (creds_of s lib) b given accepted) w.met.ino) w.file.entries }) w.stands' w.read' r (ap (row_at after) w.number ∙ row)

  pub size_now : (n : ℕ) (r : Row) (row : row_at after n ≡ Some r) → size_of after n ≡ (at_now n r row).file.body.size
  size_now n r row =
      let w = at_now n r row in
      ap (size_of after) (sym w.number)
      ∙ size_read after fit' verifies' w.met (record w.file { entries = map (picked_entry (pick s k lib (creds_of s lib) b given accepted) w.met.ino) w.file.entries }) w.stands' w.read' r (ap (row_at after) w.number ∙ row)

  pub numbers_now : (n : ℕ) (r : Row) (row : row_at after n ≡ Some r) → block_numbers after n (row_at after n) ≡ (at_now n r row).file.chain.blocks
  numbers_now n r row = ap (block_numbers after n) row ∙ ap chain_blocks (chain_now n r row)

  numbers_were : (n : ℕ) (r : Row) (row : row_at s.home n ≡ Some r) → block_numbers image n (row_at image n) ≡ (met_at image k.fit k.verifies n r row).file.chain.blocks
  numbers_were n r row = ap (block_numbers image n) row ∙ ap chain_blocks (chain_met image k.fit k.verifies n r row)

  unwritten_is : (n : ℕ) → Unwritten b n → is_written b n ≡ false
  unwritten_is n un = ap is_some (unwritten_finds b n un)

  pub kept_bytes : (n : ℕ) (r r' : Row) (row : row_at s.home n ≡ Some r) (row' : row_at after n ≡ Some r') → Follows image after n r r' → Unwritten b n → is_directory r.kind ≡ false → data_of after n r' (writer_of s' n) ≡ data_of image n r (writer_of s n)
  kept_bytes n r r' row row' f un plain' =
      ap (bytes_of_sheets (size_of after n)) (other_writer s s' k lib b given after e n (unwritten_is n un) after r')
      ∙ data_follows image after k.fit fit' k.verifies verifies' n r r' row row' f (writer_of s n) plain'

  -- so nothing of it is listed, and its bytes are as before
  kept_put : (n : ℕ) (r r' : Row) (row : row_at s.home n ≡ Some r) (row' : row_at after n ≡ Some r') → Follows image after n r r' → Unwritten b n → is_directory r.kind ≡ false → with_blocks n (told_blocks image after h n 0 (block_numbers after n (row_at after n))) (resized (size_of after n) (data_of image n r (writer_of s n))) ≡ data_of after n r' (writer_of s' n)
  kept_put n r r' row row' f un plain' =
      let m = met_at image k.fit k.verifies n r row in
      let w = at_now n r' row' in
      let size : size_of after n ≡ size_of image n = size_follows image after k.fit fit' k.verifies verifies' n r r' row row' f in
      let was : settled_chain image r.kind n ≡ Ok f.file.chain = ap (settled_chain image r.kind) (sym f.number) ∙ chain_read image k.fit k.verifies f.met f.file f.stood f.read r (ap (row_at image) f.number ∙ row) in
      let is : settled_chain after r'.kind n ≡ Ok f.file'.chain = ap (settled_chain after r'.kind) (sym f.number') ∙ chain_read after fit' verifies' f.met' f.file' f.stands f.read' r' (ap (row_at after) f.number' ∙ row') in
      let numbers : block_numbers after n (row_at after n) ≡ block_numbers image n (row_at image n) =
      ap (block_numbers after n) row' ∙ ap chain_blocks (is ∙ ap Ok f.chain ∙ sym was) ∙ sym (ap (block_numbers image n) row) in
      let none : told_blocks image after h n 0 (block_numbers after n (row_at after n)) ≡ [] =
      told_none image after h n 0 (block_numbers after n (row_at after n))
      (λ i page get.
      let zero_i : 0 + i ≡ i = omega arith in
      let at : slice_get (block_numbers image n (row_at image n)) i ≡ Some page = ap (λ l. slice_get l i) (sym numbers) ∙ get in
      let at' : slice_get (block_numbers image n (row_at image n)) (0 + i) ≡ Some page = ap (slice_get (block_numbers image n (row_at image n))) zero_i ∙ at in
      let mine : slice_get m.file.chain.blocks i ≡ Some page = ap (λ l. slice_get l i) (sym (numbers_were n r row)) ∙ at in
      same_told image after h n (0 + i) page at' size ∙ clean_block s k lib h given n r row un page (get_in m.file.chain.blocks i page mine)) in
      ap (λ l. with_blocks n l (resized (size_of after n) (data_of image n r (writer_of s n)))) none
      ∙ resized_same (size_of after n) (data_of image n r (writer_of s n)) (old_long s k whole n r row ∙ sym size)
      ∙ sym (kept_bytes n r r' row row' f un plain')

  -- ---- a file of the bundle's pages

  own_put : (n : ℕ) (r : Row) (row : row_at after n ≡ Some r) → lists_own b proposed_core (at_now n r row).met ≡ true → is_directory r.kind ≡ false → blocks_of after n r (writer_of s' n) ≡ blocks_of after n r None → (old : List ℕ) → ((i page : ℕ) → slice_get (at_now n r row).file.chain.blocks i ≡ Some page → is_block_told image after h n (0 + i) page ≡ false → take 4096 (drop (4096 * i) (resized (size_of after n) old)) ≡ take (length (drop (4096 * i) (resized (size_of after n) old))) (block_bytes after page)) → with_blocks n (told_blocks image after h n 0 (block_numbers after n (row_at after n))) (resized (size_of after n) old) ≡ data_of after n r (writer_of s' n)
  own_put n r row own plain' free old un =
      let w = at_now n r row in
      let pl : List ℕ = w.file.chain.blocks in
      let z : ℕ = size_of after n in
      let y : List ℕ = resized z old in
      let long : length y ≡ z = resized_long z old in
      let c = chain_count proposed_core w.file.body w.file.chain (reads_from proposed_core w.met w.file w.read).chain in
      let count : Count (length pl) (length y) = subst (λ j. Count (length pl) j) (sym (long ∙ size_now n r row)) c in
      let full : (p : ℕ) → In p pl → length (block_bytes after p) ≡ 4096 =
      λ p i. (let t = own_block s k lib (creds_of s lib) b given accepted n r row own plain' p i in ap (λ o. length (unwrap_or o [])) t.2 ∙ t.3) in
      let new_is : data_of after n r (writer_of s' n) ≡ take z (flat_map (block_bytes after) pl) =
      ap (bytes_of_sheets z) (free ∙ ap (block_sheets after.core) (chain_now n r row)) ∙ ap (take z) (flat_sheets after pl) in
      ap (λ l. with_blocks n (told_blocks image after h n 0 l) y) (numbers_now n r row)
      ∙ told_put image after h n 0 pl [] y refl count full un
      ∙ ap (λ j. take j (flat_map (block_bytes after) pl)) long
      ∙ sym new_is

  -- a new one had no blocks, so all are listed
  pub dead_unwritten : (n : ℕ) → row_at s.home n ≡ None → is_written b n ≡ false
  dead_unwritten n dead =
      false_from_ne_true (is_written b n)
      (λ wr.
      let w = some_of (find (λ (w : Written). eqb w.ino n) b.writes) wr in
      let f = find-In (λ (w : Written). eqb w.ino n) b.writes w.0 w.1 in
      let l = given.writes w.0 f.0 in
      let ino : l.grant.ino ≡ n = l.ino ∙ eqb-true w.0.ino n f.1 in
      let live : is_some (row_at s.home n) ≡ true = ap (λ j. is_some (row_at s.home j)) (sym ino) ∙ k.live l.grant l.is_open in
      false≢true (sym (ap is_some dead) ∙ live))

  new_put : (n : ℕ) (r : Row) (row : row_at after n ≡ Some r) → row_at s.home n ≡ None → lists_own b proposed_core (at_now n r row).met ≡ true → is_directory r.kind ≡ false → with_blocks n (told_blocks image after h n 0 (block_numbers after n (row_at after n))) (resized (size_of after n) []) ≡ data_of after n r (writer_of s' n)
  new_put n r row dead own plain' =
      own_put n r row own plain'
      (other_writer s s' k lib b given after e n (dead_unwritten n dead) after r ∙ ap (blocks_of after n r) (dead_writer s k n dead)) []
      (λ i page get t.
      let u = unlisted_is image after h n (0 + i) page t in
      let wrong : slice_get (block_numbers image n None) (0 + i) ≡ Some page = ap (λ o. slice_get (block_numbers image n o) (0 + i)) (sym dead) ∙ u.same in
      absurd (cc wrong))

  -- one that is written keeps the blocks that aren't listed
  pub get_within : (xs : List ℕ) (i x : ℕ) → slice_get xs i ≡ Some x → i < length xs
  get_within [] i x e = absurd cc
  get_within (y ∷ ys) zero x e = omega arith
  get_within (y ∷ ys) (suc i) x e = (let r = get_within ys i x e in omega (arith, r))

  writing_grant : (n : ℕ) → is_written b n ≡ true → (g : OpenGrant) × (writer_of s n ≡ Some g) × In g s.open_grants × (writes n g ≡ true)
  writing_grant n wr =
      let w = some_of (find (λ (w : Written). eqb w.ino n) b.writes) wr in
      let f = find-In (λ (w : Written). eqb w.ino n) b.writes w.0 w.1 in
      let l = given.writes w.0 f.0 in
      let number : l.grant.ino ≡ n = l.ino ∙ eqb-true w.0.ino n f.1 in
      let mine : writes n l.grant ≡ true = and_from (eqb l.grant.ino n) (is_write l.grant.kind) (eq-eqb l.grant.ino n number) (ap is_write l.kind) in
      let q = In-find (writes n) s.open_grants l.grant l.is_open mine in
      let v = find-In (writes n) s.open_grants q.0 q.1 in
      (q.0, q.1, v.0, v.1)

  numbers_count : (xs : List Sheet) → length (sheet_numbers xs) ≡ length xs
  numbers_count [] = refl
  numbers_count (x ∷ xs) = ap suc (numbers_count xs)

  written_put : (n : ℕ) (r : Row) (row : row_at s.home n ≡ Some r) (row' : row_at after n ≡ Some r) → is_written b n ≡ true → lists_own b proposed_core (at_now n r row').met ≡ true → is_directory r.kind ≡ false → with_blocks n (told_blocks image after h n 0 (block_numbers after n (row_at after n))) (resized (size_of after n) (data_of image n r (writer_of s n))) ≡ data_of after n r (writer_of s' n)
  written_put n r row row' wr own plain' =
      let g = writing_grant n wr in
      let gr : OpenGrant = g.0 in
      let z : ℕ = size_of image n in
      let old : List ℕ = bytes_of_sheets z gr.blocks in
      let old_is : data_of image n r (writer_of s n) ≡ old = ap (λ w. bytes_of_sheets z (blocks_of image n r w)) g.1 in
      let long : length old ≡ z = ap length (sym old_is) ∙ old_long s k whole n r row in
      let m = met_at image k.fit k.verifies n r row in
      let lent : sheet_numbers gr.blocks ≡ m.file.chain.blocks = lent_is s k whole n r row gr g.2 g.3 in
      let count : z ≤ 4096 * length gr.blocks = search (arith, count_is, numbers_count) in
      let w = at_now n r row' in
      let pl : List ℕ = w.file.chain.blocks in
      let size : ℕ = size_of after n in
      let counts : Count (length pl) size = subst (λ j. Count (length pl) j) (sym (size_now n r row')) (chain_count proposed_core w.file.body w.file.chain (reads_from proposed_core w.met w.file w.read).chain) in
      let zs : List ℕ = replicate (size - length old) 0 in
      let lz : length zs ≡ size - length old = length-replicate (size - length old) 0 in
      let far : size ≤ z + length zs = omega (arith, lz, long) in
      ap (λ l. with_blocks n (told_blocks image after h n 0 (block_numbers after n (row_at after n))) (resized size l)) old_is
      ∙ own_put n r row' own plain' (ap (blocks_of after n r) (no_writer s s' k lib b given after e n wr)) old
      (λ i page get t.
      let u = unlisted_is image after h n (0 + i) page t in
      let zero_i : 0 + i ≡ i = omega arith in
      let was : slice_get m.file.chain.blocks i ≡ Some page = ap (slice_get m.file.chain.blocks) (sym zero_i) ∙ ap (λ l. slice_get l (0 + i)) (sym (numbers_were n r row)) ∙ u.same in
      let x = sheet_at gr.blocks i page (ap (λ l. slice_get l i) lent ∙ was) in
      let at : x.0.page ≡ page = x.2 in
      let t' = own_block s k lib (creds_of s lib) b given accepted n r row' own plain' page (get_in pl i page get) in
      let listed : In page (pages_of proposed_core w.met) = subst (λ l. In page l) (sym (pages_are proposed_core w.met w.file w.read)) (In-right page w.file.chain.index pl (get_in pl i page get)) in
      let handed : In page (bundle_pages b) = is_among-In page (bundle_pages b) (list_all-In (λ q. is_among q (bundle_pages b)) page (pages_of proposed_core w.met) own listed) in
      let q = page_there proposed_core page t'.0 t'.1 in
      let here : (o : Option (List ℕ)) × (slice_get image.core.pages x.0.page ≡ Some o) = search (arith, fitP, ltb-true, and_parts, place_there) in
      let now_page : slice_get proposed_core.pages x.0.page ≡ Some (Some x.0.bytes) =
      with_pages_known (bundle_sheets b) image.core.pages x.0.page x.0.bytes here.0 (subst (λ j. In j (bundle_pages b)) (sym at) handed)
      (λ y j on. handed_same s k whole lib h given marked n r row gr g.2 g.3 x.0 x.1 (ap (is_touched h) at ∙ u.clean) y j on) here.1 in
      let same : Some t'.0 ≡ Some x.0.bytes = sym t'.1 ∙ ap (page_of proposed_core) (sym at) ∙ page_from proposed_core x.0.page x.0.bytes (ap (is_core proposed_core.range) at ∙ t'.4) now_page in
      let bytes : block_bytes after page ≡ x.0.bytes = ap (λ o. unwrap_or o []) (t'.2 ∙ same) in
      let within = get_within pl i page get in
      let c1 = counts.1 in
      let inside : 4096 * i < size = omega (arith, within, c1) in
      let counted = u.counted in
      let low : min size (4096 * i + 4096) ≤ z = omega (arith, counted) in
      chunk_grown gr.blocks i x.0 z size zs (λ y j. whole gr y g.2 j) x.3 count inside low far
      ∙ ap (take (length (drop (4096 * i) (resized size old)))) (sym bytes))

  -- ---- one node after another

  abbrev pub rf : ℕ → Option RawFile
  rf = raw_file image after b

  abbrev pub files : List RawFile
  files = raw_files image after b

  abbrev pub bs : List ToldBlock
  bs = raw_blocks Accepted image after h files

  told_now : (n : ℕ) (o : Option Row) (r : Row) → told_by image after b n o (Some r) ≡ Some (told_file after b n false r)
  told_now n None r = refl
  told_now n (Some q) r = refl

  pub file_of_told : (n : ℕ) (r : Row) → row_at after n ≡ Some r → is_told image after b n ≡ true → rf n ≡ Some (told_file after b n false r)
  file_of_told n r row t = search (arith, told_now)

  put_is : (n : ℕ) (r : Row) → row_at after n ≡ Some r → is_told image after b n ≡ true → is_directory r.kind ≡ false → 1 ≤ n → n < 1 + s.home.core.inodes → (x : List ℕ) → with_blocks n bs x ≡ with_blocks n (told_blocks image after h n 0 (block_numbers after n (row_at after n))) x
  put_is n r row t plain' low high x =
      blocks_in rf (raw_number image after b) (λ f. told_blocks_of image after h f (not (is_directory f.kind))) (λ f m y d. own_blocks image after h f (not (is_directory f.kind)) m y d) s.home.core.inodes 1 n low high x
      ∙ ap (λ o. with_blocks n (part_of (λ f. told_blocks_of image after h f (not (is_directory f.kind))) o) x) (file_of_told n r row t)
      ∙ ap (λ d. with_blocks n (told_blocks_of image after h (told_file after b n false r) (not d)) x) plain'

  -- the bytes of a node before
  old_bytes : (n : ℕ) (q : Row) → row_at s.home n ≡ Some q → is_directory q.kind ≡ false → bytes_in (node_in s n) ≡ data_of image n q (writer_of s n)
  old_bytes n q row plain' = ap (λ o. bytes_in (node_by image n (writer_of s n) o)) row ∙ ap (λ d. cond d [] (data_of image n q (writer_of s n))) plain'

  put_by : (n : ℕ) (r : Row) (row : row_at after n ≡ Some r) → is_directory r.kind ≡ false → Is (at_now n r row).met → with_blocks n (told_blocks image after h n 0 (block_numbers after n (row_at after n))) (resized (size_of after n) (bytes_in (node_in s n))) ≡ data_of after n r (writer_of s' n)
  put_by n r row plain' (Stayed q row_q kind body un) =
      let w = at_now n r row in
      let row_s : row_at s.home n ≡ Some q = ap (row_at image) (sym w.number) ∙ row_q in
      let reg : is_directory q.kind ≡ false = ap is_directory (sym kind) ∙ sym (ap (λ (x : Row). is_directory x.kind) w.row) ∙ plain' in
      let f = kept_follows s k lib (creds_of s lib) b given accepted n q r row_s row (q, row_q, kind, body, un) in
      let un' : Unwritten b n = λ x i same. un x i (same ∙ sym w.number) in
      ap (λ l. with_blocks n (told_blocks image after h n 0 (block_numbers after n (row_at after n))) (resized (size_of after n) l)) (old_bytes n q row_s reg)
      ∙ kept_put n q r row_s row f un' reg
  put_by n r row plain' (Wrote wr unheld own) =
      let w = at_now n r row in
      let wr' : is_written b n ≡ true = ap (is_written b) (sym w.number) ∙ wr in
      let q = given_row s k lib b given n (or_left (is_written b n) (is_among n b.holds) wr') in
      let keeps : row_at after n ≡ Some q.0 = unheld_now s k lib (creds_of s lib) b given accepted n q.0 q.1 (ap (λ j. is_among j b.holds) (sym w.number) ∙ unheld) in
      let rows : Some q.0 ≡ Some r = sym keeps ∙ row in
      let same : q.0 ≡ r = cc rows in
      let row_s : row_at s.home n ≡ Some r = q.1 ∙ ap Some same in
      ap (λ l. with_blocks n (told_blocks image after h n 0 (block_numbers after n (row_at after n))) (resized (size_of after n) l)) (old_bytes n r row_s plain')
      ∙ written_put n r row_s row wr' own plain'
  put_by n r row plain' (New dead owner own) =
      let w = at_now n r row in
      let dead' : row_at s.home n ≡ None = ap (row_at image) (sym w.number) ∙ dead in
      ap (λ o. with_blocks n (told_blocks image after h n 0 (block_numbers after n (row_at after n))) (resized (size_of after n) (bytes_in (node_by image n (writer_of s n) o)))) dead'
      ∙ new_put n r row dead' own plain'

  bytes_case : (n : ℕ) (r : Row) (row : row_at after n ≡ Some r) → is_told image after b n ≡ true → 1 ≤ n → n < 1 + s.home.core.inodes → raw_bytes bs (told_file after b n false r) r.kind (bytes_in (node_in s n)) ≡ bytes_of after n r (writer_of s' n) r.kind
  bytes_case n r row t low high = by (is_directory r.kind) refl
    where
      by : (d : Bool) → is_directory r.kind ≡ d → cond d [] (with_blocks n bs (resized (size_of after n) (bytes_in (node_in s n)))) ≡ cond d [] (data_of after n r (writer_of s' n))
      by true d = refl
      by false d =
          put_is n r row t d low high (resized (size_of after n) (bytes_in (node_in s n)))
          ∙ put_by n r row d (file_is s k lib (creds_of s lib) b given accepted (at_now n r row).met (at_now n r row).stands)

  -- ---- names

  root_live : row_at s.home 1 ≡ None → ⊥
  root_live dead =
      let root = root_is_met image.core plain k.fit k.verifies.sound in
      let f = read_met image.core plain k.fit k.verifies.sound (root_of image.core) root in
      let there : row_at image 1 ≡ Some (row_by (root_of image.core) f.0.body) = row_at_is image.core plain k.fit k.verifies.sound image (tables_of image k.fit k.verifies) 1 ∙ row_met image.core plain k.fit k.verifies.sound (root_of image.core) f.0 root f.1 in
      let wrong : None ≡ Some (row_by (root_of image.core) f.0.body) = sym dead ∙ there in absurd (cc wrong)

  -- a listed name isn't empty
  new_named : (n : ℕ) (r : Row) → row_at after n ≡ Some r → (n ≡ 1 → ⊥) → name_of after n r ≡ [] → ⊥
  new_named n r row other none =
      let l = listing after fit' verifies' n r row other in
      slot_named after.core.inodes (slot_bytes r.slot l.bytes) l.entry.entry l.says (sym (name_listed after fit' verifies' n r l other) ∙ none)

  -- ---- what isn't told stays

  not_told : (n : ℕ) → is_told image after b n ≡ false → (is_written b n ≡ false) × (is_among n b.holds ≡ false) × ((is_some (row_at after n) && not (bytes_eq (name_by image n (row_at image n)) (name_by after n (row_at after n)))) ≡ false)
  not_told n t = search (arith, or_parts)

  same_name : (n : ℕ) (r : Row) (o : Option Row) → row_at after n ≡ Some r → row_at image n ≡ o → is_told image after b n ≡ false → name_by image n o ≡ name_of after n r
  same_name n r o row was t = search (arith, not_told, bytes_eq-Decides, not-false)

  kept_kind : (n : ℕ) (r : Row) (row : row_at s.home n ≡ Some r) (row' : row_at after n ≡ Some r) → Follows image after n r r → Unwritten b n → bytes_of after n r (writer_of s' n) r.kind ≡ bytes_of image n r (writer_of s n) r.kind
  kept_kind n r row row' f un = by (is_directory r.kind) refl
    where
      by : (d : Bool) → is_directory r.kind ≡ d → cond d [] (data_of after n r (writer_of s' n)) ≡ cond d [] (data_of image n r (writer_of s n))
      by true d = refl
      by false d = kept_bytes n r r row row' f un d

  untold_by : (n : ℕ) (r : Row) (row : row_at after n ≡ Some r) → is_told image after b n ≡ false → Is (at_now n r row).met → Some (node_of after n (writer_of s' n) r) ≡ node_in s n
  untold_by n r row t (Wrote wr unheld own) =
      absurd (both_ways (is_written b n) (not_told n t).0 (ap (is_written b) (sym (at_now n r row).number) ∙ wr))
  untold_by n r row t (New dead owner own) =
      let dead' : row_at s.home n ≡ None = ap (row_at image) (sym (at_now n r row).number) ∙ dead in
      let other : n ≡ 1 → ⊥ = λ one. root_live (ap (row_at s.home) (sym one) ∙ dead') in
      absurd (new_named n r row other (sym (same_name n r None row dead' t)))
  untold_by n r row t (Stayed q row_q kind body un) =
      let w = at_now n r row in
      let row_s : row_at s.home n ≡ Some q = ap (row_at image) (sym w.number) ∙ row_q in
      let keeps : row_at after n ≡ Some q = unheld_now s k lib (creds_of s lib) b given accepted n q row_s (not_told n t).1 in
      let rows : Some q ≡ Some r = sym keeps ∙ row in
      let same : q ≡ r = cc rows in
      let row_r : row_at s.home n ≡ Some r = row_s ∙ ap Some same in
      let f = kept_follows s k lib (creds_of s lib) b given accepted n q r row_s row (q, row_q, kind, body, un) in
      let f' : Follows image after n r r = (let F : Row → Type 0 = λ x. Follows image after n x r in subst F same f) in
      let un' : Unwritten b n = λ x i e. un x i (e ∙ sym w.number) in
      ap (λ x. Some (node_with r (guard_of after n) x (bytes_of after n r (writer_of s' n) r.kind))) (sym (same_name n r (Some r) row row_r t))
      ∙ ap (λ g. Some (node_with r g (name_of image n r) (bytes_of after n r (writer_of s' n) r.kind))) (guard_follows image after k.fit fit' k.verifies verifies' n r r row_r row f')
      ∙ ap (λ x. Some (node_with r (guard_of image n) (name_of image n r) x)) (kept_kind n r row_r row f' un')
      ∙ sym (ap (node_by image n (writer_of s n)) row_r)

  -- ---- each node

  gone_case : (n : ℕ) (o : Option Row) → row_at after n ≡ None → row_at image n ≡ o → (t : Bool) → is_told image after b n ≡ t → None ≡ becomes bs (cond t (told_by image after b n o None) None) (node_by image n (writer_of s n) o)
  gone_case n None gone was true t = refl
  gone_case n None gone was false t = refl
  gone_case n (Some q) gone was true t = refl
  gone_case n (Some q) gone was false t =
      let keeps = unheld_now s k lib (creds_of s lib) b given accepted n q was (not_told n t).1 in
      let wrong : None ≡ Some q = sym gone ∙ keeps in absurd (cc wrong)

  there_case : (n : ℕ) (r : Row) → row_at after n ≡ Some r → 1 ≤ n → n < 1 + s.home.core.inodes → (t : Bool) → is_told image after b n ≡ t → Some (node_of after n (writer_of s' n) r) ≡ becomes bs (cond t (told_by image after b n (row_at image n) (Some r)) None) (node_in s n)
  there_case n r row low high true t =
      ap (λ x. Some (node_with r (guard_of after n) (name_of after n r) x)) (sym (bytes_case n r row t low high))
      ∙ sym (ap (λ o. becomes bs o (node_in s n)) (told_now n (row_at image n) r))
  there_case n r row low high false t = untold_by n r row t (file_is s k lib (creds_of s lib) b given accepted (at_now n r row).met (at_now n r row).stands)

  node_case : (n : ℕ) (o : Option Row) → row_at after n ≡ o → 1 ≤ n → n < 1 + s.home.core.inodes → node_by after n (writer_of s' n) o ≡ becomes bs (cond (is_told image after b n) (told_by image after b n (row_at image n) o) None) (node_in s n)
  node_case n None row low high = gone_case n (row_at image n) row refl (is_told image after b n) refl
  node_case n (Some r) row low high = there_case n r row low high (is_told image after b n) refl

  pub node_settled : (n : ℕ) → node_in s' n ≡ node_by after n (writer_of s' n) (row_at after n)
  node_settled n = ap (λ (i : Image). node_by i n (writer_of s' n) (row_at i n)) e.settles

  outside : (n : ℕ) → (n < 1) ⊎ (1 + s.home.core.inodes ≤ n) → node_in s' n ≡ node_in s n
  outside n out = node_settled n ∙ ap (node_by after n (writer_of s' n)) (row_outside after fit' verifies' n out) ∙ sym (ap (node_by image n (writer_of s n)) (row_outside image k.fit k.verifies n out))

  pub accepted_nodes : nodes_of s' ≡ raw_nodes bs files (nodes_of s)
  accepted_nodes =
      let count : s'.home.core.inodes ≡ s.home.core.inodes = ap (λ (i : Image). i.core.inodes) e.settles in
      let l' = nodes_long s' in
      let l : length (raw_nodes bs files (nodes_of s)) ≡ s.home.core.inodes + 1 = raw_length rf (raw_number image after b) bs s.home.core.inodes 1 (s.home.core.inodes + 1) (omega arith) (nodes_of s) (nodes_long s) in
      nodes_same (nodes_of s') (raw_nodes bs files (nodes_of s)) (omega (arith, l, l', count))
      (λ n.
      let inner : 1 ≤ n → n < 1 + s.home.core.inodes → node_at (nodes_of s') n ≡ node_at (raw_nodes bs files (nodes_of s)) n =
      λ low high.
      node_is s' k' n ∙ node_settled n ∙ node_case n (row_at after n) refl low high ∙ ap (becomes bs (rf n)) (sym (node_is s k n))
      ∙ sym (raw_in rf (raw_number image after b) bs s.home.core.inodes 1 n low high (nodes_of s)) in
      let outer : (n < 1) ⊎ (1 + s.home.core.inodes ≤ n) → node_at (nodes_of s') n ≡ node_at (raw_nodes bs files (nodes_of s)) n =
      λ out.
      node_is s' k' n ∙ outside n out ∙ sym (node_is s k n) ∙ sym (raw_out rf (raw_number image after b) bs s.home.core.inodes 1 n out (nodes_of s)) in
      elim (cases_lt n 1) [
        | inl zero_n ↦ outer (inl zero_n)
        | inr low ↦ search (arith, cases_lt)
      ])
