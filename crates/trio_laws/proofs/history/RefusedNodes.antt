-- The nodes after a refused release.
use Rattle.trio_laws.proofs.Words.{Bool, Bundle, Ends, GivenTo, Handed, HandedFile, Image, In, In-find, In-left, In-right, IsFit, IsMarked, Kept, LentWhole, List, Met, None, OpenGrant, Option, Pages, RawFile, Row, Sheet, Some, State, ToldBlock, Write, Written, [], and_from, and_parts, ap, arith, block_numbers, block_sheets, blocks_of, both_ways, bundle_handed, bundle_pages, bundle_sheets, bytes_eq, bytes_of, bytes_of_sheets, cases_lt, chain_blocks, cond, covers_blocks, data_of, drop, eq-eqb, eqb, eqb-true, false, find-In, guard_in, guard_of, is_among, is_block_told, is_core, is_directory, is_told, is_touched, is_write, is_written, leb, length, listed_is_core, ltb, map-In, name_by, name_of, node_by, node_in, node_of, nodes_of, not, one_met, or_parts, page_from, page_of, page_same, pages_are, pages_of, place_there, plain, raw_bytes, raw_file, raw_files, raw_nodes, refl, refused_image, resized, row_at, settled, sheet_numbers, sheets_of, size_of, slice_get, some_of, subst, sym, take, told_blocks, told_blocks_of, told_by, told_file, true, uncovered, unwrap_or, with_blocks, with_other, with_pages_apart, with_pages_known, with_pages_there, writer_of, ℕ, ◌&&◌, ◌*◌, ◌++◌, ◌+◌, ◌<◌, ◌||◌, ◌∙◌, ◌≡◌, ◌≤◌, ◌⊎◌}
use Rattle.std.proofs.Common.{ltb-true, is_some, flat_map, find}
use Rattle.trio_laws.proofs.Bundles.{Closed, Unwritten, unwritten_apart, in_numbers}
use Rattle.trio_laws.proofs.Checkpoints.{guarded_covered}
use Rattle.trio_laws.proofs.Refusing.{pages, agree, covered_back, fit'}
use Rattle.trio_laws.proofs.Uncovered.{uncovered_handed, In-uncovered}
use Rattle.trio_laws.proofs.history.Untouched.{handed_same}
use Rattle.trio_laws.proofs.StateFacts.{covered_kind, write_alone, write_is}
use Rattle.trio_laws.proofs.history.Blocks.{flat_sheets, chunk}
use Rattle.trio_laws.proofs.history.Listing.{met_at, chain_met, row_outside}
use Rattle.trio_laws.proofs.history.OldBytes.{resized_same, old_long, count_is, lent_is}
use Rattle.trio_laws.proofs.history.RawNodes.{becomes, part_of, blocks_in, raw_in, raw_out, raw_length}
use Rattle.trio_laws.proofs.history.WithNode.{nodes_same, nodes_long}
use Rattle.trio_laws.proofs.history.Facts.{node_is}
use Rattle.trio_laws.proofs.history.RawParts.{raw_number, own_blocks, told_none, same_told, sheet_at, get_in}
use Rattle.trio_laws.proofs.history.Still.{node_same, node_with, guard_still, name_still, size_still, chain_still, blocks_still, sheets_back}
use Rattle.trio_laws.proofs.history.Told.{Count, block_bytes, told_put}
use Rattle.trio_laws.proofs.history.Writers.{writes, none_found, other_writer, no_writer}
use Rattle.trio_laws.proofs.history.ToldBlocks.{clean_block}

module _ (s s' : State) (k : Kept s) (k' : Kept s') (whole : LentWhole s) (lib : ℕ) (h : Handed) (given : GivenTo s lib (bundle_handed h)) (closed : Closed s lib (bundle_handed h)) (e : Ends s lib (bundle_handed h) (refused_image (settled s) (bundle_handed h)) s') (marked : (w : HandedFile) → In w h.writes → IsMarked s lib w) where
  abbrev pub b : Bundle
  b = bundle_handed h

  abbrev pub I : Image
  I = settled s

  abbrev ps : Pages
  ps = pages s s' k lib b given closed e

  abbrev pub J : Image
  J = refused_image I b

  fitJ : IsFit J.core
  fitJ = fit' s s' k lib b given closed e

  -- ---- a file that the bundle doesn't write

  unwritten : (n : ℕ) → is_written b n ≡ false → Unwritten b n
  unwritten n un w i same = search (arith, both_ways, none_found, eq-eqb)

  block_stays : (n : ℕ) (r : Row) (row : row_at s.home n ≡ Some r) → is_written b n ≡ false → (p : ℕ) → In p (met_at I k.fit k.verifies n r row).file.chain.blocks → page_of (with_other I.core ps) p ≡ page_of I.core p
  block_stays n r row un p a =
      let m = met_at I k.fit k.verifies n r row in
      page_same I.core ps p (with_pages_apart (uncovered I b ++ b.pages) I.core.pages p
      (λ j.
      let x = map-In (λ (y : Sheet). y.page) p (uncovered I b ++ b.pages) j in
      let handed : In p (bundle_pages b) = in_numbers (bundle_sheets b) x.0 p (uncovered_handed s k lib b given x.0 x.1) x.2 in
      unwritten_apart s k lib b given m.met p m.stands (λ w c same. unwritten n un w c (same ∙ m.number)) (subst (λ l. In p l) (sym (pages_are I.core m.met m.file m.read)) (In-right p m.file.chain.index m.file.chain.blocks a)) handed))

  blocks_stay : (n : ℕ) (r : Row) (row : row_at s.home n ≡ Some r) → is_written b n ≡ false → (w : Option OpenGrant) → blocks_of J n r w ≡ blocks_of I n r w
  blocks_stay n r row un (Some g) = refl
  blocks_stay n r row un None = blocks_still I ps k.fit fitJ k.verifies (agree s s' k lib b given closed e) n r row (block_stays n r row un)

  pub size_stays : (n : ℕ) (r : Row) → row_at s.home n ≡ Some r → size_of J n ≡ size_of I n
  size_stays n r row = size_still I ps k.fit fitJ k.verifies (agree s s' k lib b given closed e) n r row

  pub name_stays : (n : ℕ) (r : Row) → row_at s.home n ≡ Some r → name_of J n r ≡ name_of I n r
  name_stays n r row = name_still I ps k.fit fitJ k.verifies (agree s s' k lib b given closed e) n r row

  numbers_stay : (n : ℕ) (r : Row) (row : row_at s.home n ≡ Some r) → block_numbers J n (row_at J n) ≡ (met_at I k.fit k.verifies n r row).file.chain.blocks
  numbers_stay n r row =
      ap (block_numbers J n) row
      ∙ ap chain_blocks (chain_still I ps k.fit fitJ k.verifies (agree s s' k lib b given closed e) n r row ∙ chain_met I k.fit k.verifies n r row)

  numbers_were : (n : ℕ) (r : Row) (row : row_at s.home n ≡ Some r) → block_numbers I n (row_at I n) ≡ (met_at I k.fit k.verifies n r row).file.chain.blocks
  numbers_were n r row = ap (block_numbers I n) row ∙ ap chain_blocks (chain_met I k.fit k.verifies n r row)

  pub guard_stays : (n : ℕ) (r : Row) → row_at s.home n ≡ Some r → guard_of J n ≡ guard_of I n
  guard_stays n r row = guard_still I ps k.fit fitJ k.verifies (agree s s' k lib b given closed e) n r row

  pub same_node : (n : ℕ) (r : Row) (row : row_at s.home n ≡ Some r) → is_written b n ≡ false → node_of J n (writer_of s' n) r ≡ node_of I n (writer_of s n) r
  same_node n r row un =
      node_same I J n r (writer_of s n) (writer_of s' n) (name_stays n r row) (size_stays n r row) (guard_stays n r row)
      (λ plain'. other_writer s s' k lib b given J e n un J r ∙ blocks_stay n r row un (writer_of s n))

  -- ---- where a page was handed in

  -- a block that wasn't touched has the bytes that were lent
  untouched : (n : ℕ) (r : Row) (row : row_at s.home n ≡ Some r) (g : OpenGrant) → In g s.open_grants → writes n g ≡ true → (x : Sheet) → In x g.blocks → is_touched h x.page ≡ false → (y : Sheet) → In y (uncovered I b ++ b.pages) → y.page ≡ x.page → y.bytes ≡ x.bytes
  untouched n r row g i t x a un y j at =
      handed_same s k whole lib h given marked n r row g i t x a un y (uncovered_handed s k lib b given y j) at

  -- ---- a file that the bundle writes, other than a directory

  -- the grant by which the bundle writes a file, which lent its blocks and has them handed in, unless they are covered
  written_grant : (n : ℕ) (r : Row) (row : row_at s.home n ≡ Some r) → is_written b n ≡ true → (g : OpenGrant) × (writer_of s n ≡ Some g) × In g s.open_grants × (writes n g ≡ true) × (g.of ≡ r.kind) × (covers_blocks r.kind (guard_of I n) ≡ false → (p : ℕ) → In p (sheet_numbers g.blocks) → In p (sheet_numbers (uncovered I b ++ b.pages)))
  written_grant n r row wr =
      let w = some_of (find (λ (w : Written). eqb w.ino n) b.writes) wr in
      let f = find-In (λ (w : Written). eqb w.ino n) b.writes w.0 w.1 in
      let l = given.writes w.0 f.0 in
      let number : l.grant.ino ≡ n = l.ino ∙ eqb-true w.0.ino n f.1 in
      let mine : writes n l.grant ≡ true = and_from (eqb l.grant.ino n) (is_write l.grant.kind) (eq-eqb l.grant.ino n number) (ap is_write l.kind) in
      let q = In-find (writes n) s.open_grants l.grant l.is_open mine in
      let v = find-In (writes n) s.open_grants q.0 q.1 in
      let one : l.grant ≡ q.0 = write_alone s.open_grants l.grant q.0 k.apart l.is_open v.0 l.kind (number ∙ sym (eqb-true q.0.ino n (and_parts (eqb q.0.ino n) (is_write q.0.kind) v.1).0)) in
      let lent = k.lent l.grant l.is_open l.kind in
      let m = met_at I k.fit k.verifies n r row in
      let same : lent.met ≡ m.met = one_met I.core plain k.fit k.verifies.sound lent.met m.met lent.stands m.stands (lent.number ∙ number ∙ sym m.number) in
      let kind : w.0.kind ≡ r.kind = sym l.of ∙ sym lent.of ∙ ap (λ (x : Met). x.kind) same ∙ sym (ap (λ (x : Row). x.kind) m.row) in (
        q.0,
        q.1,
        v.0,
        v.1,
        ap (λ (x : OpenGrant). x.of) (sym one) ∙ l.of ∙ kind,
        λ bare p i.
            let bare' : covers_blocks w.0.kind (guard_of I w.0.ino) ≡ false =
            ap (λ t. covers_blocks t (guard_of I w.0.ino)) kind ∙ ap (λ j. covers_blocks r.kind (guard_of I j)) (eqb-true w.0.ino n f.1) ∙ bare in
            let a : In p (sheet_numbers w.0.blocks) = subst (λ z. In p z) (ap (λ (x : OpenGrant). sheet_numbers x.blocks) (sym one) ∙ sym l.blocks) i in
            let y = map-In (λ (x : Sheet). x.page) p w.0.blocks a in
            let u = In-uncovered s k lib b given w.0 y.0 f.0 bare' y.1 in
            in_numbers (uncovered I b ++ b.pages) y.0 p (In-left y.0 (uncovered I b) b.pages u) y.2,
      )

  -- a page that was handed in is there
  handed_there : (p : ℕ) → is_core I.core.range p ≡ true → In p (sheet_numbers (uncovered I b ++ b.pages)) → (bytes : List ℕ) × (page_of J.core p ≡ Some bytes)
  handed_there p c i =
      let low : p < I.core.range.end = ltb-true p I.core.range.end (and_parts (leb I.core.range.first p) (ltb p I.core.range.end) c).1 in
      let long = fitJ.long in
      let q = place_there ps p (omega (arith, low, long)) in
      by q.0 q.1
    where
      by : (o : Option (List ℕ)) → slice_get ps p ≡ Some o → (bytes : List ℕ) × (page_of J.core p ≡ Some bytes)
      by (Some bytes) at = (bytes, page_from J.core p bytes c at)
      by None at = absurd (with_pages_there (uncovered I b ++ b.pages) I.core.pages p i at)

  -- the listed blocks in place of the old bytes give the new ones
  written_bytes : (n : ℕ) (r : Row) (row : row_at s.home n ≡ Some r) → is_written b n ≡ true → covers_blocks r.kind (guard_of I n) ≡ false → with_blocks n (told_blocks I J h n 0 (block_numbers J n (row_at J n))) (data_of I n r (writer_of s n)) ≡ data_of J n r (writer_of s' n)
  written_bytes n r row wr bare =
      let m = met_at I k.fit k.verifies n r row in
      let pl : List ℕ = m.file.chain.blocks in
      let z : ℕ = size_of I n in
      let g = written_grant n r row wr in
      let gr : OpenGrant = g.0 in
      let old : List ℕ = bytes_of_sheets z gr.blocks in
      let lent : sheet_numbers gr.blocks ≡ pl = lent_is s k whole n r row gr g.2 g.3 in
      let old_is : data_of I n r (writer_of s n) ≡ old = ap (λ w. bytes_of_sheets z (blocks_of I n r w)) g.1 in
      let long : length old ≡ z = ap length (sym old_is) ∙ old_long s k whole n r row in
      let listed : (p : ℕ) → In p pl → In p (pages_of I.core m.met) = λ p i. subst (λ l. In p l) (sym (pages_are I.core m.met m.file m.read)) (In-right p m.file.chain.index pl i) in
      let core : (p : ℕ) → In p pl → is_core I.core.range p ≡ true = λ p i. listed_is_core I.core m.met m.file p m.read (listed p i) in
      let handed : (p : ℕ) → In p pl → In p (sheet_numbers (uncovered I b ++ b.pages)) = λ p i. g.5 bare p (subst (λ l. In p l) (sym lent) i) in
      let full : (p : ℕ) → In p pl → length (block_bytes J p) ≡ 4096 =
      λ p i. (let t = handed_there p (core p i) (handed p i) in ap (λ o. length (unwrap_or o [])) t.1 ∙ fitJ.full p t.0 t.1) in
      let count : Count (length pl) (length old) = subst (λ j. Count (length pl) j) (sym long) (count_is s k whole n r row) in
      let un : (i page : ℕ) → slice_get pl i ≡ Some page → is_block_told I J h n (0 + i) page ≡ false → take 4096 (drop (4096 * i) old) ≡ take (length (drop (4096 * i) old)) (block_bytes J page) =
      λ i page get t.
      let zero_i : 0 + i ≡ i = omega arith in
      let was : slice_get (block_numbers I n (row_at I n)) (0 + i) ≡ Some page = ap (λ l. slice_get l (0 + i)) (numbers_were n r row) ∙ ap (slice_get pl) zero_i ∙ get in
      let clean : is_touched h page ≡ false = sym (same_told I J h n (0 + i) page was (size_stays n r row)) ∙ t in
      let x = sheet_at gr.blocks i page (ap (λ l. slice_get l i) lent ∙ get) in
      let at : x.0.page ≡ page = x.2 in
      let inside : In x.0.page pl = subst (λ q. In q pl) (sym at) (get_in pl i page get) in
      let there : (o : Option (List ℕ)) × (slice_get I.core.pages x.0.page ≡ Some o) =
      (let c = core x.0.page inside in
      let low : x.0.page < I.core.range.end = ltb-true x.0.page I.core.range.end (and_parts (leb I.core.range.first x.0.page) (ltb x.0.page I.core.range.end) c).1 in
      let far = k.fit.long in
      place_there I.core.pages x.0.page (omega (arith, low, far))) in
      let now : slice_get ps x.0.page ≡ Some (Some x.0.bytes) =
      with_pages_known (uncovered I b ++ b.pages) I.core.pages x.0.page x.0.bytes there.0 (handed x.0.page inside)
      (λ y j on. untouched n r row gr g.2 g.3 x.0 x.1 (ap (is_touched h) at ∙ clean) y j on) there.1 in
      let bytes : block_bytes J page ≡ x.0.bytes = ap (block_bytes J) (sym at) ∙ ap (λ o. unwrap_or o []) (page_from J.core x.0.page x.0.bytes (core x.0.page inside) now) in
      chunk gr.blocks i x.0 z (λ y j. whole gr y g.2 j) x.3 ∙ ap (take (length (drop (4096 * i) old))) (sym bytes) in
      let none : writer_of s' n ≡ None = no_writer s s' k lib b given J e n wr in
      let new_is : data_of J n r (writer_of s' n) ≡ take z (flat_map (block_bytes J) pl) =
      ap (λ w. bytes_of_sheets (size_of J n) (blocks_of J n r w)) none
      ∙ ap (λ j. bytes_of_sheets j (blocks_of J n r None)) (size_stays n r row)
      ∙ ap (λ c. bytes_of_sheets z (block_sheets J.core c)) (chain_still I ps k.fit fitJ k.verifies (agree s s' k lib b given closed e) n r row ∙ chain_met I k.fit k.verifies n r row)
      ∙ ap (take z) (flat_sheets J pl) in
      ap (with_blocks n (told_blocks I J h n 0 (block_numbers J n (row_at J n)))) old_is
      ∙ ap (λ l. with_blocks n (told_blocks I J h n 0 l) old) (numbers_stay n r row)
      ∙ told_put I J h n 0 pl [] old refl count full un
      ∙ ap (λ j. take j (flat_map (block_bytes J) pl)) long
      ∙ sym new_is

  abbrev pub rf : ℕ → Option RawFile
  rf = raw_file I J b

  abbrev pub files : List RawFile
  files = raw_files I J b

  -- the blocks that a file tells
  abbrev tells : RawFile → List ToldBlock
  tells f = told_blocks_of I J h f (not (covers_blocks f.kind f.guard))

  abbrev pub bs : List ToldBlock
  bs = flat_map tells files

  file_is : (n : ℕ) (r : Row) → row_at s.home n ≡ Some r → is_told I J b n ≡ true → rf n ≡ Some (told_file J b n false r)
  file_is n r row t = ap (λ x. cond x (told_by I J b n (row_at s.home n) (row_at s.home n)) None) t ∙ ap (λ o. told_by I J b n o o) row

  -- what is put into the bytes of a file that is told
  put_is : (n : ℕ) (r : Row) → row_at s.home n ≡ Some r → is_told I J b n ≡ true → (c : Bool) → covers_blocks r.kind (guard_of J n) ≡ c → 1 ≤ n → n < 1 + s.home.core.inodes → (x : List ℕ) → with_blocks n bs x ≡ with_blocks n (told_blocks_of I J h (told_file J b n false r) (not c)) x
  put_is n r row t c e low high x =
      blocks_in rf (raw_number I J b) tells (λ f m y d. own_blocks I J h f (not (covers_blocks f.kind f.guard)) m y d) s.home.core.inodes 1 n low high x
      ∙ ap (λ o. with_blocks n (part_of tells o) x) (file_is n r row t)
      ∙ ap (λ v. with_blocks n (told_blocks_of I J h (told_file J b n false r) (not v)) x) e

  bytes_stay : (n : ℕ) (r : Row) (row : row_at s.home n ≡ Some r) → is_written b n ≡ false → data_of J n r (writer_of s' n) ≡ data_of I n r (writer_of s n)
  bytes_stay n r row un =
      ap (λ z. bytes_of_sheets z (blocks_of J n r (writer_of s' n))) (size_stays n r row)
      ∙ ap (bytes_of_sheets (size_of I n)) (other_writer s s' k lib b given J e n un J r ∙ blocks_stay n r row un (writer_of s n))

  put_bytes : (n : ℕ) (r : Row) (row : row_at s.home n ≡ Some r) (t : Bool) → is_written b n ≡ t → covers_blocks r.kind (guard_of I n) ≡ false → with_blocks n (told_blocks I J h n 0 (block_numbers J n (row_at J n))) (data_of I n r (writer_of s n)) ≡ data_of J n r (writer_of s' n)
  put_bytes n r row true wr bare = written_bytes n r row wr bare
  put_bytes n r row false un bare =
      let m = met_at I k.fit k.verifies n r row in
      let none : told_blocks I J h n 0 (block_numbers J n (row_at J n)) ≡ [] =
      told_none I J h n 0 (block_numbers J n (row_at J n))
      (λ i page get.
      let zero_i : 0 + i ≡ i = omega arith in
      let at : slice_get m.file.chain.blocks i ≡ Some page = ap (λ l. slice_get l i) (sym (numbers_stay n r row)) ∙ get in
      let was : slice_get (block_numbers I n (row_at I n)) (0 + i) ≡ Some page = ap (λ l. slice_get l (0 + i)) (numbers_were n r row) ∙ ap (slice_get m.file.chain.blocks) zero_i ∙ at in
      same_told I J h n (0 + i) page was (size_stays n r row) ∙ clean_block s k lib h given n r row (unwritten n un) page (get_in m.file.chain.blocks i page at)) in
      ap (λ l. with_blocks n l (data_of I n r (writer_of s n))) none ∙ sym (bytes_stay n r row un)

  -- the bytes of a guarded file are as they were
  pub data_back : (n : ℕ) (r : Row) (row : row_at s.home n ≡ Some r) → guard_of I n ≡ true → is_directory r.kind ≡ false → data_of J n r (writer_of s' n) ≡ data_of I n r (writer_of s n)
  data_back n r row guarded d = by (is_written b n) refl
    where
      by : (t : Bool) → is_written b n ≡ t → data_of J n r (writer_of s' n) ≡ data_of I n r (writer_of s n)
      by false un = bytes_stay n r row un
      by true wr =
          let m = met_at I k.fit k.verifies n r row in
          let z : ℕ = size_of I n in
          let g = written_grant n r row wr in
          let gr : OpenGrant = g.0 in
          let p = and_parts (eqb gr.ino n) (is_write gr.kind) g.3 in
          let kind : gr.kind ≡ Write = write_is gr.kind p.1 in
          let t : guard_in gr.body ≡ true = ap guard_in (k.bodies gr g.2) ∙ ap (guard_of I) (eqb-true gr.ino n p.0) ∙ guarded in
          let now : (x : Sheet) → In x gr.blocks → page_of J.core x.page ≡ Some x.bytes =
          λ x a.
          covered_back s s' k lib b given closed e x.page (guarded_covered s k gr x g.2 kind t a)
          ∙ k.guarded gr g.2 kind (ap is_directory g.4 ∙ d) t x a in
          let lent : sheet_numbers gr.blocks ≡ m.file.chain.blocks = lent_is s k whole n r row gr g.2 g.3 in
          let new_is : data_of J n r (writer_of s' n) ≡ bytes_of_sheets z gr.blocks =
          ap (λ w. bytes_of_sheets (size_of J n) (blocks_of J n r w)) (no_writer s s' k lib b given J e n wr)
          ∙ ap (λ j. bytes_of_sheets j (blocks_of J n r None)) (size_stays n r row)
          ∙ ap (λ c. bytes_of_sheets z (block_sheets J.core c)) (chain_still I ps k.fit fitJ k.verifies (agree s s' k lib b given closed e) n r row ∙ chain_met I k.fit k.verifies n r row)
          ∙ ap (λ ns. bytes_of_sheets z (sheets_of J.core ns)) (sym lent)
          ∙ ap (bytes_of_sheets z) (sheets_back J.core gr.blocks now) in
          new_is ∙ sym (ap (λ w. bytes_of_sheets z (blocks_of I n r w)) g.1)

  -- so are those of a guarded file of any kind
  pub bytes_back : (n : ℕ) (r : Row) (row : row_at s.home n ≡ Some r) → guard_of I n ≡ true → bytes_of J n r (writer_of s' n) r.kind ≡ bytes_of I n r (writer_of s n) r.kind
  bytes_back n r row guarded = by (is_directory r.kind) refl
    where
      by : (d : Bool) → is_directory r.kind ≡ d → cond d [] (data_of J n r (writer_of s' n)) ≡ cond d [] (data_of I n r (writer_of s n))
      by true d = refl
      by false d = data_back n r row guarded d

  -- the told blocks in place of the old bytes, by whether the blocks are covered
  put_case : (n : ℕ) (r : Row) (row : row_at s.home n ≡ Some r) → is_told I J b n ≡ true → 1 ≤ n → n < 1 + s.home.core.inodes → is_directory r.kind ≡ false → (c : Bool) → covers_blocks r.kind (guard_of J n) ≡ c → with_blocks n bs (data_of I n r (writer_of s n)) ≡ data_of J n r (writer_of s' n)
  put_case n r row t low high d false e =
      put_is n r row t false e low high (data_of I n r (writer_of s n))
      ∙ put_bytes n r row (is_written b n) refl (ap (covers_blocks r.kind) (sym (guard_stays n r row)) ∙ e)
  put_case n r row t low high d true e =
      put_is n r row t true e low high (data_of I n r (writer_of s n))
      ∙ sym (data_back n r row (sym (guard_stays n r row) ∙ covered_kind r.kind (guard_of J n) d e) d)

  bytes_case : (n : ℕ) (r : Row) (row : row_at s.home n ≡ Some r) → is_told I J b n ≡ true → 1 ≤ n → n < 1 + s.home.core.inodes → raw_bytes bs (told_file J b n false r) r.kind (bytes_of I n r (writer_of s n) r.kind) ≡ bytes_of J n r (writer_of s' n) r.kind
  bytes_case n r row t low high = by (is_directory r.kind) refl
    where
      by : (d : Bool) → is_directory r.kind ≡ d → cond d [] (with_blocks n bs (resized (size_of J n) (cond d [] (data_of I n r (writer_of s n))))) ≡ cond d [] (data_of J n r (writer_of s' n))
      by true d = refl
      by false d =
          ap (with_blocks n bs) (resized_same (size_of J n) (data_of I n r (writer_of s n)) (old_long s k whole n r row ∙ sym (size_stays n r row)))
          ∙ put_case n r row t low high d (covers_blocks r.kind (guard_of J n)) refl

  not_told : (n : ℕ) → is_told I J b n ≡ false → is_written b n ≡ false
  not_told n t = (or_parts (is_written b n) (is_among n b.holds) (or_parts (is_written b n || is_among n b.holds) (is_some (row_at J n) && not (bytes_eq (name_by I n (row_at I n)) (name_by J n (row_at J n)))) t).0).0

  node_case : (n : ℕ) (o : Option Row) → row_at s.home n ≡ o → 1 ≤ n → n < 1 + s.home.core.inodes → (t : Bool) → is_told I J b n ≡ t → node_by J n (writer_of s' n) o ≡ becomes bs (cond t (told_by I J b n o o) None) (node_by I n (writer_of s n) o)
  node_case n None row low high true t = refl
  node_case n None row low high false t = refl
  node_case n (Some r) row low high true t =
      ap (λ x. Some (node_with r (guard_of J n) (name_of J n r) x)) (sym (bytes_case n r row t low high))
  node_case n (Some r) row low high false t = ap Some (same_node n r row (not_told n t))

  pub node_settled : (n : ℕ) → node_in s' n ≡ node_by J n (writer_of s' n) (row_at s.home n)
  node_settled n = ap (λ (i : Image). node_by i n (writer_of s' n) (row_at i n)) e.settles

  -- each node after the release is what its file makes of it
  pub refused_node : (n : ℕ) → 1 ≤ n → n < 1 + s.home.core.inodes → node_in s' n ≡ becomes bs (rf n) (node_in s n)
  refused_node n low high = node_settled n ∙ node_case n (row_at s.home n) refl low high (is_told I J b n) refl

  outside : (n : ℕ) → (n < 1) ⊎ (1 + s.home.core.inodes ≤ n) → node_in s' n ≡ node_in s n
  outside n out = node_settled n ∙ ap (node_by J n (writer_of s' n)) (row_outside I k.fit k.verifies n out) ∙ sym (ap (node_by I n (writer_of s n)) (row_outside I k.fit k.verifies n out))

  pub refused_nodes : nodes_of s' ≡ raw_nodes bs files (nodes_of s)
  refused_nodes = search (arith, nodes_long, raw_length, raw_number, nodes_same, node_is, refused_node, raw_in, outside, raw_out, cases_lt)
