-- What changes of an image with its version, and what it keeps.
use Rattle.std.proofs.Common.{◌*◌, ◌++◌, ◌+◌, ◌<◌, ◌∙◌, ◌∷◌, ◌≡◌, ◌≤◌, List, None, Option, Some, [], ap, append_assoc, arith, drop, length, refl, subst, suc, sym, take, true, zero, ℕ}
use Rattle.std.specs.Prelude.{slice_index_or, slice_set, ◌==◌}
use Rattle.std.specs.List.{list_all}
use Rattle.std.specs.Int.{to_le_bytes, w32}
use Rattle.std.proofs.lemmas.Bool.{and_parts, eq-eqb, eqb-true}
use Rattle.std.proofs.lemmas.List.{drop-append-le, length-drop, length-take, take-append-drop, take-append-le}
use Rattle.trio_rights.specs.Row.{Row}
use Rattle.trio_page.proofs.Fields.{length-to_le_bytes, length-with_number}
use Rattle.trio_page.specs.Field.{with_number, with_part}
use Rattle.trio_layout.specs.declared.superblock.Superblock.{Superblock}
use Rattle.trio_layout.specs.Superblock.{current_version, superblock_bytes_of, IsSuperblockOf}
use Rattle.trio_layout.proofs.Superblocks.{only, superblock_facts}
use Rattle.trio_state.specs.ImageNodes.{nodes_of}
use Rattle.trio_survey.specs.OldVersion.{old_version, OldBytesVerify, OldPagesVerify}
use Rattle.trio_survey.specs.Stored.{bytes_in, image_in, pages_in, HasPage, PagesVerify, StoresTables}
use Rattle.trio_tables.specs.Stored.{owner_bytes, padded_to_pages, page_at, shadow_bytes}
use Rattle.trio_image.specs.Counts.{counts_in_tables, counts_of}
use Rattle.trio_image.specs.Fault.{HasLengthOf}
use Rattle.trio_image.specs.Image.{is_whole_page, IsVerified, IsWholeImage, TablesAre}
use Rattle.trio_image.proofs.Images.{pages_whole}
use Rattle.trio_image.proofs.Pages.{back_of, front_of}
use Rattle.trio_migrate.specs.Migrated.{migrated, migrated_pages, MigrationKeeps}
use Rattle.trio_migrate.specs.OldImage.{IsOldVerified}
use Rattle.trio_migrate.proofs.SamePages.{nodes_same, other_page, owners_same, rows_same, sound_same}

-- ---- the version's field

-- a field within the front of bytes
with_part-front : (at : ℕ) (part xs ys : List ℕ) → at + length part ≤ length xs → with_part at part (xs ++ ys) ≡ with_part at part xs ++ ys
unfolding with_part
with_part-front at part xs ys fits =
    let front : at ≤ length xs = omega arith in
    ap (λ l. l ++ (part ++ drop (at + length part) (xs ++ ys))) (take-append-le at xs ys front)
    ∙ ap (λ l. take at xs ++ (part ++ l)) (drop-append-le (at + length part) xs ys fits)
    ∙ ap (λ l. take at xs ++ l) (sym (append_assoc part (drop (at + length part) xs) ys))
    ∙ sym (append_assoc (take at xs) (part ++ drop (at + length part) xs) ys)

pub migrated-front : (xs ys : List ℕ) → 12 ≤ length xs → migrated (xs ++ ys) ≡ migrated xs ++ ys
unfolding with_number
migrated-front xs ys fits =
    with_part-front 8 (to_le_bytes w32 current_version) xs ys (omega (arith, fits, length-to_le_bytes w32 current_version))

pub length-migrated : (xs : List ℕ) → 12 ≤ length xs → length (migrated xs) ≡ length xs
length-migrated xs fits = length-with_number w32 8 current_version xs (omega (arith, fits))

respelled : (s : Superblock) → migrated (superblock_bytes_of old_version s) ≡ superblock_bytes_of current_version s
unfolding with_number with_part superblock_bytes_of
respelled s = refl

-- a superblock of version 1 is one of today's version with the field changed
pub superblock_now : (bytes : List ℕ) (s : Superblock) → IsSuperblockOf old_version bytes s → IsSuperblockOf current_version (migrated bytes) s
superblock_now bytes s is = record {
  spelled = ap migrated is.spelled ∙ respelled s;
  root = is.root;
  fits = is.fits;
}

-- ---- pages

pub first_there : (pages : List (Option (List ℕ))) (p : List ℕ) → slice_index_or pages 0 None ≡ Some p → (rest : List (Option (List ℕ))) × (pages ≡ Some p ∷ rest)
first_there [] p e = absurd cc
first_there (x ∷ rest) p e = (rest, ap (λ o. o ∷ rest) e)

pub first_put : (pages : List (Option (List ℕ))) (p : List ℕ) → slice_index_or pages 0 None ≡ Some p → slice_set (slice_set pages 0 None) 0 (Some (migrated p)) ≡ migrated_pages pages
first_put [] p e = absurd cc
first_put (None ∷ rest) p e = absurd cc
first_put (Some x ∷ rest) p e =
    let same : x ≡ p = cc e in ap (λ l. Some (migrated l) ∷ rest) (sym same)

pub none_put : (pages : List (Option (List ℕ))) → slice_index_or pages 0 None ≡ None → slice_set pages 0 None ≡ migrated_pages pages
none_put [] e = refl
none_put (None ∷ rest) e = refl
none_put (Some x ∷ rest) e = absurd cc

module _ (s : Superblock) (p : List ℕ) (rest : List (Option (List ℕ))) (v : IsOldVerified s (Some p ∷ rest)) where
  abbrev pages : List (Option (List ℕ))
  pages = Some p ∷ rest

  abbrev now : List (Option (List ℕ))
  now = Some (migrated p) ∷ rest

  behind : 0 < s.first_core
  behind = let facts = superblock_facts s v.whole.superblock.read.fits in omega (arith, facts.first_core, facts.first_owner)

  owners_behind : 0 < s.first_owner
  owners_behind = let facts = superblock_facts s v.whole.superblock.read.fits in omega (arith, facts.first_owner)

  page_is : v.whole.superblock.bytes ≡ p
  page_is = let e : Some p ≡ Some v.whole.superblock.bytes = v.whole.superblock.here in cc e

  spelled_here : IsSuperblockOf old_version p s
  spelled_here = subst (λ b. IsSuperblockOf old_version b s) page_is v.whole.superblock.read

  parts_whole : (length p ≡ 4096) × (list_all is_whole_page rest ≡ true)
  parts_whole = let w = and_parts (length p == 4096) (list_all is_whole_page rest) v.whole.whole in (eqb-true (length p) 4096 w.0, w.1)

  length_now : length (migrated p) ≡ 4096
  length_now = length-migrated p (omega (arith, parts_whole.0)) ∙ parts_whole.0

  whole_now : IsWholeImage s now
  whole_now = record {
    count = v.whole.count;
    whole = rw (eq-eqb (length (migrated p)) 4096 length_now) parts_whole.1;
    superblock = record { bytes = migrated p; here = refl; read = superblock_now p s spelled_here };
  }

  kept : (n : ℕ) (bytes : List ℕ) → 0 < n → HasPage pages n bytes → HasPage now n bytes
  kept n bytes some has = other_page (Some p) (Some (migrated p)) rest n some ∙ has

  tables_now : StoresTables s now (image_in s now).rows (image_in s now).owners
  tables_now =
      let rows = rows_same s (Some p) (Some (migrated p)) rest behind in
      let owners = owners_same s (Some p) (Some (migrated p)) rest behind in
      rw (rows, owners) (record {
        shadow = λ k lt. kept (1 + k) (page_at k (padded_to_pages (shadow_bytes (image_in s pages).rows))) (omega arith) (v.verify.verify.tables.shadow k lt);
        owner = λ k lt. kept (s.first_owner + k) (page_at k (padded_to_pages (owner_bytes (image_in s pages).owners))) (omega (arith, owners_behind)) (v.verify.verify.tables.owner k lt);
      })

  pub first_verified : IsVerified s now
  first_verified = record {
    whole = whole_now;
    verify = record { sound = sound_same s (Some p) (Some (migrated p)) rest behind ∙ v.verify.verify.sound; tables = tables_now };
  }

  pub first_nodes : nodes_of (image_in s now) ≡ nodes_of (image_in s pages)
  first_nodes = nodes_same s (Some p) (Some (migrated p)) rest behind

  pub first_bytes_now : bytes_in now ≡ migrated (bytes_in pages)
  first_bytes_now = sym (migrated-front p (bytes_in rest) (omega (arith, parts_whole.0)))

  pub first_tables : (image_in s now).rows ≡ (image_in s pages).rows
  first_tables = rows_same s (Some p) (Some (migrated p)) rest behind

  pub first_owners : (image_in s now).owners ≡ (image_in s pages).owners
  first_owners = owners_same s (Some p) (Some (migrated p)) rest behind

-- what holds of an image with its version changed
pub record Kept (s : Superblock) (pages : List (Option (List ℕ))) : Type 0 where
  pub verified : IsVerified s (migrated_pages pages)
  pub nodes : nodes_of (image_in s (migrated_pages pages)) ≡ nodes_of (image_in s pages)
  pub bytes : bytes_in (migrated_pages pages) ≡ migrated (bytes_in pages)
  pub rows : (image_in s (migrated_pages pages)).rows ≡ (image_in s pages).rows
  pub owners : (image_in s (migrated_pages pages)).owners ≡ (image_in s pages).owners

pub kept_by : (s : Superblock) (pages : List (Option (List ℕ))) → IsOldVerified s pages → Kept s pages
kept_by s pages v =
    let first = first_there pages v.whole.superblock.bytes v.whole.superblock.here in
    let p : List ℕ = v.whole.superblock.bytes in
    let w : IsOldVerified s (Some p ∷ first.0) = subst (IsOldVerified s) first.1 v in
    subst (Kept s) (sym first.1) (record {
      verified = first_verified s p first.0 w;
      nodes = first_nodes s p first.0 w;
      bytes = first_bytes_now s p first.0 w;
      rows = first_tables s p first.0 w;
      owners = first_owners s p first.0 w;
    })

pub counts_kept : (s : Superblock) (pages : List (Option (List ℕ))) → IsOldVerified s pages → counts_of (image_in s (migrated_pages pages)) ≡ counts_of (image_in s pages)
counts_kept s pages v =
    let k = kept_by s pages v in
    ap (λ (rows : List (Option Row)). counts_in_tables rows (image_in s (migrated_pages pages)).owners) k.rows
    ∙ ap (λ (owners : List ℕ). counts_in_tables (image_in s pages).rows owners) k.owners

-- its tables are those of the image before
pub tables_kept : (s : Superblock) (pages : List (Option (List ℕ))) → IsOldVerified s pages → (rows : List (Option Row)) (owners : List ℕ) → TablesAre s pages rows owners → TablesAre s (migrated_pages pages) rows owners
tables_kept s pages v rows owners t =
    let k = kept_by s pages v in
    record { rows_are = t.rows_are ∙ sym k.rows; owners_are = t.owners_are ∙ sym k.owners }

-- ---- bytes

pages_now : (n : ℕ) (bytes : List ℕ) → 4096 ≤ length bytes → pages_in n (migrated bytes) ≡ migrated_pages (pages_in n bytes)
pages_now zero bytes le = refl
pages_now (suc n) bytes le =
    let front : List ℕ = take 4096 bytes in
    let back : List ℕ = drop 4096 bytes in
    let len : length front ≡ 4096 = omega (arith, length-take 4096 bytes) in
    let whole : migrated bytes ≡ migrated front ++ back = ap migrated (sym (take-append-drop 4096 bytes)) ∙ migrated-front front back (omega (arith, len)) in
    let len' : length (migrated front) ≡ 4096 = length-migrated front (omega (arith, len)) ∙ len in
    ap (pages_in (suc n)) whole
    ∙ ap (λ l. Some l ∷ pages_in n (drop 4096 (migrated front ++ back))) (front_of 4096 (migrated front) back len')
    ∙ ap (λ l. Some (migrated front) ∷ pages_in n l) (back_of 4096 (migrated front) back len')

-- the pages that bytes are cut into have just them
pub bytes_again : (n : ℕ) (bytes : List ℕ) → length bytes ≡ 4096 * n → bytes_in (pages_in n bytes) ≡ bytes
bytes_again zero [] len = refl
bytes_again zero (b ∷ bytes) len = absurd (omega arith)
bytes_again (suc n) bytes len =
    let rest : length (drop 4096 bytes) ≡ 4096 * n = omega (arith, length-drop 4096 bytes, len) in
    ap (λ l. take 4096 bytes ++ l) (bytes_again n (drop 4096 bytes) rest) ∙ take-append-drop 4096 bytes

one_old_superblock : (bytes : List ℕ) (s t : Superblock) → IsSuperblockOf old_version bytes s → IsSuperblockOf old_version bytes t → s ≡ t
one_old_superblock bytes s t a b = sym (only old_version bytes s (omega arith) a).0 ∙ (only old_version bytes t (omega arith) b).0

pub old_pages_verify : (bytes : List ℕ) (s : Superblock) → HasLengthOf old_version bytes s → OldBytesVerify bytes → OldPagesVerify s (pages_in s.pages bytes)
old_pages_verify bytes s has v =
    subst (λ (t : Superblock). OldPagesVerify t (pages_in t.pages bytes)) (one_old_superblock (take 4096 bytes) v.superblock s v.read has.superblock) v.verify

pub migration_keeps : MigrationKeeps
migration_keeps bytes s v has =
    let facts = superblock_facts s has.superblock.fits in
    let long : 4096 ≤ length bytes = omega (arith, has.length_is, facts.some_pages) in
    let pages : List (Option (List ℕ)) = pages_in s.pages bytes in
    let k = kept_by s pages (record { whole = pages_whole old_version bytes s has; verify = old_pages_verify bytes s has v }) in
    let same : pages_in s.pages (migrated bytes) ≡ migrated_pages pages = pages_now s.pages bytes long in
    let front : List ℕ = take 4096 bytes in
    let len : length front ≡ 4096 = omega (arith, length-take 4096 bytes) in
    let len' : length (migrated front) ≡ 4096 = length-migrated front (omega (arith, len)) ∙ len in
    let whole : migrated bytes ≡ migrated front ++ drop 4096 bytes = ap migrated (sym (take-append-drop 4096 bytes)) ∙ migrated-front front (drop 4096 bytes) (omega (arith, len)) in
    let first : take 4096 (migrated bytes) ≡ migrated front = ap (take 4096) whole ∙ front_of 4096 (migrated front) (drop 4096 bytes) len' in
    let read : IsSuperblockOf current_version (take 4096 (migrated bytes)) s = subst (λ b. IsSuperblockOf current_version b s) (sym first) (superblock_now front s has.superblock) in
    let count : length (migrated bytes) ≡ 4096 * s.pages = length-migrated bytes (omega (arith, long)) ∙ has.length_is in
    record {
      lengths = record { superblock = read; length_is = count };
      verify = record { superblock = s; read = read; whole = count; verify = subst (PagesVerify s) (sym same) k.verified.verify };
      nodes = ap (λ ps. nodes_of (image_in s ps)) same ∙ k.nodes;
    }
