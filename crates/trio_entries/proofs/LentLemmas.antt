-- The blocks that a file was lent with.
use Rattle.trio_entries.proofs.Words.{◌∙◌, ◌∷◌, ◌≡◌, Bundled, LentFile, LentPage, List, None, Option, Some, Written, [], ap, bundle_in, eqb, find, lent_blocks, lent_sheet, map, option_map, option_map_or, refl, sheet_numbers, slice_get, written_in, ℕ}
use Rattle.trio_lease.specs.Shown.{no_at}
use Rattle.trio_entries.proofs.FileLemmas.{slice_get-map}
use Rattle.trio_entries.proofs.Finding.{find-map}

abbrev pub block_numbers : List LentPage → List ℕ
block_numbers pages = map (λ p. p.no.0) pages

sheets_are : (pages : List LentPage) → sheet_numbers (map lent_sheet pages) ≡ block_numbers pages
sheets_are [] = refl
sheets_are (p ∷ ps) = ap (λ ns. p.no.0 ∷ ns) (sheets_are ps)

-- by the lease on the file
pub lent_blocks_are : (b : Bundled) (n : ℕ) → lent_blocks (bundle_in b) n ≡ option_map_or (λ (f : LentFile). block_numbers f.stands.blocks) (find (λ (f : LentFile). eqb f.stands.ino n) b.writes) []
lent_blocks_are b n =
    ap (λ o. option_map_or (λ (w : Written). sheet_numbers w.blocks) o []) (find-map (λ (f : LentFile). written_in f.stands) (λ (w : Written). eqb w.ino n) b.writes)
    ∙ of (find (λ (f : LentFile). eqb f.stands.ino n) b.writes)
  where
    of : (o : Option LentFile) → option_map_or (λ (w : Written). sheet_numbers w.blocks) (option_map (λ (f : LentFile). written_in f.stands) o) [] ≡ option_map_or (λ (f : LentFile). block_numbers f.stands.blocks) o []
    of None = refl
    of (Some f) = sheets_are f.stands.blocks

-- the number at a position
pub block_number_at : (pages : List LentPage) (at : ℕ) → slice_get (block_numbers pages) at ≡ option_map (λ no. no.0) (no_at pages at)
block_number_at pages at = slice_get-map (λ (p : LentPage). p.no.0) pages at ∙ of (slice_get pages at)
  where
    of : (o : Option LentPage) → option_map (λ (p : LentPage). p.no.0) o ≡ option_map (λ no. no.0) (option_map (λ (p : LentPage). p.no) o)
    of None = refl
    of (Some p) = refl
