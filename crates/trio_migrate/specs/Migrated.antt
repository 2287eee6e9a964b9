-- An image of version 1 as one of today's version: its first page has another version, and all else stays.
use Rattle.std.specs.Prelude.{◌≡◌, ℕ, List, [], ◌∷◌, Option}
use Rattle.std.specs.Int.{w32}
use Rattle.std.specs.Option.{option_map}
use Rattle.trio_page.specs.Field.{with_number}
use Rattle.trio_layout.specs.declared.superblock.Superblock.{Superblock}
use Rattle.trio_layout.specs.Superblock.{current_version}
use Rattle.trio_state.specs.ImageNodes.{nodes_of}
use Rattle.trio_survey.specs.OldVersion.{old_version, OldBytesVerify}
use Rattle.trio_survey.specs.Stored.{image_in, pages_in, BytesVerify}
use Rattle.trio_image.specs.Fault.{HasLength, HasLengthOf}

-- the bytes with today's version in bytes 8 to 11
abbrev pub migrated : List ℕ → List ℕ
migrated bytes = with_number w32 8 current_version bytes

-- the pages with today's version on the first one
abbrev pub migrated_pages : List (Option (List ℕ)) → List (Option (List ℕ))
migrated_pages [] = []
migrated_pages (p ∷ ps) = option_map migrated p ∷ ps

-- the bytes verify by today's version once theirs is changed, with the same superblock, and their nodes are the same
pub record Migrates (bytes : List ℕ) (s : Superblock) : Type 0 where
  pub lengths : HasLength (migrated bytes) s
  pub verify : BytesVerify (migrated bytes)
  pub nodes : nodes_of (image_in s (pages_in s.pages (migrated bytes))) ≡ nodes_of (image_in s (pages_in s.pages bytes))

-- what verifies by version 1 verifies by today's version with bytes 8 to 11 alone changed, and its nodes are the same
abbrev pub MigrationKeeps : Type 0
MigrationKeeps = (bytes : List ℕ) (s : Superblock) → OldBytesVerify bytes → HasLengthOf old_version bytes s → Migrates bytes s
