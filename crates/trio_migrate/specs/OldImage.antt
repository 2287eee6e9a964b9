-- An image of version 1 as its pages with what its first page says.
use Rattle.std.specs.Prelude.{ℕ, List, Option}
use Rattle.trio_layout.specs.declared.superblock.Superblock.{Superblock}
use Rattle.trio_survey.specs.OldVersion.{old_version, OldPagesVerify}
use Rattle.trio_image.specs.Image.{IsWholeImageOf}

-- a whole image that verifies by version 1
pub record IsOldVerified (s : Superblock) (pages : List (Option (List ℕ))) : Type 0 where
  pub whole : IsWholeImageOf old_version s pages
  pub verify : OldPagesVerify s pages
