-- When an image verifies.
use Rattle.std.specs.Prelude.{◌≡◌}
use Rattle.trio_layout.specs.Survey.{plain, survey}
use Rattle.trio_layout.specs.Sound.{IsSound, rows_table, owners_table}
use Rattle.trio_layout.specs.Image.{Image}

-- the plain survey is sound, and the tables are exactly its rows and owners
pub record Verifies (image : Image) : Type 0 where
  pub sound : IsSound image.core plain
  pub rows : image.rows ≡ rows_table image.core (survey image.core plain)
  pub owners : image.owners ≡ owners_table image.core (survey image.core plain)
