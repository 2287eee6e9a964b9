-- A change of mode changes one row and the copy in its body.
use Rattle.std.specs.Prelude.{ℕ, List, Option, None, Some, slice_set}
use Rattle.std.specs.Int.{w16}
use Rattle.trio_page.specs.Field.{with_number}
use Rattle.trio_rights.specs.Row.{Row}
use Rattle.trio_layout.specs.Image.{Image, row_at, settled_body}
use Rattle.trio_layout.specs.Accept.{with_body_at}

-- a body with another mode
abbrev pub body_with_mode : ℕ → List ℕ → List ℕ
body_with_mode mode body = with_number w16 0 mode body

-- a row with another mode
abbrev pub row_with_mode : ℕ → Option Row → Option Row
row_with_mode mode None = None
row_with_mode mode (Some r) = Some (record r { mode = record { 0 = mode } })

-- the pages with this body at the place of the row
abbrev pub body_put : Option Row → List ℕ → List (Option (List ℕ)) → List (Option (List ℕ))
body_put None body pages = pages
body_put (Some r) body pages = with_body_at r.page r.slot body pages

-- the image with another mode of one file, which is not the root
abbrev pub image_with_mode : Image → ℕ → ℕ → Image
image_with_mode image n mode = record {
  core = record {
    pages = body_put (row_at image n) (body_with_mode mode (settled_body image n)) image.core.pages;
    root = image.core.root;
    range = image.core.range;
    inodes = image.core.inodes;
  };
  rows = slice_set image.rows n (row_with_mode mode (row_at image n));
  owners = image.owners;
}
