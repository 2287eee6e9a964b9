-- The image that a bundle proposes: the settled core with the bundle's pages in place, and the bodies that are picked.
use Rattle.std.specs.Prelude.{ℕ, ◌==◌, Bool, false, ◌&&◌, List, Option, Some, None, if◌then◌else◌}
use Rattle.std.specs.List.{find}
use Rattle.std.specs.Option.{option_map_or}
use Rattle.trio_rights.specs.Bundle.{Bundle, bundle_sheets}
use Rattle.trio_rights.specs.Row.{Row}
use Rattle.trio_rights.specs.Sheets.{with_pages}
use Rattle.trio_layout.specs.Core.{Core}
use Rattle.trio_layout.specs.Survey.{Pick}
use Rattle.trio_layout.specs.Image.{Image, row_at, settled_body}

-- the body of a live file: its write lease's, where that is in the bundle, else the settled one
abbrev pub kept_body : Image → Bundle → ℕ → List ℕ
kept_body image b n = option_map_or (λ w. w.body) (find (λ w. w.ino == n) b.writes) (settled_body image n)

-- the row names this directory and this place
abbrev pub is_place_of : ℕ → ℕ → ℕ → Option Row → Bool
is_place_of directory page slot None = false
is_place_of directory page slot (Some r) = r.parent == directory && r.page == page && r.slot == slot

-- An entry at the place that its number's row names has the body that is kept, every other entry the bytes in its slot.
abbrev pub proposed_pick : Image → Bundle → Pick
proposed_pick image b directory page slot ino bytes =
    if is_place_of directory page slot (row_at image ino) then kept_body image b ino else bytes

-- the core with the bundle's pages in place, and the root's body chosen alike
abbrev pub proposed : Image → Bundle → Core
proposed image b = record {
  pages = with_pages (bundle_sheets b) image.core.pages;
  root = kept_body image b 1;
  range = image.core.range;
  inodes = image.core.inodes;
}
