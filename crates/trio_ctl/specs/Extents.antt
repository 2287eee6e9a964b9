-- How files lie in an image.
use Rattle.std.specs.Prelude.{ℕ, Bool, Option}
use Rattle.std.specs.Option.{option_map}
use Rattle.trio_rights.specs.declared.kind.Kind.{Kind}
use Rattle.trio_rights.specs.Row.{Row}
use Rattle.trio_layout.specs.Body.{block_count, body_at, guard_in}
use Rattle.trio_layout.specs.Chain.{index_count}
use Rattle.trio_layout.specs.Image.{Image, row_at, settled_body}
use Rattle.trio_ctl.specs.declared.extent.Extent.{Extent}

-- how a file of this kind and size lies, guarded or not: in so many blocks, and as many index pages as name them
abbrev pub extent_of : Kind → Bool → ℕ → Extent
extent_of kind guarded size =
    record { kind = kind; guarded = guarded; index = index_count (block_count size); blocks = block_count size }

-- how the file of a number that has this row lies, by its settled body
abbrev pub extent_by : Image → ℕ → Row → Extent
extent_by image ino r =
    extent_of r.kind (guard_in (settled_body image ino)) (body_at (settled_body image ino)).size

-- how the file of this number lies in an image; None where the number isn't live
abbrev pub extent_in : Image → ℕ → Option Extent
extent_in image ino = option_map (extent_by image ino) (row_at image ino)
