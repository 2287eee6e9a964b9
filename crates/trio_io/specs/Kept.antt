-- The contents that files in memory keep, by place.
use Rattle.std.specs.Prelude.{ℕ, List, Option, Some, None, slice_index_or}
use Rattle.trio_io.specs.declared.content.Content.{Content}
use Rattle.trio_io.specs.declared.content.Content.TheVariants.{Absent, Told, Untold}

-- the bytes of a content, where they are told
abbrev pub told_bytes : Content → Option (List ℕ)
told_bytes Absent = None
told_bytes (Told bytes) = Some bytes.items
told_bytes (Untold bytes) = None

-- the bytes at a place, where there are any and they are told
abbrev pub content_at : List Content → ℕ → Option (List ℕ)
content_at contents i = told_bytes (slice_index_or contents i Absent)

-- the bytes of a content, told or not
abbrev pub bytes_of : Content → Option (List ℕ)
bytes_of Absent = None
bytes_of (Told bytes) = Some bytes.items
bytes_of (Untold bytes) = Some bytes.items

-- the bytes at a place, where there are any
abbrev pub bytes_at : List Content → ℕ → Option (List ℕ)
bytes_at contents i = bytes_of (slice_index_or contents i Absent)
