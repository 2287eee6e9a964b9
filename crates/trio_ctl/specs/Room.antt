-- How much memory one release takes, and what is made ready for releases to come.
use Rattle.std.specs.Prelude.{ℕ, ◌+◌, ◌*◌, ◌≤◌, length, min}
use Rattle.trio_rights.specs.Bundle.{Bundle, bundle_pages}
use Rattle.trio_desk.specs.Contents.{Sizes}
use Rattle.trio_layout.specs.Core.{Core}
use Rattle.trio_layout.specs.Image.{Image}
use Rattle.trio_ctl.specs.Ctl.{Controller, Spare}

-- the sizes of an image
abbrev pub sizes_in : Image → Sizes
sizes_in image = record { range = image.core.range; inodes = image.core.inodes }

-- What one release of a bundle needs at most, in bytes, of an image of these sizes: 4 for each page and each inode number of the image,
-- 16384 for each page of the bundle, and 1024 for the release itself and for each write lease, hold and inode number in the bundle.
abbrev pub room_in : Sizes → Bundle → ℕ
room_in z b =
    4 * (z.range.end + z.inodes) + 16384 * length (bundle_pages b) + 1024 * (1 + length b.writes + length b.holds + length b.numbers)

-- the same, of an image of this core
abbrev pub room_for : Core → Bundle → ℕ
room_for core b = room_in (record { range = core.range; inodes = core.inodes }) b

-- how many entries are spare, each with the memory of a release
abbrev pub spare_entries : Spare → ℕ
spare_entries s = min s.places s.kits

-- there is one spare entry, and there are spare bytes for a release of this bundle
pub record HasRoomFor (c : Controller) (b : Bundle) : Type 0 where
  pub entry : 1 ≤ spare_entries c.spare
  pub bytes : room_for c.state.home.core b ≤ c.spare.bytes

-- spare entries and spare bytes are fewer by at most so many
pub record Spends (count much : ℕ) (old new : Spare) : Type 0 where
  pub entries : spare_entries old ≤ spare_entries new + count
  pub bytes : old.bytes ≤ new.bytes + much
