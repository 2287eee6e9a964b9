-- What a bundle has, and the room in it.
use Rattle.std.specs.Prelude.{ℕ, ◌+◌, ◌≤◌, List, length, vec_capacity}
use Rattle.trio_lease.specs.Shown.{LentFile}
use Rattle.trio_lease.specs.declared.bundle.BundleParts.{BundleParts}
use Rattle.trio_lease.specs.declared.parts.HoldParts.{HoldParts}
use Rattle.trio_lease.specs.declared.parts.FreshParts.{FreshParts}
use Rattle.trio_lease.specs.declared.parts.InoParts.{InoParts}

-- how many of each kind have a place, those that are there counted in
pub record Capacity : Type 0 where
  pub writes : ℕ
  pub holds : ℕ
  pub pages : ℕ
  pub inodes : ℕ

-- the write leases, holds, allotted pages and allotted inode numbers in the order in which they were added, and the room
pub record Bundled : Type 0 where
  pub writes : List LentFile
  pub holds : List HoldParts
  pub pages : List FreshParts
  pub inodes : List InoParts
  pub room : Capacity

-- the bundle that has these parts
abbrev pub bundled : BundleParts → Bundled
bundled p = record { writes = p.writes.items; holds = p.holds.items; pages = p.pages.items; inodes = p.inodes.items; room = record { writes = vec_capacity p.writes; holds = vec_capacity p.holds; pages = vec_capacity p.pages; inodes = vec_capacity p.inodes } }

-- so many more of each kind have a place
pub record HasRoom (b : Bundled) (writes holds pages inodes : ℕ) : Type 0 where
  pub more_writes : length b.writes + writes ≤ b.room.writes
  pub more_holds : length b.holds + holds ≤ b.room.holds
  pub more_pages : length b.pages + pages ≤ b.room.pages
  pub more_inodes : length b.inodes + inodes ≤ b.room.inodes

-- no kind has fewer places than before
pub record NoRoomLost (old new : Capacity) : Type 0 where
  pub writes : old.writes ≤ new.writes
  pub holds : old.holds ≤ new.holds
  pub pages : old.pages ≤ new.pages
  pub inodes : old.inodes ≤ new.inodes
