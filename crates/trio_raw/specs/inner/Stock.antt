-- What a library has, and the places for it. Cited by private functions alone.
use Rattle.std.specs.Prelude.{◌≡◌, ℕ, ◌+◌, ◌≤◌, [], ◌++◌, length, vec_capacity, vec_len}
use Rattle.trio_lease.specs.declared.bundle.BundleParts.{BundleParts}
use Rattle.trio_lease.specs.declared.fresh.Allotted.{Allotted}
use Rattle.trio_desk.specs.Out.{Parcel}
use Rattle.trio_raw.specs.Has.{Has}
use Rattle.trio_raw.specs.declared.things.Numbers.{Numbers}

-- how many of each kind have a place, those that are there counted in
pub record Places : Type 0 where
  pub writes : ℕ
  pub reads : ℕ
  pub holds : ℕ
  pub pages : ℕ
  pub inodes : ℕ

-- what is had, and the places
pub record Stock : Type 0 where
  pub has : Has
  pub room : Places

-- one more lease of any kind has a place
pub record HasSpare (s : Stock) : Type 0 where
  pub more_writes : length s.has.writes + 1 ≤ s.room.writes
  pub more_reads : length s.has.reads + 1 ≤ s.room.reads
  pub more_holds : length s.has.holds + 1 ≤ s.room.holds

-- all that is in a parcel has a place
pub record HasPlaceFor (s : Stock) (b : Parcel) : Type 0 where
  pub for_writes : length s.has.writes + length b.writes ≤ s.room.writes
  pub for_holds : length s.has.holds + length b.holds ≤ s.room.holds
  pub for_pages : length s.has.pages + length b.pages ≤ s.room.pages
  pub for_inodes : length s.has.inodes + length b.inodes ≤ s.room.inodes

-- so many more pages and inode numbers have a place
pub record HasPlacesFor (s : Stock) (pages numbers : ℕ) : Type 0 where
  pub more_pages : length s.has.pages + pages ≤ s.room.pages
  pub more_inodes : length s.has.inodes + numbers ≤ s.room.inodes

-- empty lists with room for the numbers of so many pages and inodes
pub record HasNumbersFor (lists : Numbers) (pages numbers : ℕ) : Type 0 where
  pub no_pages : vec_len lists.pages ≡ 0
  pub no_inodes : vec_len lists.inodes ≡ 0
  pub for_pages : pages ≤ vec_capacity lists.pages
  pub for_inodes : numbers ≤ vec_capacity lists.inodes

-- with all that was allotted, as it is
abbrev pub with_given : Has → Allotted → Has
with_given has given =
    record has { pages = has.pages ++ given.pages.items; inodes = has.inodes ++ given.inodes.items }

-- the parts of a bundle that has nothing, with a place for so many leases and holds, pages and numbers
pub record HasRoomFor (p : BundleParts) (files pages numbers : ℕ) : Type 0 where
  pub no_writes : p.writes.items ≡ []
  pub no_holds : p.holds.items ≡ []
  pub no_pages : p.pages.items ≡ []
  pub no_inodes : p.inodes.items ≡ []
  pub for_writes : files ≤ vec_capacity p.writes
  pub for_holds : files ≤ vec_capacity p.holds
  pub for_pages : pages ≤ vec_capacity p.pages
  pub for_inodes : numbers ≤ vec_capacity p.inodes
