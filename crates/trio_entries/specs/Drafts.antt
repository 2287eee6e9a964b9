-- The memory of what the entry of a release tells, by how much its bundle has.
use Rattle.std.specs.Prelude.{ℕ, ◌≡◌, ◌+◌, ◌*◌, ◌≤◌, if◌then◌else◌, List, [], ◌++◌, length, vec_len, vec_capacity}
use Rattle.std.specs.Global.{Vec}
use Rattle.std.specs.List.{flat_map, list_any, All}
use Rattle.trio_rights.specs.ByKind.{is_directory}
use Rattle.trio_lease.specs.Bundles.{Bundled}
use Rattle.trio_state.specs.Moves.{Outline}
use Rattle.trio_case.specs.Indexed.{HasPlacesFor}
use Rattle.trio_case.specs.Memory.{size_of, IsWithin}
use Rattle.trio_case.specs.declared.size.BundleSize.{BundleSize}
use Rattle.trio_entries.specs.declared.handed.Room.{Room}
use Rattle.trio_entries.specs.declared.handed.HandedRoom.{HandedRoom}
use Rattle.trio_entries.specs.declared.finder.Finder.{Finder}
use Rattle.trio_entries.specs.declared.outline.OutlineMemory.{OutlineMemory}
use Rattle.trio_entries.specs.declared.draft.ToldMemory.{ToldMemory}
use Rattle.trio_entries.specs.declared.draft.DraftMemory.{DraftMemory}

-- ---- outlines

-- the numbers of all pages of an outline
abbrev pub outline_pages : Outline → List ℕ
outline_pages o = flat_map (λ f. f.index ++ f.blocks) o.writes ++ o.pages

-- how much a bundle of this outline has
abbrev pub outline_size : Outline → BundleSize
outline_size o = record {
  pages = length (outline_pages o);
  values = length o.writes + length o.holds + length o.numbers;
  holds = length o.holds;
  inodes = length o.numbers;
  lists = list_any (λ f. is_directory f.kind) o.writes;
}

-- there is memory for the outline of a bundle of this size, and nothing in it yet
pub record HasOutlinePlaces (size : BundleSize) (m : OutlineMemory) : Type 0 where
  pub files : size.values ≤ vec_capacity m.files
  pub no_files : m.files.items ≡ []
  pub holds : size.holds ≤ vec_capacity m.holds
  pub no_holds : m.holds.items ≡ []
  pub pages : size.pages ≤ vec_capacity m.pages
  pub no_pages : m.pages.items ≡ []
  pub numbers : size.inodes ≤ vec_capacity m.numbers
  pub no_numbers : m.numbers.items ≡ []

-- ---- pages

-- no bytes, and places for those of a page
pub record IsBuffer (v : Vec ℕ) : Type 0 where
  pub empty : v.items ≡ []
  pub places : 4096 ≤ vec_capacity v

-- there is memory for so many pages more
pub record IsRoom (n : ℕ) (r : Room) : Type 0 where
  pub count : n ≤ length r.buffers.items
  pub buffers : All IsBuffer r.buffers.items
  pub places : vec_len r.pages + n ≤ vec_capacity r.pages

-- the same, with no page yet
pub record IsNewRoom (n : ℕ) (r : Room) : Type 0 where
  pub room : IsRoom n r
  pub empty : r.pages.items ≡ []

-- there is memory for a copy of a bundle of this size, and nothing in it yet
pub record HasHandedPlaces (size : BundleSize) (r : HandedRoom) : Type 0 where
  pub heads : size.values ≤ vec_capacity r.heads
  pub no_heads : r.heads.items ≡ []
  pub holds : size.holds ≤ vec_capacity r.holds
  pub no_holds : r.holds.items ≡ []
  pub pages : IsNewRoom size.pages r.pages
  pub numbers : size.inodes ≤ vec_capacity r.numbers
  pub no_numbers : r.numbers.items ≡ []

-- ---- what is found by number

-- There is memory for what is found of a bundle of this size: its pages, its marks, and the place of each judged file. None of
-- these is there yet.
pub record HasFinderPlaces (size : BundleSize) (f : Finder) : Type 0 where
  pub pages : HasPlacesFor size.pages f.pages
  pub judged : size.values ≤ vec_capacity f.judged
  pub unjudged : f.judged.items ≡ []
  pub marked : size.pages ≤ vec_capacity f.marked
  pub unmarked : f.marked.items ≡ []

-- ---- all of it

-- of how many files the release of a bundle of this size tells at most: one for each slot of its pages, where it lists any, and
-- one for each written file and each hold
abbrev pub told_count : BundleSize → ℕ
told_count size = (if size.lists then 16 * size.pages else 0) + size.values

-- There is memory for all that the entry of the release of a bundle of this size tells, accepted or refused: the bundle, the files
-- that it tells of, and of blocks one for each page.
pub record HasToldPlaces (size : BundleSize) (m : ToldMemory) : Type 0 where
  pub handed : HasHandedPlaces size m.handed
  pub files : told_count size ≤ vec_capacity m.files
  pub no_files : m.files.items ≡ []
  pub blocks : size.pages ≤ vec_capacity m.blocks
  pub no_blocks : m.blocks.items ≡ []
  pub finder : HasFinderPlaces size m.finder

-- there is memory for the entry of the release of this bundle, whatever bytes its pages have
pub record HasDraftMemory (b : Bundled) (m : DraftMemory) : Type 0 where
  pub outline : HasOutlinePlaces (size_of b) m.outline
  pub told : HasToldPlaces (size_of b) m.told

-- memory that was made for a size of a bundle is memory for each bundle that is no larger
abbrev pub IsDraftMemory : BundleSize → DraftMemory → Type 0
IsDraftMemory size m = (b : Bundled) → IsWithin b size → HasDraftMemory b m
