-- How a listing is kept. Cited by the listing's own invariant and private functions alone.
use Rattle.std.specs.Prelude.{ℕ, zero, suc, ◌≡◌, ◌==◌, ◌<◌, ◌≤◌, ◌^◌, Bool, true, ◌&&◌, nat_le, List, Option, None, length, map, if◌then◌else◌, slice_get, slice_index_or, slice_range, vec_capacity}
use Rattle.std.specs.List.{find, list_all}
use Rattle.trio_layout.specs.Listing.{Listing, ListedFile}
use Rattle.trio_tables.specs.Row.{as_row}
use Rattle.trio_case.specs.declared.listing.Span.{Span}
use Rattle.trio_case.specs.declared.listing.ListedEntry.{ListedEntry as EntryData}
use Rattle.trio_case.specs.declared.listing.ListedFile.{ListedFile as FileData}
use Rattle.trio_case.specs.declared.listing.ListingRoom.{ListingRoom}
use Rattle.trio_case.specs.declared.listing.Lists.{Lists}
use Rattle.trio_case.specs.Listed.{blocks_listed, entry_seen, index_listed}
use Rattle.trio_case.specs.inner.NumberSets.{HasJust, NumbersShown}

-- the part of a list
abbrev pub part_of : List ℕ → Span → List ℕ
part_of numbers s = slice_range numbers s.start s.end

-- a file, with its part of the numbers of all files
abbrev pub file_seen : List ℕ → List ℕ → FileData → ListedFile
file_seen index blocks f = record { ino = f.ino; row = as_row f.row; index = part_of index f.index; blocks = part_of blocks f.blocks }

-- the listing, by the lists that keep it
abbrev pub listing_seen : Lists → Listing
listing_seen l = record {
  held = l.held.items;
  files = map (file_seen l.index.items l.blocks.items) l.files.items;
  entries = map entry_seen l.entries.items;
}

-- the part stands within a list of so many
abbrev pub is_within : ℕ → Span → Bool
is_within n s = nat_le s.start s.end && nat_le s.end n

-- the last of so many elements
abbrev pub last_of : {X : Type 0} → ℕ → List X → Option X
last_of zero xs = None
last_of (suc n) xs = slice_get xs n

-- with so many entries there is the first that names the number; with none of them where no entry does
pub record IsFirst (entries : List EntryData) (n count : ℕ) : Type 0 where
  pub within : count ≤ length entries
  pub named : last_of count entries ≡ find (λ e. e.ino == n) entries

-- the table knows the first entry of each number below its end
abbrev pub KnowsFirst : List ℕ → List EntryData → Type 0
KnowsFirst first entries = (n : ℕ) → n < length first → IsFirst entries n (slice_index_or first n 0)

-- what a table says after the last of so many entries names the number
abbrev pub noted : ℕ → ℕ → ℕ
noted before count = if before == 0 then count else before

-- the lists have a place for so many of each
pub record HasPlaces (l : Lists) (room : ListingRoom) : Type 0 where
  pub held : room.held ≤ vec_capacity l.held
  pub files : room.files ≤ vec_capacity l.files
  pub index : room.index ≤ vec_capacity l.index
  pub blocks : room.blocks ≤ vec_capacity l.blocks
  pub entries : room.entries ≤ vec_capacity l.entries

-- The files' parts stand within the numbers of all files, which are no others. The table knows the first entry of a number,
-- and the sets are the held numbers and the judged files'. A place among the entries is a u32.
pub record IsKept (l : Lists) (first : List ℕ) (held_set judged_set : NumbersShown) (room : ListingRoom) : Type 0 where
  pub index_parts : list_all (λ f. is_within (length l.index.items) f.index) l.files.items ≡ true
  pub blocks_parts : list_all (λ f. is_within (length l.blocks.items) f.blocks) l.files.items ≡ true
  pub index_all : length l.index.items ≡ length (index_listed (listing_seen l))
  pub blocks_all : length l.blocks.items ≡ length (blocks_listed (listing_seen l))
  pub knows : KnowsFirst first l.entries.items
  pub held : HasJust l.held.items held_set
  pub judged : HasJust (map (λ f. f.ino) l.files.items) judged_set
  pub held_room : room.held ≤ held_set.room
  pub judged_room : room.files ≤ judged_set.room
  pub small : room.entries < 2 ^ 32
  pub places : HasPlaces l room
