-- What stands in the room of a judgement.
use Rattle.std.specs.Prelude.{ℕ, ◌≡◌, ◌+◌, ◌*◌, ◌<◌, ◌≤◌, Bool, true, not, if◌then◌else◌, ⊤, List, [], map, length, take, drop, count_by, Option, None, Some, is_some, slice_get, vec_len, vec_capacity, MatchOption, MatchResult, Result, Ok, Err}
use Rattle.std.specs.List.{flat_map}
use Rattle.std.specs.Option.{option_and_then, option_map_or}
use Rattle.trio_rights.specs.declared.kind.Kind.{Kind}
use Rattle.trio_rights.specs.ByKind.{is_directory}
use Rattle.trio_rights.specs.Bundle.{bundle_pages}
use Rattle.trio_lists.specs.Lists.{In}
use Rattle.trio_lease.specs.Bundles.{Bundled}
use Rattle.trio_lease.specs.Views.{bundle_in}
use Rattle.trio_layout.specs.declared.body.Body.{Body}
use Rattle.trio_layout.specs.declared.range.CoreRange.{CoreRange}
use Rattle.trio_layout.specs.Range.{core_count}
use Rattle.trio_layout.specs.Core.{page_of, Location}
use Rattle.trio_layout.specs.Chain.{index_count}
use Rattle.trio_layout.specs.Index.{index_of, IsIndexPage}
use Rattle.trio_layout.specs.Entries.{Listed, entries_on}
use Rattle.trio_layout.specs.Survey.{FileRead}
use Rattle.trio_layout.specs.Case.{bundle_core}
use Rattle.trio_case.specs.Cases.{CaseShown, case_in}
use Rattle.trio_case.specs.Places.{bytes_at, number_at}
use Rattle.trio_case.specs.Order.{in_order, place_of, AreRising}
use Rattle.trio_case.specs.Reading.{listed_seen, AreNamed}
use Rattle.trio_case.specs.Memory.{size_of, writes_directory, IsWithin}
use Rattle.trio_case.specs.declared.size.BundleSize.{BundleSize}
use Rattle.trio_case.specs.declared.room.PageRoom.{PageRoom}
use Rattle.trio_case.specs.declared.entries.DirEntry.{DirEntry}
use Rattle.trio_case.specs.declared.kept.KeptPages.{KeptPages}
use Rattle.trio_case.specs.declared.kept.KeptPage.{KeptPage}
use Rattle.trio_case.specs.declared.kept.KeptIndex.{KeptIndex}
use Rattle.trio_case.specs.declared.kept.Span.{Span}

-- the part of a list that a span names
abbrev pub part : {X : Type 0} → Span → List X → List X
part s xs = take s.len (drop s.from xs)

-- the page of the bundle with this number; None where it is none of the bundle's
abbrev pub kept_page : KeptPages → ℕ → Option KeptPage
kept_page kept page = option_and_then (λ at. slice_get kept.pages.items at) (place_of page kept.order.items)

-- the entries of a directory block that was read; a bad one has none
abbrev pub entries_said : List (List ℕ) → List DirEntry → Result Span Location → List Listed
entries_said names entries (Ok s) = map (listed_seen names) (part s entries)
entries_said names entries (Err place) = []

-- the entries that were read on a page as a directory block; none where it wasn't read, or is none of the bundle's
abbrev pub entries_kept : KeptPages → ℕ → List Listed
entries_kept kept page =
    option_map_or (entries_said kept.names.names kept.entries.items) (option_and_then (λ p. p.entries) (kept_page kept page)) []

-- the entries of the blocks of the file that was read last; what is no directory has none
abbrev pub entries_in_room : PageRoom → Kind → List Listed
entries_in_room room kind = if is_directory kind then flat_map (entries_kept room.kept) room.blocks.items else []

-- the file that was read last, of this kind and body
abbrev pub file_in_room : PageRoom → Kind → Body → FileRead
file_in_room room kind b = record {
  body = b;
  chain = record { index = room.index.items; blocks = room.blocks.items };
  entries = entries_in_room room kind;
}

-- how many pages weren't read yet as directory blocks
abbrev pub unread_blocks : KeptPages → ℕ
unread_blocks kept = count_by (λ p. not (is_some p.entries)) kept.pages.items

-- how many pages weren't read yet as index pages
abbrev pub unread_index : KeptPages → ℕ
unread_index kept = count_by (λ p. not (is_some p.index)) kept.pages.items

-- how many looks at pages the judgement may still make
abbrev pub looks_left : PageRoom → ℕ
looks_left room = unread_blocks room.kept + unread_index room.kept

-- there are places for so many pages
pub record HasPagePlaces (count : ℕ) (kept : KeptPages) : Type 0 where
  pub order : count ≤ vec_capacity kept.order
  pub pages : count ≤ vec_capacity kept.pages

-- there are places for the pages of a bundle of this size and for whatever they may say, of which nothing was read
pub record HasReadPlaces (size : BundleSize) (kept : KeptPages) : Type 0 where
  pub places : HasPagePlaces size.pages kept
  pub entries : size.lists ≡ true → 16 * size.pages ≤ vec_capacity kept.entries
  pub numbers : 511 * size.pages ≤ vec_capacity kept.numbers
  pub names : size.lists ≡ true → 16 * size.pages ≤ kept.names.room
  pub no_entries : vec_len kept.entries ≡ 0
  pub no_numbers : vec_len kept.numbers ≡ 0
  pub no_names : length kept.names.names ≡ 0

-- there is a place for whatever the pages may say that weren't read yet: 511 numbers of an index page and, where directories are
-- read, 16 entries of a directory block with their names
pub record HasPlaces (lists : Bool) (kept : KeptPages) : Type 0 where
  pub numbers : vec_len kept.numbers + 511 * unread_index kept ≤ vec_capacity kept.numbers
  pub entries : lists ≡ true → vec_len kept.entries + 16 * unread_blocks kept ≤ vec_capacity kept.entries
  pub names : lists ≡ true → length kept.names.names + 16 * unread_blocks kept ≤ kept.names.room

-- there is a place for whatever the pages may say, for the chain of any file, and for a mark of each name
pub record HasSpace (k : CaseShown) (room : PageRoom) : Type 0 where
  pub pages : HasPlaces (writes_directory k.bundle) room.kept
  pub index : index_count (core_count k.range) ≤ vec_capacity room.index
  pub blocks : core_count k.range ≤ vec_capacity room.blocks
  pub named : writes_directory k.bundle ≡ true → length room.kept.names.names + 16 * unread_blocks room.kept ≤ length room.named

-- the kept entries of a directory block are those that its bytes list, and each has one of the names
pub record SaysEntries (inodes no : ℕ) (names : List (List ℕ)) (entries : List DirEntry) (bytes : List ℕ) (s : Span) : Type 0 where
  pub within : s.from + s.len ≤ length entries
  pub named : AreNamed names (part s entries)
  pub says : entries_on inodes no bytes ≡ Ok (map (listed_seen names) (part s entries))

-- what is kept of a directory block is what its bytes list: its entries, or its first bad slot
abbrev pub SaysBlock : ℕ → ℕ → List (List ℕ) → List DirEntry → List ℕ → Result Span Location → Type 0
SaysBlock inodes page names entries bytes read =
    MatchResult read (SaysEntries inodes page names entries bytes) (λ place. entries_on inodes page bytes ≡ Err place)

-- what is kept of an index page is what its bytes spell
pub record SaysIndex (range : CoreRange) (numbers : List ℕ) (bytes : List ℕ) (i : KeptIndex) : Type 0 where
  pub within : i.numbers.from + i.numbers.len ≤ length numbers
  pub count : i.numbers.len ≡ i.used
  pub few : i.used ≤ 511
  pub spells : IsIndexPage i.used i.last range bytes (record { numbers = part i.numbers numbers; next = i.next })
  pub says : index_of i.used i.last range bytes ≡ Some (record { numbers = part i.numbers numbers; next = i.next })

-- What is kept of a page: where it stands in the bundle, and of its bytes what they say as a directory block and as an
-- index page, if they were read as such.
pub record IsKept (k : CaseShown) (kept : KeptPages) (p : KeptPage) : Type 0 where
  pub bytes : List ℕ
  pub stands : bytes_at k.bundle p.place ≡ Some bytes
  pub here : page_of (bundle_core (case_in k)) p.no ≡ Some bytes
  pub entries : MatchOption p.entries ⊤ (SaysBlock k.inodes p.no kept.names.names kept.entries.items bytes)
  pub index : MatchOption p.index ⊤ (SaysIndex k.range kept.numbers.items bytes)

-- the pages of the bundle stand in the order of their numbers, and what is kept of each is true of the case
pub record KeepsPages (k : CaseShown) (kept : KeptPages) : Type 0 where
  pub order : kept.order.items ≡ in_order (bundle_pages (bundle_in k.bundle))
  pub rising : AreRising kept.order.items
  pub numbered : (page : ℕ) → MatchOption (kept_page kept page) (page_of (bundle_core (case_in k)) page ≡ None) (λ p. p.no ≡ page)
  pub each : (at : ℕ) → MatchOption (slice_get kept.pages.items at) ⊤ (IsKept k kept)

-- What is kept in the room is true of the case, and there is space for the rest.
pub record Keeps (k : CaseShown) (room : PageRoom) : Type 0 where
  pub pages : KeepsPages k room.kept
  pub space : HasSpace k room
  pub first : 0 < k.range.first

-- a page of which nothing was read yet
pub record IsUnread (b : Bundled) (p : KeptPage) : Type 0 where
  pub place : number_at b p.place ≡ Some p.no
  pub entries : p.entries ≡ None
  pub index : p.index ≡ None

-- each page knows its place among these numbers
abbrev pub AreCountedIn : List ℕ → List KeptPage → Type 0
AreCountedIn numbers pages = (p : KeptPage) → In p pages → slice_get numbers p.nth ≡ Some p.no

-- A room made for this case, in which nothing was read yet. It goes by the numbers of the bundle's pages, whatever
-- their bytes are.
pub record IsRoomFor (k : CaseShown) (room : PageRoom) : Type 0 where
  pub order : room.kept.order.items ≡ in_order (bundle_pages (bundle_in k.bundle))
  pub numbers : map (λ p. p.no) room.kept.pages.items ≡ room.kept.order.items
  pub each : (p : KeptPage) → In p room.kept.pages.items → IsUnread k.bundle p
  pub space : HasSpace k room

-- There is memory for what is read of this case, whatever its pages say then. It goes by the size of the bundle and the count of
-- core pages.
pub record HasPageMemory (k : CaseShown) (room : PageRoom) : Type 0 where
  pub kept : HasReadPlaces (size_of k.bundle) room.kept
  pub index : index_count (core_count k.range) ≤ vec_capacity room.index
  pub blocks : core_count k.range ≤ vec_capacity room.blocks
  pub named : writes_directory k.bundle ≡ true → 16 * length (bundle_pages (bundle_in k.bundle)) ≤ length room.named

-- memory that was made for a size of a bundle and so large a core is so for each case of no larger bundle, and of just so large a core
abbrev pub IsPageMemory : BundleSize → ℕ → PageRoom → Type 0
IsPageMemory size core room = (k : CaseShown) → IsWithin k.bundle size → core_count k.range ≡ core → HasPageMemory k room
