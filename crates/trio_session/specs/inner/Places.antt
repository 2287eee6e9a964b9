-- Where pages in hand stand, and the chain of a file by the places of its pages. Cited by private functions and invariants alone.
use Rattle.std.specs.Prelude.{◌≡◌, ⊤, ℕ, ◌+◌, ◌*◌, ◌<◌, ◌≤◌, List, [], ◌++◌, map, take, length, min, slice_get, slice_index_or, Option, Some, IsTrue, vec_capacity, ◌^◌}
use Rattle.std.specs.Option.{option_map, option_and_then, option_map_or}
use Rattle.trio_rights.specs.Sheets.{Sheet}
use Rattle.trio_lists.specs.Lists.{In, are_new}
use Rattle.trio_layout.specs.Body.{block_count}
use Rattle.trio_layout.specs.Chain.{Chain, index_count}
use Rattle.trio_lease.specs.Shown.{Shown, LentFile}
use Rattle.trio_lease.specs.Views.{lent_sheet, fresh_sheet}
use Rattle.trio_lease.specs.declared.parts.FreshParts.{FreshParts}
use Rattle.trio_desk.specs.Out.{Parcel, file_numbers, lent_numbers, page_numbers}
use Rattle.trio_rights.specs.declared.kind.Kind.TheVariants.{Regular}
use Rattle.trio_layout.specs.Entries.{body_in_slot}
use Rattle.trio_session.specs.Layout.{Home, InSlot as HomeInSlot, Leased as HomeLeased, page_in, size_in}
use Rattle.trio_session.specs.declared.laid.PagePlace.{PagePlace}
use Rattle.trio_session.specs.declared.laid.PagePlace.TheVariants.{Index, Block, Fresh}
use Rattle.trio_session.specs.declared.laid.FilePlace.{FilePlace}
use Rattle.trio_session.specs.declared.laid.FilePlace.TheVariants.{Leased, InSlot}
use Rattle.trio_session.specs.declared.laid.Laid.{Laid}

-- the page at a place; None where there is none
abbrev pub sheet_at : Parcel → PagePlace → Option Sheet
sheet_at b (Index file at) = option_map lent_sheet (option_and_then (λ f. slice_get f.stands.index at) (slice_get b.writes file))
sheet_at b (Block file at) = option_map lent_sheet (option_and_then (λ f. slice_get f.stands.blocks at) (slice_get b.writes file))
sheet_at b (Fresh at) = option_map fresh_sheet (slice_get b.pages at)

-- its number
abbrev pub number_at : Parcel → PagePlace → ℕ
number_at b place = option_map_or (λ x. x.page) (sheet_at b place) 0

-- the page of this number is at this place
pub record IsAt (b : Parcel) (place : PagePlace) (n : ℕ) : Type 0 where
  pub sheet : Sheet
  pub there : sheet_at b place ≡ Some sheet
  pub number : sheet.page ≡ n

-- No page stands at two places, and no file either.
pub record AreApart (b : Parcel) : Type 0 where
  pub pages : (p q : PagePlace) (x y : Sheet) → sheet_at b p ≡ Some x → sheet_at b q ≡ Some y → x.page ≡ y.page → p ≡ q
  pub files : IsTrue (are_new [] (file_numbers b.writes))

-- the number of an allotted page, by its place
abbrev pub fresh_number : List FreshParts → ℕ → ℕ
fresh_number pages at = slice_index_or (page_numbers pages) at 0

-- the chain of a file: the first of the lent pages, and then allotted ones
abbrev pub chain_laid : Shown → List FreshParts → Laid → Chain
chain_laid f pages l = record {
  index = take l.index_kept (lent_numbers f.index) ++ map (fresh_number pages) l.index_more.items;
  blocks = take l.blocks_kept (lent_numbers f.blocks) ++ map (fresh_number pages) l.blocks_more.items;
}

-- The places of a file's pages are there.
pub record IsLaid (f : Shown) (pages : List FreshParts) (l : Laid) : Type 0 where
  pub index : l.index_kept ≤ length f.index
  pub blocks : l.blocks_kept ≤ length f.blocks
  pub narrow_index : l.index_kept + length l.index_more.items < 2 ^ 64
  pub narrow_blocks : l.blocks_kept + length l.blocks_more.items < 2 ^ 64
  pub index_there : (at : ℕ) → In at l.index_more.items → at < length pages
  pub blocks_there : (at : ℕ) → In at l.blocks_more.items → at < length pages

-- up to how many blocks it may come
abbrev pub room_laid : Laid → ℕ
room_laid l = min (l.blocks_kept + vec_capacity l.blocks_more) (511 * (l.index_kept + vec_capacity l.index_more))

-- a file that was made, as a lease would show it: with the body in its slot, and no page that was lent
abbrev pub slot_file : List ℕ → Shown
slot_file body = record { lib = record { 0 = 0 }; ino = 0; kind = Regular; entry = 0; body = body; index = []; blocks = [] }

-- the file at a place, as it stands; None where there is none
abbrev pub shown_at : Parcel → FilePlace → Option Shown
shown_at b (Leased at) = option_map (λ f. f.stands) (slice_get b.writes at)
shown_at b (InSlot page slot) = option_map (λ x. slot_file (body_in_slot slot x.bytes)) (sheet_at b page)

-- a page has 16 slots
abbrev pub IsSlot : FilePlace → Type 0
IsSlot (Leased at) = ⊤
IsSlot (InSlot page slot) = slot < 16

-- the file at a place stands so, with its pages laid so
pub record IsFile (b : Parcel) (file : FilePlace) (l : Laid) : Type 0 where
  pub shown : Shown
  pub there : shown_at b file ≡ Some shown
  pub slot : IsSlot file
  pub laid : IsLaid shown b.pages l

-- its chain
abbrev pub chain_at : Parcel → FilePlace → Laid → Chain
chain_at b file l = option_map_or (λ f. chain_laid f b.pages l) (shown_at b file) (record { index = []; blocks = [] })

-- its body
abbrev pub body_at : Parcel → FilePlace → List ℕ
body_at b file = option_map_or (λ f. f.body) (shown_at b file) []

-- the inode number of a written file
abbrev pub ino_at : Parcel → ℕ → ℕ
ino_at b at = option_map_or (λ f. f.stands.ino) (slice_get b.writes at) 0

-- where its body stands, by numbers
abbrev pub home_at : Parcel → FilePlace → Home
home_at b (Leased at) = HomeLeased (ino_at b at)
home_at b (InSlot page slot) = HomeInSlot (number_at b page) slot

-- the page of its slot is whole
abbrev pub IsWholeAt : Parcel → FilePlace → Type 0
IsWholeAt b (Leased at) = ⊤
IsWholeAt b (InSlot page slot) = length (page_in b (number_at b page)) ≡ 4096

-- the place of its write lease; of a file that was made it says nothing
abbrev pub lease_of : FilePlace → ℕ
lease_of (Leased at) = at
lease_of (InSlot page slot) = 0

-- It has as many blocks as its size says, and as many index pages as these take.
pub record HasChain (b : Parcel) (file : FilePlace) (l : Laid) : Type 0 where
  pub blocks : length (chain_at b file l).blocks ≡ block_count (size_in (body_at b file))
  pub index : length (chain_at b file l).index ≡ index_count (block_count (size_in (body_at b file)))
