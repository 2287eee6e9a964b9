-- The layout of an honest library's edits: which bytes of the pages in hand change, and how, when a file grows, is cut, is written or is
-- guarded, and when a slot of a directory is filled, cleared or gets another name. Nothing else of what is in hand changes.
use Rattle.std.specs.Prelude.{Bool, ℕ, zero, suc, true, ◌+◌, ◌-◌, ◌*◌, ◌/◌, ◌%◌, ◌==◌, List, [], ◌∷◌, ◌++◌, map, take, drop, length, max, min, slice_index, slice_range, if◌then◌else◌}
use Rattle.std.specs.Int.{w32, w64}
use Rattle.std.specs.List.{find}
use Rattle.std.specs.Option.{option_map_or}
use Rattle.trio_page.specs.Field.{number_at, with_number, with_part, zeros}
use Rattle.trio_rights.specs.Bundle.{bundle_sheets}
use Rattle.trio_layout.specs.Body.{block_count, guard_byte}
use Rattle.trio_layout.specs.Chain.{Chain, index_count}
use Rattle.trio_layout.specs.Slot.{entry_bytes}
use Rattle.trio_layout.specs.declared.slot.EntryPart.{EntryPart}
use Rattle.trio_lease.specs.Shown.{LentFile}
use Rattle.trio_lease.specs.declared.parts.LentPage.{LentPage}
use Rattle.trio_lease.specs.declared.parts.FreshParts.{FreshParts}
use Rattle.trio_desk.specs.Out.{Parcel}
use Rattle.trio_desk.specs.Ready.{bundle_of}

-- ---- the pages in hand, by their numbers

-- the bytes of the page of this number, lent or allotted; none where there is no such page
unfoldable pub page_in : Parcel → ℕ → List ℕ
page_in b n = option_map_or (λ x. x.bytes) (find (λ x. x.page == n) (bundle_sheets (bundle_of b))) []

-- an index page of this number has these bytes; no index page is marked
abbrev pub index_with : ℕ → List ℕ → LentPage → LentPage
index_with n bytes p = if p.no.0 == n then record p { page = bytes } else p

-- a block of this number has these bytes, and is marked as touched
abbrev pub block_with : ℕ → List ℕ → LentPage → LentPage
block_with n bytes p = if p.no.0 == n then record p { page = bytes; touched = true } else p

-- an allotted page of this number has these bytes
abbrev pub fresh_with : ℕ → List ℕ → FreshParts → FreshParts
fresh_with n bytes p = if p.no.0 == n then record p { page = bytes } else p

-- a file in which the page of this number has these bytes
abbrev pub file_with : ℕ → List ℕ → LentFile → LentFile
file_with n bytes f = record f {
  stands = record f.stands {
    index = map (index_with n bytes) f.stands.index;
    blocks = map (block_with n bytes) f.stands.blocks;
  };
}

-- what is in hand, where the page of this number has these bytes; a lent block is then marked as touched
unfoldable pub with_page : ℕ → List ℕ → Parcel → Parcel
with_page n bytes b = record b { writes = map (file_with n bytes) b.writes; pages = map (fresh_with n bytes) b.pages }

-- the same with one number of 8 bytes written into the page, from an offset on
abbrev pub with_number_in : ℕ → ℕ → ℕ → Parcel → Parcel
with_number_in n at value b = with_page n (with_number w64 at value (page_in b n)) b

-- the file of this inode number has this body
abbrev pub body_with : ℕ → List ℕ → LentFile → LentFile
body_with ino body f = if f.stands.ino == ino then record f { stands = record f.stands { body = body } } else f

-- what is in hand, where the file of this inode number has this body
unfoldable pub with_body : ℕ → List ℕ → Parcel → Parcel
with_body ino body b = record b { writes = map (body_with ino body) b.writes }

-- what is in hand, where the page of this number has these bytes from an offset on
abbrev pub with_part_in : ℕ → ℕ → List ℕ → Parcel → Parcel
with_part_in n at part b = with_page n (with_part at part (page_in b n)) b

-- Where the body of a file stands: with its write lease, by the file's inode number; or, of a file that the session made, in a slot of a
-- page of its directory.
pub data Home : Type 0 where
  Leased : (ino : ℕ) → Home
  InSlot : (page slot : ℕ) → Home

-- what is in hand, where the body that stands here has these 64 bytes
abbrev pub with_body_at : Home → List ℕ → Parcel → Parcel
with_body_at (Leased ino) body b = with_body ino body b
with_body_at (InSlot page slot) body b = with_part_in page (256 * slot + 192) body b

-- ---- slots

-- A slot is filled: its entry part and its body are written whole.
abbrev pub filled : ℕ → ℕ → EntryPart → List ℕ → Parcel → Parcel
filled page slot e body b = with_part_in page (256 * slot) (entry_bytes e ++ body) b

-- A slot is cleared: its inode number becomes zero, and the rest stays.
abbrev pub cleared : ℕ → ℕ → Parcel → Parcel
cleared page slot b = with_part_in page (256 * slot) (zeros 4) b

-- The entry in a slot gets another name: its entry part is written anew, and the body stays.
abbrev pub retitled : ℕ → ℕ → EntryPart → Parcel → Parcel
retitled page slot e b = with_part_in page (256 * slot) (entry_bytes e) b

-- ---- bodies

-- the size and the first index page that a body says
abbrev pub size_in : List ℕ → ℕ
size_in body = number_at w64 16 body

abbrev pub head_in : List ℕ → ℕ
head_in body = number_at w32 12 body

-- a body with another head and size
abbrev pub body_sized : ℕ → ℕ → List ℕ → List ℕ
body_sized head size body = with_number w64 16 size (with_number w32 12 head body)

-- a body with another guard
abbrev pub body_guarded : Bool → List ℕ → List ℕ
body_guarded on body = with_part 24 (guard_byte on ∷ []) body

-- ---- writing

-- The bytes of block k with what falls on it of bytes that are written from offset `at` of the file on. Block k begins at 4096 * k.
abbrev pub written_on : ℕ → ℕ → List ℕ → List ℕ → List ℕ
written_on k at new page =
    let from = max at (4096 * k) in let end = min (at + length new) (4096 * k + 4096) in
    with_part (from - 4096 * k) (slice_range new (from - at) (end - at)) page

-- how many blocks the bytes fall on; no byte falls on none
abbrev pub blocks_under : ℕ → ℕ → ℕ
blocks_under at count = if count == 0 then 0 else block_count (at + count) - at / 4096

-- one block of a file of these blocks, written
abbrev pub put_block : List ℕ → ℕ → ℕ → List ℕ → Parcel → Parcel
put_block blocks k at new b = let n = slice_index blocks k in with_page n (written_on k at new (page_in b n)) b

-- so many of its blocks, from block k on
abbrev pub put_blocks : List ℕ → ℕ → ℕ → ℕ → List ℕ → Parcel → Parcel
put_blocks blocks k zero at new b = b
put_blocks blocks k (suc more) at new b = put_blocks blocks (suc k) more at new (put_block blocks k at new b)

-- Bytes written into a file of these blocks, from an offset on: each block on which some fall, and no other page.
abbrev pub put_bytes : List ℕ → ℕ → List ℕ → Parcel → Parcel
put_bytes blocks at new b = put_blocks blocks (at / 4096) (blocks_under at (length new)) at new b

-- ---- growth

-- how many index pages a growth from b to c blocks takes
abbrev pub new_index : ℕ → ℕ → ℕ
new_index b c = index_count c - index_count b

-- and how many pages in all, blocks and index pages
abbrev pub growth : ℕ → ℕ → ℕ
growth b c = (c - b) + new_index b c

-- the chain with the pages that a growth to c blocks takes: the first of them are index pages, the others blocks
abbrev pub chain_grown : Chain → ℕ → List ℕ → Chain
chain_grown chain c taken =
    let more = new_index (length chain.blocks) c in
    record { index = chain.index ++ take more taken; blocks = chain.blocks ++ drop more taken }

-- each of these index pages names the one behind it
abbrev pub linked : List ℕ → Parcel → Parcel
linked [] b = b
linked (n ∷ []) b = b
linked (n ∷ (m ∷ rest)) b = linked (m ∷ rest) (with_number_in n 4088 m b)

-- the number of block k is written at its place along the chain: 511 to an index page
abbrev pub with_block_number : List ℕ → ℕ → ℕ → Parcel → Parcel
with_block_number index k number b = with_number_in (slice_index index (k / 511)) (8 * (k % 511)) number b

-- these are the numbers of the blocks from block k on
abbrev pub numbered : List ℕ → ℕ → List ℕ → Parcel → Parcel
numbered index k [] b = b
numbered index k (n ∷ rest) b = numbered index (suc k) rest (with_block_number index k n b)

-- how many bytes of its last block a file of this size gains by a growth: all up to the new size, as far as the block goes
abbrev pub gap : ℕ → ℕ → ℕ
gap old size = min (size - old) ((4096 - old % 4096) % 4096)

-- A file of this chain and body grows to a size, by the pages taken: the bytes between are zero, the new index pages are linked
-- behind the others, the new blocks are named, and the body has the new size and names the first index page.
abbrev pub grown_file : Home → Chain → List ℕ → ℕ → List ℕ → Parcel → Parcel
grown_file home chain body size taken b =
    let old = size_in body in
    let chain' = chain_grown chain (block_count size) taken in
    let zeroed = put_bytes chain.blocks old (zeros (gap old size)) b in
    let links = linked (drop (length chain.index - 1) chain'.index) zeroed in
    let named = numbered chain'.index (length chain.blocks) (drop (new_index (length chain.blocks) (block_count size)) taken) links in
    with_body_at home (body_sized (slice_index chain'.index 0) size body) named

-- ---- cutting

-- the chain of the first c blocks
abbrev pub chain_cut : Chain → ℕ → Chain
chain_cut chain c = record { index = take (index_count c) chain.index; blocks = take c chain.blocks }

-- the numbers of so many blocks, from block k on, become zero
abbrev pub unnamed : List ℕ → ℕ → ℕ → Parcel → Parcel
unnamed index k zero b = b
unnamed index k (suc more) b = unnamed index (suc k) more (with_block_number index k 0 b)

-- these index pages name none behind them
abbrev pub unlinked : List ℕ → Parcel → Parcel
unlinked [] b = b
unlinked (n ∷ rest) b = unlinked rest (with_number_in n 4088 0 b)

-- A file of this chain and body is cut to a size: the numbers of the blocks that are dropped become zero, and so does each link to
-- an index page that is dropped and the links of these; the body has the new size, and names no index page where no block is left.
abbrev pub cut_file : Home → Chain → List ℕ → ℕ → Parcel → Parcel
cut_file home chain body size b =
    let c = block_count size in
    let named = unnamed chain.index c (length chain.blocks - c) b in
    let links = unlinked (drop (index_count c - 1) chain.index) named in
    with_body_at home (body_sized (slice_index (chain_cut chain c).index 0) size body) links
