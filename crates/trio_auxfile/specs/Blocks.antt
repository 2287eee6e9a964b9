-- The index of a file: from the number of a block to its page, read from the bytes of the file's body and index pages.
use Rattle.std.specs.Prelude.{ℕ, ◌*◌, ◌/◌, ◌%◌, ◌^◌, ◌≤◌, ◌<◌, List, [], length, map, slice_index_or}
use Rattle.std.specs.Int.{w64}
use Rattle.trio_page.specs.Field.{number_at}
use Rattle.trio_lease.specs.declared.parts.LentPage.{LentPage}
use Rattle.trio_lease.specs.Shown.{Shown}
use Rattle.trio_lists.specs.Lists.{tabulated}
use Rattle.trio_layout.specs.Body.{block_count}

-- the number of block i, 511 to an index page
abbrev pub block_number : List (List ℕ) → ℕ → ℕ
block_number index i = number_at w64 (8 * (i % 511)) (slice_index_or index (i / 511) [])

-- The numbers of the first so many blocks, by a file's index pages in the order of its chain.
unfoldable pub block_index : ℕ → List (List ℕ) → List ℕ
block_index blocks index = tabulated (block_number index) blocks

-- how many blocks a body has, by its size
abbrev pub blocks_of : List ℕ → ℕ
blocks_of body = block_count (number_at w64 16 body)

-- the bytes of pages
abbrev pub bytes_of : List LentPage → List (List ℕ)
bytes_of pages = map (λ p. p.page) pages

-- the index of the file that a lease shows
abbrev pub index_of_lease : Shown → List ℕ
index_of_lease s = block_index (blocks_of s.body) (bytes_of s.index)

-- so many blocks are named in the index pages, each by a number of 32 bits. So it is where body and chain are in the grammar
pub record NamesBlocks (blocks : ℕ) (index : List (List ℕ)) : Type 0 where
  pub named : blocks ≤ 511 * length index
  pub narrow : (i : ℕ) → i < blocks → block_number index i < 2 ^ 32
