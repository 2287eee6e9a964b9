-- The index pages and the block numbers of a file.
use Rattle.std.specs.Prelude.{ℕ, suc, zero, ◌+◌, ◌-◌, ◌/◌, ◌==◌, Bool, min, List, [], ◌∷◌, ◌++◌, Result, Ok}
use Rattle.std.specs.Option.{option_and_then}
use Rattle.trio_layout.specs.declared.body.Body.{Body}
use Rattle.trio_layout.specs.Body.{block_count}
use Rattle.trio_layout.specs.Index.{Index, index_of}
use Rattle.trio_lists.specs.Lists.{result_map, result_then, there_or}
use Rattle.trio_layout.specs.Core.{Core, Location, at_page, page_of}

-- the numbers of the index pages, and of the blocks
pub record Chain : Type 0 where
  pub index : List ℕ
  pub blocks : List ℕ

-- a chain with one index page more in front of it
abbrev pub with_index : ℕ → Index → Chain → Chain
with_index page i c = record { index = page ∷ c.index; blocks = i.numbers ++ c.blocks }

-- one index page of a chain, or that it can't be read
abbrev pub index_page : Core → ℕ → ℕ → Bool → Result Index Location
index_page core page used last = there_or (at_page page) (option_and_then (index_of used last core.range) (page_of core page))

-- So many index pages from `page` on, for so many blocks. The fault is the first index page that can't be read.
abbrev pub chain_from : Core → ℕ → ℕ → ℕ → Result Chain Location
chain_from core zero blocks page = Ok (record { index = []; blocks = [] })
chain_from core (suc more) blocks page =
    result_then (λ i. result_map (with_index page i) (chain_from core more (blocks - 511) i.next))
    (index_page core page (min blocks 511) (more == 0))

-- how many index pages name so many blocks
abbrev pub index_count : ℕ → ℕ
index_count blocks = (blocks + 510) / 511

-- the chain of a body
abbrev pub chain_of : Core → Body → Result Chain Location
chain_of core b = let blocks = block_count b.size in chain_from core (index_count blocks) blocks b.head
