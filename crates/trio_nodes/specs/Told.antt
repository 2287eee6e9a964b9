-- The data blocks that a release tells, and the pages that were handed in for them.
use Rattle.std.specs.Prelude.{ℕ, List, [], Option, slice_get}
use Rattle.std.specs.Option.{option_map_or}
use Rattle.trio_nodes.specs.Handed.{Handed, all_pages}
use Rattle.trio_nodes.specs.declared.entry.HandedPage.{HandedPage}
use Rattle.trio_nodes.specs.declared.raw.PlacedBlock.{PlacedBlock}
use Rattle.trio_nodes.specs.declared.raw.RawBlock.{RawBlock}

-- a data block of a release: its file, its position in it, counted from 0, and its bytes
pub record ToldBlock : Type 0 where
  pub ino : ℕ
  pub at : ℕ
  pub bytes : List ℕ

-- a bundle as it was handed in, and the blocks that are told
pub record ToldBundle : Type 0 where
  pub handed : Handed
  pub blocks : List ToldBlock

-- the page at a place of all that were handed in
abbrev pub page_in : Handed → ℕ → Option HandedPage
page_in h place = slice_get (all_pages h) place

-- a block with the bytes of its page; with none where there is no page
abbrev pub block_in : Handed → PlacedBlock → ToldBlock
block_in h b = record { ino = b.ino; at = b.at; bytes = option_map_or (λ p. p.bytes) (page_in h b.place) [] }

-- a block as it is looked at
abbrev pub block_told : RawBlock → ToldBlock
block_told b = record { ino = b.ino; at = b.at; bytes = b.bytes.now }
