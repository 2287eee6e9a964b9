-- Blocks by the places of their pages. Cited by private functions alone.
use Rattle.std.specs.Prelude.{ℕ, List, map}
use Rattle.trio_nodes.specs.Told.{block_in, ToldBlock}
use Rattle.trio_nodes.specs.declared.raw.PlacedBlock.{PlacedBlock}
use Rattle.trio_case.specs.Cases.{CaseShown}
use Rattle.trio_entries.specs.Handed.{handed_in}
use Rattle.trio_entries.specs.declared.blocks.Pages.{Pages}
use Rattle.trio_entries.specs.declared.blocks.Pages.TheVariants.{Listed, Lent}

-- the blocks, each with the bytes that the case's bundle has for its page
abbrev pub blocks_in : CaseShown → List PlacedBlock → List ToldBlock
blocks_in k blocks = map (block_in (handed_in k.bundle)) blocks

-- the page numbers of a file's blocks
abbrev pub numbers_of : Pages → List ℕ
numbers_of (Listed pages) = pages.now
numbers_of (Lent lease) = map (λ p. p.no.0) lease.now.stands.blocks
