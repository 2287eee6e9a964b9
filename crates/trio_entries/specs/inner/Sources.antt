-- Pages of a bundle. Cited by private functions alone.
use Rattle.std.specs.Prelude.{ℕ, List, ◌++◌, map}
use Rattle.trio_lease.specs.Shown.{LentFile}
use Rattle.trio_nodes.specs.declared.entry.HandedPage.{HandedPage}
use Rattle.trio_entries.specs.declared.handed.PageSeen.{PageSeen}
use Rattle.trio_entries.specs.declared.handed.Source.{Source}
use Rattle.trio_entries.specs.declared.handed.Source.TheVariants.{Index, Blocks, Fresh}
use Rattle.trio_entries.specs.Handed.{block_in, fresh_in, index_in}

-- a page as it is handed in
abbrev pub page_seen : PageSeen → HandedPage
page_seen p = record { no = p.no; bytes = p.page.now; touched = p.touched }

-- all pages of a source, in its order
abbrev pub pages_of : Source → List HandedPage
pages_of (Index lease) = map index_in lease.now.stands.index
pages_of (Blocks lease) = map block_in lease.now.stands.blocks
pages_of (Fresh pages) = map fresh_in pages.now

-- their numbers
abbrev pub numbers_in : Source → List ℕ
numbers_in (Index lease) = map (λ p. p.no.0) lease.now.stands.index
numbers_in (Blocks lease) = map (λ p. p.no.0) lease.now.stands.blocks
numbers_in (Fresh pages) = map (λ p. p.no.0) pages.now

-- the numbers of the pages of a written file: of its index pages, and then of its blocks
abbrev pub file_numbers : LentFile → List ℕ
file_numbers f = map (λ p. p.no.0) f.stands.index ++ map (λ p. p.no.0) f.stands.blocks
