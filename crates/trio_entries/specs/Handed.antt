-- A bundle as it is handed in, byte for byte.
use Rattle.std.specs.Prelude.{false, List, ◌++◌, map}
use Rattle.trio_lease.specs.declared.parts.LentPage.{LentPage}
use Rattle.trio_lease.specs.declared.parts.FreshParts.{FreshParts}
use Rattle.trio_lease.specs.Shown.{LentFile, Shown}
use Rattle.trio_lease.specs.Bundles.{Bundled}
use Rattle.trio_nodes.specs.declared.entry.HandedPage.{HandedPage}
use Rattle.trio_nodes.specs.Handed.{HandedFile, Handed}

-- a lent block, with its mark
abbrev pub block_in : LentPage → HandedPage
block_in p = record { no = p.no.0; bytes = p.page; touched = p.touched }

-- an index page, which is never marked
abbrev pub index_in : LentPage → HandedPage
index_in p = record { no = p.no.0; bytes = p.page; touched = false }

-- an allotted page, which is no lent block
abbrev pub fresh_in : FreshParts → HandedPage
fresh_in p = record { no = p.no.0; bytes = p.page; touched = false }

-- a file as its lease shows it
abbrev pub file_in : Shown → HandedFile
file_in f = record { ino = f.ino; kind = f.kind; body = f.body; index = map index_in f.index; blocks = map block_in f.blocks }

-- the pages of a written file: its index pages, and then its blocks
abbrev pub file_pages : LentFile → List HandedPage
file_pages f = map index_in f.stands.index ++ map block_in f.stands.blocks

-- what a bundle has, each as it stands in it and in the bundle's order
abbrev pub handed_in : Bundled → Handed
handed_in b = record {
  writes = map (λ f. file_in f.stands) b.writes;
  holds = map (λ h. h.ino) b.holds;
  pages = map fresh_in b.pages;
  numbers = map (λ n. n.no) b.inodes;
}
