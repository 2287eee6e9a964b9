-- A bundle as it was handed in, and how it is kept: the pages of all its files stand in one list, so that its memory goes by
-- four counts and not by how the pages are shared out.
use Rattle.std.specs.Prelude.{ℕ, ◌+◌, ◌≤◌, List, [], ◌∷◌, ◌++◌, take, drop, length}
use Rattle.std.specs.List.{flat_map, sum_by}
use Rattle.trio_rights.specs.declared.kind.Kind.{Kind}
use Rattle.trio_nodes.specs.declared.entry.HandedHead.{HandedHead}
use Rattle.trio_nodes.specs.declared.entry.HandedPage.{HandedPage}

-- a file that was lent for writing, as it was handed in
pub record HandedFile : Type 0 where
  pub ino : ℕ
  pub kind : Kind
  pub body : List ℕ
  pub index : List HandedPage
  pub blocks : List HandedPage

-- its write leases, the inode numbers of its holds, its allotted pages and its inode numbers
pub record Handed : Type 0 where
  pub writes : List HandedFile
  pub holds : List ℕ
  pub pages : List HandedPage
  pub numbers : List ℕ

-- all its pages: of each file its index pages and its blocks, and then the allotted ones
abbrev pub all_pages : Handed → List HandedPage
all_pages h = flat_map (λ f. f.index ++ f.blocks) h.writes ++ h.pages

-- a file without its pages
abbrev pub head_of : HandedFile → HandedHead
head_of f = record { ino = f.ino; kind = f.kind; body = f.body; index = length f.index; blocks = length f.blocks }

-- how many pages a file has
abbrev pub head_pages : HandedHead → ℕ
head_pages h = h.index + h.blocks

-- a file, with the first of these pages
abbrev pub file_from : HandedHead → List HandedPage → HandedFile
file_from h pages = record { ino = h.ino; kind = h.kind; body = h.body; index = take h.index pages; blocks = take h.blocks (drop h.index pages) }

-- files, one after another, with these pages
abbrev pub files_from : List HandedHead → List HandedPage → List HandedFile
files_from [] pages = []
files_from (h ∷ hs) pages = file_from h pages ∷ files_from hs (drop (head_pages h) pages)

-- the pages that are left
abbrev pub pages_left : List HandedHead → List HandedPage → List HandedPage
pages_left [] pages = pages
pages_left (h ∷ hs) pages = pages_left hs (drop (head_pages h) pages)

-- what is kept so
abbrev pub handed_from : List HandedHead → List ℕ → List HandedPage → List ℕ → Handed
handed_from heads holds pages numbers = record { writes = files_from heads pages; holds = holds; pages = pages_left heads pages; numbers = numbers }

-- there are all pages of these files
abbrev pub HasPages : List HandedHead → List HandedPage → Type 0
HasPages heads pages = sum_by head_pages heads ≤ length pages
