-- How an outline is kept: the numbers of the pages of all its files stand in one list. Cited by private functions alone.
use Rattle.std.specs.Prelude.{ℕ, ◌+◌, ◌≤◌, List, [], ◌∷◌, take, drop, length}
use Rattle.std.specs.List.{sum_by}
use Rattle.trio_lease.specs.Shown.{Shown}
use Rattle.trio_state.specs.Moves.{FileOutline, Outline}
use Rattle.trio_entries.specs.declared.outline.FileHead.{FileHead}

-- a file without the numbers of its pages
abbrev pub head_of : FileOutline → FileHead
head_of f = record { ino = f.ino; kind = f.kind; index = length f.index; blocks = length f.blocks }

-- the same, of a file as its lease shows it
abbrev pub head_in : Shown → FileHead
head_in f = record { ino = f.ino; kind = f.kind; index = length f.index; blocks = length f.blocks }

-- how many pages a file has
abbrev pub head_pages : FileHead → ℕ
head_pages h = h.index + h.blocks

-- a file, with the first of these pages
abbrev pub file_from : FileHead → List ℕ → FileOutline
file_from h pages = record { ino = h.ino; kind = h.kind; index = take h.index pages; blocks = take h.blocks (drop h.index pages) }

-- files, one after another, with these pages
abbrev pub files_from : List FileHead → List ℕ → List FileOutline
files_from [] pages = []
files_from (h ∷ hs) pages = file_from h pages ∷ files_from hs (drop (head_pages h) pages)

-- the pages that are left
abbrev pub pages_left : List FileHead → List ℕ → List ℕ
pages_left [] pages = pages
pages_left (h ∷ hs) pages = pages_left hs (drop (head_pages h) pages)

-- what is kept so
abbrev pub outline_from : List FileHead → List ℕ → List ℕ → List ℕ → Outline
outline_from heads holds pages numbers = record { writes = files_from heads pages; holds = holds; pages = pages_left heads pages; numbers = numbers }

-- there are all pages of these files
abbrev pub HasPages : List FileHead → List ℕ → Type 0
HasPages heads pages = sum_by head_pages heads ≤ length pages
