-- Which pages a survey reads of a file, and cores with other pages.
use Rattle.std.specs.Prelude.{◌≡◌, ℕ, List, ◌++◌, Option, Ok, if◌then◌else◌}
use Rattle.trio_rights.specs.declared.kind.Kind.{Kind}
use Rattle.trio_rights.specs.ByKind.{is_directory}
use Rattle.trio_lists.specs.Lists.{In}
use Rattle.trio_layout.specs.Core.{Core, page_of}
use Rattle.trio_layout.specs.Entries.{Listed}
use Rattle.trio_layout.specs.Survey.{Met, Pick, FileRead, file_of, survey}
use Rattle.trio_layout.specs.Accept.{with_bodies}

-- the pages that are read of a file of this kind: its index pages, and a directory's blocks
abbrev pub pages_read : Kind → FileRead → List ℕ
pages_read kind f = if is_directory kind then f.chain.index ++ f.chain.blocks else f.chain.index

-- the core with other pages; its root, range and count of inode numbers are the same
abbrev pub with_other : Core → List (Option (List ℕ)) → Core
with_other core pages = record { pages = pages; root = core.root; range = core.range; inodes = core.inodes }

-- the pages that are read of these files, as core a has them, are the same in core b
abbrev pub AgreeOn : Core → Core → List Met → Type 0
AgreeOn a b files = (m : Met) (f : FileRead) (p : ℕ) → In m files → file_of a m ≡ Ok f → In p (pages_read m.kind f) → page_of b p ≡ page_of a p

-- an entry of a directory, with the body that is picked for it in place of the bytes in its slot
abbrev pub picked_entry : Pick → ℕ → Listed → Listed
picked_entry pick directory l = record {
  entry = l.entry;
  page = l.page;
  slot = l.slot;
  body = pick directory l.page l.slot l.entry.ino l.body;
}

-- the core with the body that is picked for each file met at the file's place
abbrev pub with_picked_bodies : Core → Pick → Core
with_picked_bodies core pick = with_other core (with_bodies (survey core pick) core.pages)
