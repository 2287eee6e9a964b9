-- The indexes of directories that are lent for reading. Cited by a session's invariant and by private functions alone.
use Rattle.std.specs.Prelude.{◌≡◌, ℕ, ◌==◌, List, Option, Some, IsTrue}
use Rattle.std.specs.List.{find}
use Rattle.trio_rights.specs.declared.kind.Kind.TheVariants.{Directory}
use Rattle.trio_lists.specs.Lists.{In}
use Rattle.trio_lease.specs.Shown.{Shown}
use Rattle.trio_auxdir.specs.Directory.{Directory as Index}
use Rattle.trio_auxdir.specs.Slots.{is_directory_page, slots_of, NamesDiffer}
use Rattle.trio_session.specs.Seen.{dir_pages, every_number}
use Rattle.trio_session.specs.declared.indexes.IndexedDir.{IndexedDir}

-- the read lease on a file
abbrev pub lease_on : List Shown → ℕ → Option Shown
lease_on reads ino = find (λ f. f.ino == ino) reads

-- it is the index of this directory, as its lease shows it
pub record IsIndexOf (f : Shown) (d : Index) : Type 0 where
  pub inodes : d.inodes ≡ every_number
  pub slots : d.slots ≡ slots_of every_number (dir_pages f)

-- the index is that of a directory which is lent for reading
pub record IsIndexed (reads : List Shown) (d : IndexedDir) : Type 0 where
  pub lease : Shown
  pub there : lease_on reads d.ino ≡ Some lease
  pub directory : lease.kind ≡ Directory
  pub index : IsIndexOf lease d.dir

abbrev pub AreIndexed : List Shown → List IndexedDir → Type 0
AreIndexed reads dirs = (d : IndexedDir) → In d dirs → IsIndexed reads d

-- the slots of these pages are in the grammar, and their names are apart
pub record AreRead (pages : List (List ℕ)) : Type 0 where
  pub each : (page : List ℕ) → In page pages → IsTrue (is_directory_page every_number page)
  pub differ : NamesDiffer (slots_of every_number pages)

-- a directory that is lent for reading is in the grammar
abbrev pub MayBeRead : List Shown → ℕ → Type 0
MayBeRead reads ino = (f : Shown) → lease_on reads ino ≡ Some f → f.kind ≡ Directory → AreRead (dir_pages f)
