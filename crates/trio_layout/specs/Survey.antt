-- The files that are met from the root downward, level by level.
use Rattle.std.specs.Prelude.{ℕ, suc, zero, ◌==◌, List, [], ◌∷◌, ◌++◌, map, Option, None, Some, if◌then◌else◌, Result, Ok, Err}
use Rattle.std.specs.List.{flat_map, find}
use Rattle.std.specs.Option.{option_and_then}
use Rattle.trio_rights.specs.declared.kind.Kind.{Kind}
use Rattle.trio_rights.specs.declared.kind.Kind.TheVariants.{Directory}
use Rattle.trio_rights.specs.Row.{Row}
use Rattle.trio_layout.specs.declared.body.Body.{Body}
use Rattle.trio_layout.specs.Body.{body_of}
use Rattle.trio_lists.specs.Lists.{is_among, result_map, result_then, there_or}
use Rattle.trio_layout.specs.Core.{Core, Location, nowhere}
use Rattle.trio_layout.specs.Chain.{Chain, chain_of}
use Rattle.trio_layout.specs.Entries.{Listed, entries_of_kind}

-- a file that is met: what its directory says of it, where, and the bytes of its body
pub record Met : Type 0 where
  pub ino : ℕ
  pub kind : Kind
  pub parent : ℕ
  pub page : ℕ
  pub slot : ℕ
  pub body : List ℕ

-- what a file says: its body, its pages and, of a directory, its entries
pub record FileRead : Type 0 where
  pub body : Body
  pub chain : Chain
  pub entries : List Listed

-- a file of this body and chain, read with its entries
abbrev pub file_with : Core → Kind → Body → Chain → Result FileRead Location
file_with core kind b c = result_map (λ es. record { body = b; chain = c; entries = es }) (entries_of_kind core kind c.blocks)

-- A file that is met, read whole. Else the place where it leaves the grammar or a page is absent: none for its body, the
-- index page, the directory page or slot.
unfoldable pub file_of : Core → Met → Result FileRead Location
file_of core m =
    result_then (λ b. result_then (file_with core m.kind b) (chain_of core b))
    (there_or nowhere (body_of m.kind core.range m.body))

-- which body an entry has, by its directory, page, slot and number, and by the bytes in the slot
abbrev pub Pick : Type 0
Pick = ℕ → ℕ → ℕ → ℕ → List ℕ → List ℕ

-- the bytes in the slot
abbrev pub plain : Pick
plain directory page slot ino bytes = bytes

-- the file that an entry of a directory lists, with the body that is picked for it
abbrev pub met_in : Pick → ℕ → Listed → Met
met_in pick directory l = record {
  ino = l.entry.ino;
  kind = l.entry.kind;
  parent = directory;
  page = l.page;
  slot = l.slot;
  body = pick directory l.page l.slot l.entry.ino l.body;
}

-- the files that the entries of a directory list; none where it can't be read
abbrev pub children_in : Pick → ℕ → Result FileRead Location → List Met
children_in pick directory (Ok f) = map (met_in pick directory) f.entries
children_in pick directory (Err place) = []

-- the files that a file lists; none where it can't be read
abbrev pub children : Core → Pick → Met → List Met
children core pick m = children_in pick m.ino (file_of core m)

-- the root is inode number 1, and listed nowhere
abbrev pub root_of : Core → Met
root_of core = record { ino = 1; kind = Directory; parent = 0; page = 0; slot = 0; body = core.root }

-- the inode numbers of files
abbrev pub numbers : List Met → List ℕ
numbers files = map (λ m. m.ino) files

-- the files whose number is not among these, and not earlier in the list
abbrev pub first_listed : List ℕ → List Met → List Met
first_listed seen [] = []
first_listed seen (m ∷ ms) =
    if is_among m.ino seen then first_listed seen ms else m ∷ first_listed (seen ++ m.ino ∷ []) ms

-- how far a walk has come: the files whose entries have been met, and those whose entries come next
pub record Front : Type 0 where
  pub passed : List Met
  pub level : List Met

-- one level down: what the files of this level list, each number at its first listing
abbrev pub descend : (Met → List Met) → Front → Front
descend kids f = record {
  passed = f.passed ++ f.level;
  level = first_listed (numbers (f.passed ++ f.level)) (flat_map kids f.level);
}

-- level k, with all levels before it
abbrev pub levels : (Met → List Met) → Met → ℕ → Front
levels kids root zero = record { passed = []; level = root ∷ [] }
levels kids root (suc k) = descend kids (levels kids root k)

-- The files met. Each level that is not empty has a new number, so there are no more of them than inode numbers.
unfoldable pub survey : Core → Pick → List Met
survey core pick = (levels (children core pick) (root_of core) (suc core.inodes)).passed

-- what the shadow table is to say of a file that was met
abbrev pub row_by : Met → Body → Row
row_by m b = record {
  kind = m.kind;
  mode = b.mode;
  uid = b.uid;
  gid = b.gid;
  parent = m.parent;
  page = m.page;
  slot = m.slot;
}

-- the row of a file met, where it can be read
abbrev pub row_read : Met → Result FileRead Location → Option Row
row_read m (Ok f) = Some (row_by m f.body)
row_read m (Err place) = None

-- the row of an inode number, by the first file met that has it
abbrev pub row_of : Core → List Met → ℕ → Option Row
row_of core files n = option_and_then (λ m. row_read m (file_of core m)) (find (λ m. m.ino == n) files)

-- the index pages and blocks of a file that was read
abbrev pub pages_in : Result FileRead Location → List ℕ
pages_in (Ok f) = f.chain.index ++ f.chain.blocks
pages_in (Err place) = []

-- the pages that a file lists: its index pages, then its blocks
abbrev pub pages_of : Core → Met → List ℕ
pages_of core m = pages_in (file_of core m)

-- the number of the first file that lists a page, or 0
abbrev pub owner_of : Core → List Met → ℕ → ℕ
owner_of core [] page = 0
owner_of core (m ∷ ms) page = if is_among page (pages_of core m) then m.ino else owner_of core ms page
