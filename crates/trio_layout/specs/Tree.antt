-- The tree of an image, as the lines that are told of it: a directory before its children, children in the byte order of names.
use Rattle.std.specs.Prelude.{ℕ, zero, suc, ◌+◌, Bool, true, false, List, [], ◌∷◌, length, if◌then◌else◌, Result, Ok, Err}
use Rattle.std.specs.List.{flat_map}
use Rattle.trio_lists.specs.Sorting.{sorted_by_name}
use Rattle.trio_rights.specs.declared.kind.Kind.{Kind}
use Rattle.trio_rights.specs.ByKind.{is_directory}
use Rattle.trio_rights.specs.declared.rights.Mode.{Mode}
use Rattle.trio_layout.specs.Core.{Core, Location}
use Rattle.trio_layout.specs.Entries.{Listed}
use Rattle.trio_layout.specs.Survey.{Met, FileRead, file_of, met_in, plain, root_of}

-- what is told of one file; the size is its bytes, or a directory's number of entries
pub record TreeLine : Type 0 where
  pub depth : ℕ
  pub kind : Kind
  pub mode : Mode
  pub uid : ℕ
  pub gid : ℕ
  pub size : ℕ
  pub name : List ℕ

-- the name of an entry
abbrev pub listed_name : Listed → List ℕ
listed_name l = l.entry.name

-- the entries in the byte order of names
abbrev pub by_name : List Listed → List Listed
by_name ls = sorted_by_name listed_name ls

-- the size that is told: entries of a directory, bytes of any other file
abbrev pub told_size : Kind → FileRead → ℕ
told_size kind f = if is_directory kind then length f.entries else f.body.size

-- the line that is told of a file
abbrev pub told_line : ℕ → List ℕ → Kind → FileRead → TreeLine
told_line depth name kind f = record {
  depth = depth;
  kind = kind;
  mode = f.body.mode;
  uid = f.body.uid;
  gid = f.body.gid;
  size = told_size kind f;
  name = name;
}

-- the line of a file, and what `below` gives of each entry, in the order of names
abbrev pub lines_with : (Listed → List TreeLine) → ℕ → List ℕ → Kind → Result FileRead Location → List TreeLine
lines_with below depth name kind (Err place) = []
lines_with below depth name kind (Ok f) = told_line depth name kind f ∷ flat_map below (by_name f.entries)

-- the lines of a file and of what it lists, so many levels down
abbrev pub lines_from : Core → ℕ → ℕ → List ℕ → Met → List TreeLine
lines_from core zero depth name m = []
lines_from core (suc levels) depth name m =
    lines_with (λ l. lines_from core levels (depth + 1) l.entry.name (met_in plain m.ino l)) depth name m.kind (file_of core m)

-- the whole tree; the root's name is a slash
unfoldable pub tree_of : Core → List TreeLine
tree_of core = lines_from core (suc core.inodes) 0 (47 ∷ []) (root_of core)
