-- What a lease shows of its file: rights, and the entries of a directory or the bytes of any other file.
use Rattle.std.specs.Prelude.{ℕ, ◌≤◌, ◌==◌, List, [], take, Option, None, Some, if◌then◌else◌, Result, Ok, Err}
use Rattle.std.specs.List.{flat_map}
use Rattle.trio_rights.specs.declared.kind.Kind.{Kind}
use Rattle.trio_rights.specs.ByKind.{is_directory}
use Rattle.trio_rights.specs.declared.rights.Mode.{Mode}
use Rattle.trio_lists.specs.Lists.{gathered}
use Rattle.trio_layout.specs.declared.range.CoreRange.{CoreRange}
use Rattle.trio_layout.specs.Body.{body_at}
use Rattle.trio_layout.specs.Core.{Location}
use Rattle.trio_layout.specs.Entries.{Listed, entries_on}
use Rattle.trio_lease.specs.declared.parts.LentPage.{LentPage}
use Rattle.trio_lease.specs.Shown.{Shown}
use Rattle.trio_nodes.specs.declared.node.Node.{Node}

-- which pages are core pages, and how many inode numbers there are; no event changes these
pub record Sizes : Type 0 where
  pub range : CoreRange
  pub inodes : ℕ

-- No image has more than 8192 pages or 16,384 inode numbers.
pub record AreWithinLimits (sizes : Sizes) : Type 0 where
  pub pages : sizes.range.end ≤ 8192
  pub inodes : sizes.inodes ≤ 16384

-- the kind of a file and its rights
pub record Rights : Type 0 where
  pub kind : Kind
  pub mode : Mode
  pub uid : ℕ
  pub gid : ℕ

-- those that the 64 bytes of a body say, beside the kind
abbrev pub rights_in : Kind → List ℕ → Rights
rights_in kind bytes = let b = body_at bytes in record { kind = kind; mode = b.mode; uid = b.uid; gid = b.gid }

-- those of a node
abbrev pub rights_of : Node → Rights
rights_of x = record { kind = x.kind; mode = x.mode; uid = x.uid; gid = x.gid }

-- ---- directories

-- the entries that were read, and none where a slot is bad
abbrev pub entries_or_none : Result (List Listed) Location → List Listed
entries_or_none (Ok entries) = entries
entries_or_none (Err place) = []

-- the entries on the lent pages of a directory, each at its place; what is no directory has none
abbrev pub entries_lent : ℕ → Kind → List LentPage → List Listed
entries_lent inodes kind blocks =
    if is_directory kind then entries_or_none (gathered (λ p. entries_on inodes p.no.0 p.page) blocks) else []

-- the entries that the lease of a directory shows
abbrev pub entries_shown : Sizes → Shown → List Listed
entries_shown sizes f = entries_lent sizes.inodes f.kind f.blocks

-- what a directory shows of one of its entries: the name, the kind and the rights
pub record ShownEntry : Type 0 where
  pub name : List ℕ
  pub rights : Rights

-- as a slot says it
abbrev pub entry_of_listed : Listed → ShownEntry
entry_of_listed l = record { name = l.entry.name; rights = rights_in l.entry.kind l.body }

-- as a node says it, where this directory lists the node
abbrev pub entry_of_node : ℕ → Option Node → Option ShownEntry
entry_of_node directory None = None
entry_of_node directory (Some x) = if x.parent == directory then Some (record { name = x.name; rights = rights_of x }) else None

-- ---- other files

-- the bytes of its blocks, up to its size
abbrev pub bytes_shown : Shown → List ℕ
bytes_shown f = take (body_at f.body).size (flat_map (λ p. p.page) f.blocks)
