-- How what is read of a file is seen by the rules.
use Rattle.std.specs.Prelude.{ℕ, ◌<◌, List, [], length, slice_index_or}
use Rattle.trio_lists.specs.Lists.{In}
use Rattle.trio_layout.specs.Entries.{Listed}
use Rattle.trio_case.specs.declared.entries.DirEntry.{DirEntry}

-- an entry at its place, by the names of which it has one
abbrev pub listed_seen : List (List ℕ) → DirEntry → Listed
listed_seen names l = record {
  entry = record { ino = l.ino; kind = l.kind; name = slice_index_or names l.name [] };
  page = l.page;
  slot = l.slot;
  body = l.body;
}

-- each entry has one of the names
abbrev pub AreNamed : List (List ℕ) → List DirEntry → Type 0
AreNamed names entries = (l : DirEntry) → In l entries → l.name < length names
