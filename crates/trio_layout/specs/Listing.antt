-- The listing of a bundle: what it proposes, without its pages.
use Rattle.std.specs.Prelude.{ℕ, Bool, List, [], ◌∷◌, map, Result, Ok, Err}
use Rattle.std.specs.List.{flat_map}
use Rattle.trio_rights.specs.declared.kind.Kind.{Kind}
use Rattle.trio_rights.specs.Row.{Row, row_in}
use Rattle.trio_lists.specs.Sorting.{sorted_by}
use Rattle.trio_layout.specs.Core.{Location}
use Rattle.trio_layout.specs.Survey.{Met, FileRead, row_by}
use Rattle.trio_layout.specs.Proposed.{is_place_of}
use Rattle.trio_layout.specs.Case.{Case, file_in}
use Rattle.trio_layout.specs.JudgedFiles.{judged_files, judged_entries}

-- a judged file: the row that it is to have, its index pages and its blocks
pub record ListedFile : Type 0 where
  pub ino : ℕ
  pub row : Row
  pub index : List ℕ
  pub blocks : List ℕ

-- an entry of a judged directory: its number and kind, the directory and the place, and whether it is a kept child
pub record ListedEntry : Type 0 where
  pub ino : ℕ
  pub kind : Kind
  pub dir : ℕ
  pub page : ℕ
  pub slot : ℕ
  pub kept : Bool

-- the held numbers in rising order, the judged files and the entries of judged directories in the order found
pub record Listing : Type 0 where
  pub held : List ℕ
  pub files : List ListedFile
  pub entries : List ListedEntry

-- the entry is a kept child: its number's row names this directory and this very place
abbrev pub is_kept : Case → Met → Bool
is_kept c e = is_place_of e.parent e.page e.slot (row_in c.rows e.ino)

-- a judged file as it is listed; one that leaves the grammar is not
abbrev pub file_listed : Met → Result FileRead Location → List ListedFile
file_listed m (Err place) = []
file_listed m (Ok f) =
    record { ino = m.ino; row = row_by m f.body; index = f.chain.index; blocks = f.chain.blocks } ∷ []

-- an entry as it is listed
abbrev pub entry_listed : Case → Met → ListedEntry
entry_listed c e =
    record { ino = e.ino; kind = e.kind; dir = e.parent; page = e.page; slot = e.slot; kept = is_kept c e }

-- the listing of a case
abbrev pub listing : Case → Listing
listing c = record {
  held = sorted_by (λ n. n) c.bundle.holds;
  files = flat_map (λ m. file_listed m (file_in c m)) (judged_files c);
  entries = map (entry_listed c) (judged_entries c);
}
