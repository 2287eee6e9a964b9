-- What a library hands in.
use Rattle.std.specs.Prelude.{ℕ, ◌==◌, Bool, List, ◌++◌, is_some}
use Rattle.std.specs.List.{flat_map, find}
use Rattle.trio_rights.specs.declared.kind.Kind.{Kind}
use Rattle.trio_rights.specs.Sheets.{Sheet, sheet_numbers}

-- a file that was lent for writing, as it is handed in
pub record Written : Type 0 where
  pub ino : ℕ
  pub kind : Kind
  pub body : List ℕ
  pub index : List Sheet
  pub blocks : List Sheet

-- What a library hands in: written files, the numbers of held files, allotted pages and allotted inode numbers.
pub record Bundle : Type 0 where
  pub writes : List Written
  pub holds : List ℕ
  pub pages : List Sheet
  pub numbers : List ℕ

-- all pages of the bundle
abbrev pub bundle_sheets : Bundle → List Sheet
bundle_sheets b = flat_map (λ w. w.index ++ w.blocks) b.writes ++ b.pages

-- the numbers of all pages of the bundle
abbrev pub bundle_pages : Bundle → List ℕ
bundle_pages b = sheet_numbers (bundle_sheets b)

-- the bundle has a write lease on the file
abbrev pub is_written : Bundle → ℕ → Bool
is_written b n = is_some (find (λ w. w.ino == n) b.writes)
