-- What contracts see of a case, and of what one may be made.
use Rattle.std.specs.Prelude.{ℕ, ◌≡◌, ◌+◌, ◌*◌, ◌≤◌, nat_lt, nat_le, Bool, true, false, ◌&&◌, List, [], ◌++◌, map, length, count_by, Option, Some, is_none}
use Rattle.std.specs.List.{list_all}
use Rattle.std.specs.Option.{option_map_or}
use Rattle.trio_rights.specs.Row.{Row, row_in}
use Rattle.trio_rights.specs.Bundle.{bundle_pages, is_written}
use Rattle.trio_rights.specs.ByKind.{is_directory}
use Rattle.trio_rights.specs.declared.rights.Creds.{Creds}
use Rattle.trio_rights.specs.declared.rights.LibNo.{LibNo}
use Rattle.trio_lists.specs.Lists.{are_new}
use Rattle.trio_lease.specs.Bundles.{Bundled}
use Rattle.trio_lease.specs.Views.{bundle_in}
use Rattle.trio_lease.specs.declared.parts.HoldParts.{HoldParts}
use Rattle.trio_layout.specs.declared.range.CoreRange.{CoreRange}
use Rattle.trio_layout.specs.Range.{is_core}
use Rattle.trio_layout.specs.Allowed.{has_kind}
use Rattle.trio_layout.specs.Case.{Case, Held}

-- The library, its bundle, the copied rows at their numbers, the library's credentials, the core range, and the count
-- of inode numbers.
pub record CaseShown : Type 0 where
  pub lib : LibNo
  pub bundle : Bundled
  pub rows : List (Option Row)
  pub creds : Creds
  pub range : CoreRange
  pub inodes : ℕ

-- a held file with the body that its hold lent
abbrev pub held_in : HoldParts → Held
held_in h = record { ino = h.ino; body = h.body }

-- the case, in the words of the rules
abbrev pub case_in : CaseShown → Case
case_in k = record {
  bundle = bundle_in k.bundle;
  lent = map held_in k.bundle.holds;
  rows = k.rows;
  creds = k.creds;
  range = k.range;
  inodes = k.inodes;
}

-- the inode numbers of a bundle's leases and holds
abbrev pub lent_numbers : Bundled → List ℕ
lent_numbers b = map (λ f. f.stands.ino) b.writes ++ map (λ h. h.ino) b.holds

-- a number of the table that is not live
abbrev pub is_free_number : List (Option Row) → ℕ → ℕ → Bool
is_free_number rows inodes n = nat_lt 0 n && nat_le n inodes && is_none (row_in rows n)

-- each live file that a row names as the parent of its own is a directory
abbrev pub HasDirectoryParents : List (Option Row) → Type 0
HasDirectoryParents rows =
    (n : ℕ) (r p : Row) → row_in rows n ≡ Some r → row_in rows r.parent ≡ Some p → is_directory p.kind ≡ true

-- the row of a file that stands in a directory that the bundle writes
abbrev pub is_child : Bundled → Option Row → Bool
is_child b r = option_map_or (λ r. is_written (bundle_in b) r.parent) r false

-- Of what a case may be made: the table has so many numbers; each file of a lease or hold is live there, of that kind,
-- and stands in the bundle once; the handed-in numbers are within the table, not live, and differ; the bundle's pages
-- are core pages and differ, and page 0 is none; no more than 16 recorded children of its directories stand to each of
-- its pages.
pub record IsJudgeable (b : Bundled) (rows : List (Option Row)) (range : CoreRange) (inodes : ℕ) : Type 0 where
  pub table : length rows ≡ inodes + 1
  pub parents : HasDirectoryParents rows
  pub written : list_all (λ f. has_kind f.stands.kind (row_in rows f.stands.ino)) b.writes ≡ true
  pub held : list_all (λ h. has_kind h.kind (row_in rows h.ino)) b.holds ≡ true
  pub once : are_new [] (lent_numbers b) ≡ true
  pub numbers : list_all (λ n. is_free_number rows inodes n.no) b.inodes ≡ true
  pub apart : are_new [] (map (λ n. n.no) b.inodes) ≡ true
  pub core : list_all (is_core range) (bundle_pages (bundle_in b)) ≡ true
  pub pages : are_new [] (bundle_pages (bundle_in b)) ≡ true
  pub first : nat_lt 0 range.first ≡ true
  pub children : count_by (is_child b) rows ≤ 16 * length (bundle_pages (bundle_in b))

-- What is true of each case: its pages are core pages and differ, and page 0 is none; its leases and holds are of one
-- file each; its numbers are within the table and differ.
pub record IsCase (b : Bundled) (range : CoreRange) (inodes : ℕ) : Type 0 where
  pub core : list_all (is_core range) (bundle_pages (bundle_in b)) ≡ true
  pub pages : are_new [] (bundle_pages (bundle_in b)) ≡ true
  pub first : nat_lt 0 range.first ≡ true
  pub once : are_new [] (lent_numbers b) ≡ true
  pub lent : list_all (λ n. nat_le n inodes) (lent_numbers b) ≡ true
  pub numbers : list_all (λ n. nat_lt 0 n.no && nat_le n.no inodes) b.inodes ≡ true
  pub apart : are_new [] (map (λ n. n.no) b.inodes) ≡ true
