-- The memory of a case, by how much its bundle has.
use Rattle.std.specs.Prelude.{ℕ, ◌≡◌, ◌≤◌, ◌+◌, Bool, true, length}
use Rattle.std.specs.List.{list_any}
use Rattle.trio_rights.specs.ByKind.{is_directory}
use Rattle.trio_rights.specs.Bundle.{bundle_pages}
use Rattle.trio_lease.specs.Bundles.{Bundled}
use Rattle.trio_lease.specs.Views.{bundle_in}
use Rattle.trio_case.specs.declared.memory.CaseMemory.{CaseMemory}
use Rattle.trio_case.specs.declared.size.BundleSize.{BundleSize}
use Rattle.trio_case.specs.inner.Memory.{HasNumbersMemory, HasRowsFor}

-- how many write leases, holds and handed-in numbers a bundle has
abbrev pub value_count : Bundled → ℕ
value_count b = length b.writes + length b.holds + length b.inodes

-- whether a bundle writes a directory
abbrev pub writes_directory : Bundled → Bool
writes_directory b = list_any (λ f. is_directory f.stands.kind) b.writes

-- how much a bundle has
abbrev pub size_of : Bundled → BundleSize
size_of b = record {
  pages = length (bundle_pages (bundle_in b));
  values = value_count b;
  holds = length b.holds;
  inodes = length b.inodes;
  lists = writes_directory b;
}

-- a bundle has no more than this size
pub record IsWithin (b : Bundled) (size : BundleSize) : Type 0 where
  pub pages : length (bundle_pages (bundle_in b)) ≤ size.pages
  pub values : value_count b ≤ size.values
  pub holds : length b.holds ≤ size.holds
  pub inodes : length b.inodes ≤ size.inodes
  pub lists : writes_directory b ≡ true → size.lists ≡ true

-- there is memory for the case of this bundle
pub record HasCaseMemory (b : Bundled) (m : CaseMemory) : Type 0 where
  pub inodes : HasNumbersMemory (size_of b) m.numbers
  pub rows : HasRowsFor (size_of b) m.rows

-- memory that was made for this size is memory for each bundle within it
abbrev pub IsCaseMemory : BundleSize → CaseMemory → Type 0
IsCaseMemory size m = (b : Bundled) → IsWithin b size → HasCaseMemory b m
