-- The memory of a walk, by how much a bundle has. Cited by private functions alone.
use Rattle.std.specs.Prelude.{◌≡◌, ◌≤◌, [], length, vec_capacity}
use Rattle.trio_rights.specs.Bundle.{bundle_pages}
use Rattle.trio_lease.specs.Views.{bundle_in}
use Rattle.trio_case.specs.Cases.{CaseShown, case_in}
use Rattle.trio_case.specs.Listed.{no_listing}
use Rattle.trio_case.specs.Memory.{IsWithin}
use Rattle.trio_case.specs.declared.size.BundleSize.{BundleSize}
use Rattle.trio_judge.specs.inner.Walk.{HasListingRoom, own_numbers}
use Rattle.trio_judge.specs.declared.start.WalkMemory.{WalkMemory}

-- there is memory for the walk of this case
pub record HasWalkMemory (k : CaseShown) (m : WalkMemory) : Type 0 where
  pub files : length (own_numbers (case_in k)) ≤ vec_capacity m.files
  pub no_files : m.files.items ≡ []
  pub found : length (own_numbers (case_in k)) ≤ vec_capacity m.found
  pub no_found : m.found.items ≡ []
  pub pages : length (bundle_pages (bundle_in k.bundle)) ≤ vec_capacity m.pages
  pub no_pages : m.pages.items ≡ []
  pub listing : m.listing.listing ≡ no_listing
  pub held : length k.bundle.holds ≤ m.listing.room.held
  pub room : HasListingRoom (case_in k) m.listing.room

-- memory that was made for a size of a bundle is so for each case of no larger bundle
abbrev pub IsWalkMemory : BundleSize → WalkMemory → Type 0
IsWalkMemory size m = (k : CaseShown) → IsWithin k.bundle size → HasWalkMemory k m
