-- The memory of a judgement, by how much its bundle has.
use Rattle.std.specs.Prelude.{ℕ, ◌≡◌, ◌≤◌, [], length, vec_capacity}
use Rattle.trio_rights.specs.Bundle.{bundle_pages}
use Rattle.trio_lease.specs.Views.{bundle_in}
use Rattle.trio_layout.specs.Range.{core_count}
use Rattle.trio_case.specs.Cases.{CaseShown}
use Rattle.trio_case.specs.Memory.{IsWithin}
use Rattle.trio_case.specs.Rooms.{HasPageMemory}
use Rattle.trio_case.specs.declared.size.BundleSize.{BundleSize}
use Rattle.trio_judge.specs.declared.verdict.RoomMemory.{RoomMemory}
use Rattle.trio_judge.specs.inner.WalkMemory.{HasWalkMemory}

-- there is memory for the judgement of this case, whatever its pages say then
pub record HasRoomMemory (k : CaseShown) (m : RoomMemory) : Type 0 where
  pub pages : HasPageMemory k m.pages
  pub walk : HasWalkMemory k m.walk
  pub heads : length (bundle_pages (bundle_in k.bundle)) ≤ vec_capacity m.heads
  pub no_heads : m.heads.items ≡ []

-- memory that was made for a size of a bundle and so many core pages is so for the judgement of each case of no larger
-- bundle, of just so many core pages
abbrev pub IsRoomMemory : BundleSize → ℕ → RoomMemory → Type 0
IsRoomMemory size core m = (k : CaseShown) → IsWithin k.bundle size → core_count k.range ≡ core → HasRoomMemory k m
