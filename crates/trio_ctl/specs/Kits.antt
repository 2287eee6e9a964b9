-- The memory of a release that is made before there is a bundle.
use Rattle.std.specs.Prelude.{ℕ, ◌≡◌, ◌≢◌, ◌+◌, ◌≤◌, vec_capacity, vec_len}
use Rattle.std.specs.List.{All}
use Rattle.trio_desk.specs.Contents.{Sizes}
use Rattle.trio_layout.specs.Range.{core_count}
use Rattle.trio_lease.specs.Bundles.{Bundled}
use Rattle.trio_lease.specs.Views.{bundle_in}
use Rattle.trio_case.specs.Cases.{CaseShown}
use Rattle.trio_case.specs.Memory.{HasCaseMemory, IsWithin}
use Rattle.trio_case.specs.declared.size.BundleSize.{BundleSize}
use Rattle.trio_judge.specs.Memory.{HasRoomMemory}
use Rattle.trio_entries.specs.Drafts.{HasDraftMemory}
use Rattle.trio_ctl.specs.Room.{room_in}
use Rattle.trio_ctl.specs.declared.kit.Kit.{Kit}
use Rattle.trio_ctl.specs.declared.spares.Spares.{Spares}

-- there is memory for the whole release of this bundle, of an image of these sizes: for its case, its judgement and its entry
pub record HasKit (z : Sizes) (b : Bundled) (k : Kit) : Type 0 where
  pub case : HasCaseMemory b k.case
  pub room : (c : CaseShown) → c.bundle ≡ b → c.range ≡ z.range → c.inodes ≡ z.inodes → HasRoomMemory c k.room
  pub draft : HasDraftMemory b k.draft

-- memory that was made for a size of a bundle and so many core pages is so for the release of each bundle of no more than this size, of an
-- image of just so many core pages
abbrev pub IsKit : BundleSize → ℕ → Kit → Type 0
IsKit size core k = (z : Sizes) (b : Bundled) → IsWithin b size → core_count z.range ≡ core → HasKit z b k

-- this is memory for each release that needs at most so many bytes, of an image of these sizes
abbrev pub Serves : Sizes → ℕ → Kit → Type 0
Serves z bytes k = (b : Bundled) → room_in z (bundle_in b) ≤ bytes → HasKit z b k

-- so is each that is kept, for the bytes that are noted
abbrev pub AreSpare : Sizes → Spares → Type 0
AreSpare z s = All (Serves z s.bytes) s.kits.items

-- something is kept that serves a release that needs so many bytes
pub record HasSpare (room : ℕ) (s : Spares) : Type 0 where
  pub kit : 1 ≤ vec_len s.kits
  pub bytes : room ≤ s.bytes

-- at most one is taken of what was kept, and the others serve as before
pub record TakesOne (z : Sizes) (old new : Spares) : Type 0 where
  pub spare : AreSpare z new
  pub kits : vec_len old.kits ≤ vec_len new.kits + 1
  pub bytes : new.bytes ≡ old.bytes

-- With this there is memory for so many releases that need so many bytes each, and for no fewer and no smaller ones than before: it stands
-- beside what is kept where that serves as many bytes, for which it has places, and else in its stead.
pub record IsMore (count much : ℕ) (kept more : Spares) : Type 0 where
  pub bytes : much ≤ more.bytes
  pub grows : kept.bytes ≤ more.bytes
  pub beside : more.bytes ≡ kept.bytes → (count ≤ vec_len kept.kits + vec_len more.kits) × (vec_len more.kits + vec_len kept.kits ≤ vec_capacity more.kits)
  pub alone : more.bytes ≢ kept.bytes → (count ≤ vec_len more.kits) × (vec_len kept.kits ≤ vec_len more.kits)
