-- A part of a file, as it is read, and what its first page is. Cited by private functions alone.
use Rattle.std.specs.Prelude.{◌≡◌, ℕ, ◌-◌, min, List, Option, IfSome, length, take, drop}
use Rattle.trio_layout.specs.declared.superblock.Superblock.{Superblock}
use Rattle.trio_layout.specs.Superblock.{IsSuperblockOf}
use Rattle.trio_image.specs.declared.fault.LoadFault.{LoadFault}
use Rattle.trio_image.specs.declared.fault.LoadFault.TheVariants.{OldVersion, BadSuper}

-- where the content is told: the page begins with n bytes of it from an offset on, as many as there is room for, or else all that are left
abbrev pub IsPartOf : Option (List ℕ) → ℕ → ℕ → List ℕ → ℕ → Type 0
IsPartOf content at room page n = IfSome content (λ bs. (n ≡ min room (length bs - at)) × (take n page ≡ take n (drop at bs)))

-- a page is a superblock in this version, or none
abbrev pub IsFirstFault : ℕ → List ℕ → LoadFault → Type 0
IsFirstFault other page OldVersion = (s : Superblock) × IsSuperblockOf other page s
IsFirstFault other page BadSuper = (s : Superblock) → IsSuperblockOf other page s → ⊥
IsFirstFault other page fault = ⊥
