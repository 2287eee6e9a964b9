-- What two bundles' write leases have in common, and which of their blocks are marked.
use Rattle.std.specs.Prelude.{◌≡◌, List, true}
use Rattle.trio_lease.specs.Shown.{LentFile}
use Rattle.trio_lists.specs.Lists.{In}
use Rattle.trio_lease.specs.declared.parts.LentPage.{LentPage}

-- each of these blocks is marked as touched
abbrev pub AreTouched : List LentPage → Type 0
AreTouched blocks = (p : LentPage) → In p blocks → p.touched ≡ true

-- each block of each of these leases is marked as touched
abbrev pub AreAllTouched : List LentFile → Type 0
AreAllTouched files = (f : LentFile) → In f files → AreTouched f.stands.blocks

-- each of these leases is on the file of one of those, and shows the same as lent
abbrev pub AreLentAlike : List LentFile → List LentFile → Type 0
AreLentAlike files others = (f : LentFile) → In f files → (g : LentFile) × In g others × (g.stands.ino ≡ f.stands.ino) × (g.lent ≡ f.lent)
