-- Why an image wasn't saved.
use Rattle.std.specs.Prelude.{◌≡◌, ℕ, List, None}
use Rattle.trio_io.specs.Shelf.{Shelf, Rose}
use Rattle.trio_image.specs.declared.fault.SaveFault.{SaveFault}
use Rattle.trio_image.specs.declared.fault.SaveFault.TheVariants.{WriteFault, NoMemory}

-- a write of this name failed, and its content isn't told; or there was no memory, and nothing was written
abbrev pub SaveFails : List ℕ → Shelf → Shelf → SaveFault → Type 0
SaveFails name old new WriteFault = Rose (old.write_faults name) (new.write_faults name) × (new.held name ≡ None)
SaveFails name old new NoMemory = new ≡ old
