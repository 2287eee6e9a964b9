-- The slots in which entries stand. Cited by private functions alone.
use Rattle.std.specs.Prelude.{ℕ, ◌≡◌, ◌<◌, List, Some}
use Rattle.trio_layout.specs.declared.slot.EntryPart.{EntryPart}
use Rattle.trio_layout.specs.declared.slot.SlotRead.TheVariants.{Entry}
use Rattle.trio_layout.specs.Case.{Case, bundle_core}
use Rattle.trio_layout.specs.Core.{page_of}
use Rattle.trio_layout.specs.Entries.{slot_bytes}
use Rattle.trio_layout.specs.Listing.{ListedEntry}
use Rattle.trio_layout.specs.Slot.{slot_of}

-- the slot of an entry is there, and is an entry
pub record IsReadable (c : Case) (e : ListedEntry) : Type 0 where
  pub slot : e.slot < 16
  pub bytes : List ℕ
  pub here : page_of (bundle_core c) e.page ≡ Some bytes
  pub part : EntryPart
  pub says : slot_of c.inodes (slot_bytes e.slot bytes) ≡ Entry part
