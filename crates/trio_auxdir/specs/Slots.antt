-- The slots of a directory, as its pages spell them: each is empty or has a name.
use Rattle.std.specs.Prelude.{ℕ, ◌≡◌, Bool, false, List, [], ◌∷◌, Option, None, Some, suc, if◌then◌else◌}
use Rattle.std.specs.List.{flat_map}
use Rattle.std.specs.Option.{option_map}
use Rattle.std.specs.Result.{is_ok}
use Rattle.std.specs.Str.{bytes_eq}
use Rattle.trio_layout.specs.declared.slot.SlotRead.{SlotRead}
use Rattle.trio_layout.specs.declared.slot.SlotRead.TheVariants.{Empty, Entry, Bad}
use Rattle.trio_layout.specs.Slot.{slot_of}
use Rattle.trio_layout.specs.Entries.{entries_on, slot_bytes}
use Rattle.trio_lists.specs.Lists.{tabulated}

-- what a slot has: nothing, or the name of its entry. A page in the grammar has no bad slot
abbrev pub name_in : SlotRead → Option (List ℕ)
name_in Empty = None
name_in (Entry e) = Some e.name
name_in Bad = None

-- one slot of a page, in an image of so many inode numbers
abbrev pub slot_on : ℕ → List ℕ → ℕ → Option (List ℕ)
slot_on inodes page slot = name_in (slot_of inodes (slot_bytes slot page))

-- the 16 slots of a page
unfoldable pub slots_on : ℕ → List ℕ → List (Option (List ℕ))
slots_on inodes page = tabulated (slot_on inodes page) 16

-- the slots of a directory of these pages, in the order of block and slot
abbrev pub slots_of : ℕ → List (List ℕ) → List (Option (List ℕ))
slots_of inodes pages = flat_map (slots_on inodes) pages

-- each slot of the page is in the grammar
abbrev pub is_directory_page : ℕ → List ℕ → Bool
is_directory_page inodes page = is_ok (entries_on inodes 0 page)

-- the slot has this name
abbrev pub has_name : List ℕ → Option (List ℕ) → Bool
has_name name None = false
has_name name (Some other) = bytes_eq other name

-- the number of the first slot that passes, counted from 0 over all blocks
abbrev pub first_slot : (Option (List ℕ) → Bool) → List (Option (List ℕ)) → Option ℕ
first_slot test [] = None
first_slot test (slot ∷ slots) = if test slot then Some 0 else option_map suc (first_slot test slots)

-- the number of the slot with this name
abbrev pub slot_with : List ℕ → List (Option (List ℕ)) → Option ℕ
slot_with name slots = first_slot (has_name name) slots

-- no name stands twice
abbrev pub NamesDiffer : List (Option (List ℕ)) → Type 0
NamesDiffer [] = Unit {0}
NamesDiffer (None ∷ slots) = NamesDiffer slots
NamesDiffer (Some name ∷ slots) = (slot_with name slots ≡ None) × NamesDiffer slots
