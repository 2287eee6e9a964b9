-- The entries of a directory, in the order of block and slot.
use Rattle.std.specs.Prelude.{ℕ, ◌+◌, ◌*◌, Bool, List, [], ◌∷◌, ◌++◌, Option, None, Some, if◌then◌else◌, slice_range, Result, Ok, Err}
use Rattle.std.specs.List.{list_any}
use Rattle.std.specs.Str.{bytes_eq}
use Rattle.trio_rights.specs.declared.kind.Kind.{Kind}
use Rattle.trio_rights.specs.ByKind.{is_directory}
use Rattle.trio_layout.specs.declared.slot.EntryPart.{EntryPart}
use Rattle.trio_layout.specs.declared.slot.SlotRead.{SlotRead}
use Rattle.trio_layout.specs.declared.slot.SlotRead.TheVariants.{Empty, Entry, Bad}
use Rattle.trio_layout.specs.Slot.{slot_of}
use Rattle.trio_lists.specs.Lists.{result_then, gathered, gathered_below, there_or}
use Rattle.trio_layout.specs.Core.{Core, Location, at_page, page_of}

-- an entry at its place, with the bytes of the body in its slot
pub record Listed : Type 0 where
  pub entry : EntryPart
  pub page : ℕ
  pub slot : ℕ
  pub body : List ℕ

-- what a slot lists: nothing, or its entry; a bad slot is a fault
abbrev pub listed_at : ℕ → ℕ → List ℕ → SlotRead → Result (List Listed) Location
listed_at page slot body Empty = Ok []
listed_at page slot body (Entry e) = Ok (record { entry = e; page = page; slot = slot; body = body } ∷ [])
listed_at page slot body Bad = Err (record { page = page; slot = slot })

-- the 256 bytes of a slot, and the 64 bytes of the body in it
abbrev pub slot_bytes : ℕ → List ℕ → List ℕ
slot_bytes slot bytes = slice_range bytes (256 * slot) (256 * slot + 256)

-- the 64 bytes of the body in a slot
abbrev pub body_in_slot : ℕ → List ℕ → List ℕ
body_in_slot slot bytes = slice_range bytes (256 * slot + 192) (256 * slot + 256)

-- what one slot of a directory page lists
abbrev pub slot_entries : ℕ → ℕ → List ℕ → ℕ → Result (List Listed) Location
slot_entries inodes page bytes slot =
    listed_at page slot (body_in_slot slot bytes) (slot_of inodes (slot_bytes slot bytes))

-- the entries in the 16 slots of a directory page, or the first bad slot
unfoldable pub entries_on : ℕ → ℕ → List ℕ → Result (List Listed) Location
entries_on inodes page bytes = gathered_below (slot_entries inodes page bytes) 16

-- the entries of one directory page of a core
abbrev pub page_entries : Core → ℕ → Result (List Listed) Location
page_entries core page = result_then (entries_on core.inodes page) (there_or (at_page page) (page_of core page))

-- the place of an entry
abbrev pub place_of : Listed → Location
place_of l = record { page = l.page; slot = l.slot }

-- an entry here has this name
abbrev pub has_name : List ℕ → List Listed → Bool
has_name name ls = list_any (λ l. bytes_eq l.entry.name name) ls

-- the first entry whose name one before it has, those seen among them
abbrev pub repeated_name : List Listed → List Listed → Option Location
repeated_name seen [] = None
repeated_name seen (l ∷ ls) =
    if has_name l.entry.name seen then Some (place_of l) else repeated_name (seen ++ l ∷ []) ls

-- the entries, unless there is such an entry
abbrev pub unless_repeated : List Listed → Option Location → Result (List Listed) Location
unless_repeated ls None = Ok ls
unless_repeated ls (Some place) = Err place

-- the entries, or the place of the first name that comes again
abbrev pub with_names_apart : List Listed → Result (List Listed) Location
with_names_apart ls = unless_repeated ls (repeated_name [] ls)

-- the entries of a directory of these blocks
abbrev pub entries_of : Core → List ℕ → Result (List Listed) Location
entries_of core blocks = result_then with_names_apart (gathered (page_entries core) blocks)

-- what is no directory has none, and its blocks are not read
abbrev pub entries_of_kind : Core → Kind → List ℕ → Result (List Listed) Location
entries_of_kind core kind blocks = if is_directory kind then entries_of core blocks else Ok []
