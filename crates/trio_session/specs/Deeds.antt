-- What is done to a file that a session has for writing, as the layout has it, and what is read of one that it has.
use Rattle.std.specs.Prelude.{◌≡◌, ◌≤◌, ℕ, ◌+◌, nat_lt, false, IsTrue, List, [], is_some, map, take, length, unwrap_or, Option, None, if◌then◌else◌}
use Rattle.std.specs.List.{filter_map, flat_map}
use Rattle.std.specs.Option.{option_map, option_or}
use Rattle.trio_rights.specs.declared.kind.Kind.{Kind}
use Rattle.trio_rights.specs.declared.kind.Kind.TheVariants.{Link}
use Rattle.trio_rights.specs.declared.rights.Creds.{Creds}
use Rattle.trio_rights.specs.declared.rights.Mode.{Mode}
use Rattle.trio_lists.specs.Lists.{In, tabulated}
use Rattle.trio_lists.specs.Sorting.{sorted_by_name}
use Rattle.trio_layout.specs.Body.{block_count, body_bytes}
use Rattle.trio_layout.specs.Entries.{slot_bytes}
use Rattle.trio_layout.specs.Slot.{slot_of}
use Rattle.trio_layout.specs.declared.slot.EntryPart.{EntryPart}
use Rattle.trio_lease.specs.declared.parts.HoldParts.{HoldParts}
use Rattle.trio_nodes.specs.Nodes.{entry_name}
use Rattle.trio_session.specs.Layout.{growth, size_in}
use Rattle.trio_session.specs.Seen.{MadeFile, SessionSeen, body_in, body_shown, chain_in, cut, empty_shown, entry_in, every_number, fill, grown, held_file, is_allotted, lowest_from, made_body, made_file, pages_shown, put, spare_numbers}

-- ---- edits

-- a file comes to this size: it grows, is cut, or stays
abbrev pub sized : ℕ → ℕ → SessionSeen → SessionSeen
sized ino size s =
    let old = size_in (body_in s ino) in if nat_lt old size then grown ino size s else (if nat_lt size old then cut ino size s else s)

-- the pages of one block more, where a directory has no empty slot
abbrev pub slot_growth : SessionSeen → ℕ → ℕ
slot_growth s dir = let b = length (chain_in s dir).blocks in if is_some (empty_shown s dir) then 0 else growth b (b + 1)

-- a directory has an empty slot: it grows by a block where it has none
abbrev pub with_slot : ℕ → SessionSeen → SessionSeen
with_slot dir s = if is_some (empty_shown s dir) then s else grown dir (size_in (body_in s dir) + 4096) s

-- the body of a new file: without pages and unguarded, and the caller's
abbrev pub new_body : Creds → Mode → List ℕ
new_body creds mode = body_bytes (record { mode = mode; uid = creds.uid; gid = creds.gid; head = 0; size = 0; guard = false })

-- a new file takes the lowest spare number
abbrev pub new_number : SessionSeen → ℕ
new_number s = unwrap_or (lowest_from None (spare_numbers s)) 0

-- A link is made under a name in a directory: a file of this number, with its text put into it.
abbrev pub link_made : ℕ → List ℕ → ℕ → List ℕ → List ℕ → SessionSeen → SessionSeen
link_made dir name ino body text s = put ino 0 text (grown ino (length text) (fill dir name ino Link body s))

-- the kind and the body that a file takes with it to another directory: of one that was made its own, and the body of its slot; of a held
-- one, which has none of the allotted numbers, those of its hold
abbrev pub moved_shown : SessionSeen → ℕ → Option (Kind × List ℕ)
moved_shown s ino =
    option_or (option_map (λ (m : MadeFile). (m.kind, made_body s m)) (made_file s ino))
    (if is_allotted s ino then None else option_map (λ (h : HoldParts). (h.kind, h.body)) (held_file s ino))

-- the session with all that it was lent, and without what was allotted to it since
abbrev pub as_lent : SessionSeen → SessionSeen → SessionSeen
as_lent s all = record all { parcel = record all.parcel { pages = s.parcel.pages; inodes = s.parcel.inodes } }

-- ---- a file that is had

-- the body of a file that the session has
abbrev pub body_had : SessionSeen → ℕ → List ℕ
body_had s ino = unwrap_or (body_shown s ino) []

-- its bytes
abbrev pub bytes_had : SessionSeen → ℕ → List ℕ
bytes_had s ino = take (size_in (body_had s ino)) (flat_map (λ p. p) (pages_shown s ino))

-- The session has a file: its body, and as many whole blocks as its size says, no more than an image has pages.
pub record IsHad (s : SessionSeen) (ino' : ℕ) : Type 0 where
  pub there : IsTrue (is_some (body_shown s ino'))
  pub body : length (body_had s ino') ≡ 64
  pub blocks : length (pages_shown s ino') ≡ block_count (size_in (body_had s ino'))
  pub few : length (pages_shown s ino') ≤ 8192
  pub whole : (p : List ℕ) → In p (pages_shown s ino') → length p ≡ 4096

-- ---- entries

-- what a page's slots have, each an entry or none
abbrev pub slots_of_page : List ℕ → List (Option EntryPart)
slots_of_page page = tabulated (λ slot. entry_in (slot_of every_number (slot_bytes slot page))) 16

-- the entries of a directory, in the order of block and slot
abbrev pub entries_here : SessionSeen → ℕ → List EntryPart
entries_here s dir = filter_map (λ e. e) (flat_map slots_of_page (pages_shown s dir))

-- its names and kinds, in the byte order of names
abbrev pub names_here : SessionSeen → ℕ → List (List ℕ × Kind)
names_here s dir = sorted_by_name entry_name (map (λ e. (e.name, e.kind)) (entries_here s dir))
