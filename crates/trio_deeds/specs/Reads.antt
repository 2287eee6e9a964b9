-- How many entries the blocks of a directory have, and what a file is by its body.
use Rattle.std.specs.Prelude.{ℕ, zero, suc, ◌+◌, Bool, true, false, List, if◌then◌else◌}
use Rattle.std.specs.List.{sum_by}
use Rattle.trio_rights.specs.Rights.{permits}
use Rattle.trio_rights.specs.declared.kind.Kind.{Kind}
use Rattle.trio_rights.specs.ByKind.{is_directory}
use Rattle.trio_rights.specs.declared.rights.Creds.{Creds}
use Rattle.trio_rights.specs.declared.rights.Need.{Need}
use Rattle.trio_layout.specs.Entries.{slot_bytes}
use Rattle.trio_layout.specs.Slot.{slot_of}
use Rattle.trio_layout.specs.declared.slot.SlotRead.{SlotRead}
use Rattle.trio_layout.specs.declared.slot.SlotRead.TheVariants.{Entry}
use Rattle.trio_nodes.specs.declared.call.Answer.{Answer}
use Rattle.trio_nodes.specs.declared.call.Answer.TheVariants.{Stat}
use Rattle.trio_desk.specs.Contents.{rights_in}
use Rattle.trio_session.specs.Deeds.{body_had}
use Rattle.trio_session.specs.Layout.{size_in}
use Rattle.trio_session.specs.Seen.{SessionSeen, every_number, pages_shown}

-- a slot has an entry
abbrev pub is_entry : SlotRead → Bool
is_entry (Entry e) = true
is_entry other = false

-- how many of the first slots of a directory's block have one
unfoldable pub entries_within : ℕ → List ℕ → ℕ
entries_within zero page = 0
entries_within (suc n) page = entries_within n page + (if is_entry (slot_of every_number (slot_bytes n page)) then 1 else 0)

-- how many entries the blocks of a directory have
abbrev pub entries_counted : List (List ℕ) → ℕ
entries_counted pages = sum_by (entries_within 16) pages

-- the rights of a file that is had give what is needed
abbrev pub allows : SessionSeen → ℕ → Kind → Creds → Need → Bool
allows s ino kind creds need = let r = rights_in kind (body_had s ino) in permits creds r.kind r.mode r.uid r.gid need

-- its size, which of a directory is its number of entries
abbrev pub size_had : SessionSeen → ℕ → Kind → ℕ
size_had s ino kind = if is_directory kind then entries_counted (pages_shown s ino) else size_in (body_had s ino)

-- what a stat answers of it
abbrev pub stat_had : SessionSeen → ℕ → Kind → Answer
stat_had s ino kind = let r = rights_in kind (body_had s ino) in Stat r.kind r.mode r.uid r.gid (size_had s ino kind)
