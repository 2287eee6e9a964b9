-- Words of the room that is made for one entry more of a directory: places that take no memory then, pages, numbers, and an empty slot.
use Rattle.std.specs.Prelude.{◌≡◌, ◌≢◌, ◌<◌, ◌≤◌, ◌+◌, ℕ, IsTrue, is_some, List, [], map, length, Result, Ok, Err}
use Rattle.trio_lists.specs.Lists.{In}
use Rattle.trio_nodes.specs.declared.answers.AllotFault.{AllotFault}
use Rattle.trio_nodes.specs.declared.answers.AllotFault.TheVariants.{NoMemory}
use Rattle.trio_desk.specs.Call.{Ask, DeskSeen, Told}
use Rattle.trio_desk.specs.Calls as desk_calls
use Rattle.trio_session.specs.Asked.{IsAlike, allot_asks, took}
use Rattle.trio_layout.specs.Body.{block_count}
use Rattle.trio_session.specs.Deeds.{as_lent, slot_growth, with_slot}
use Rattle.trio_session.specs.Layout.{growth}
use Rattle.trio_session.specs.Seen.{SessionSeen, empty_shown, spare_numbers, spare_pages}
use Rattle.trio_edit_laws.specs.Allotting.{HasNumbers, IsUngiven, Wanted}
use Rattle.trio_edit_laws.specs.EditLaws.{AreSpare}

-- A directory has an empty slot, and an entry more takes no memory: there are places for one call more, for one file more that is made,
-- with so many blocks of a new one, and for one name more in the directory's index.
pub record HasPlaces (s : SessionSeen) (dir' new_blocks : ℕ) : Type 0 where
  pub empty : IsTrue (is_some (empty_shown s dir'))
  pub calls : length s.calls < s.room.calls
  pub made : length s.made < s.room.made
  pub next : new_blocks ≤ s.room.next_blocks
  pub names : In dir' s.room.names

-- the pages of a new file of this size
abbrev pub new_pages : ℕ → ℕ
new_pages size = growth 0 (block_count size)

-- How it ends that room is made for an entry more of a directory, which wants so many pages and numbers, for a new file of this size. `all`
-- is the session with all that it was told: it has the slot, the pages of the new file are spare, and so are the same numbers; or it is as
-- it was, for want of room, which is noted too, or of memory.
abbrev pub RoomEnds : DeskSeen → ℕ → ℕ → ℕ → ℕ → List desk_calls.Call → List desk_calls.Call → Result Unit AllotFault → SessionSeen → SessionSeen → Type 0
RoomEnds desk dir size pages numbers given last (Ok done) all s' =
    (last ≡ []) × (allot_asks pages numbers ≡ map (λ c. c.ask) given) × IsAlike (with_slot dir all) s' × (length (spare_pages s') ≡ new_pages size) × HasNumbers s' numbers
    × HasPlaces s' dir (block_count size) × (spare_numbers s' ≡ spare_numbers all) × AreSpare desk s'
RoomEnds desk dir size pages numbers given last (Err fault) all s' =
    IsUngiven pages numbers fault given last s' × IsAlike all s' × (fault ≢ NoMemory → length s'.calls < s'.room.calls)

-- Room was made for an entry more of a directory, and for a new file of this size; and so many numbers are spare.
pub record MadeRoom {D : Type 0} (called : D → Ask → Told → D → Type 0) (seen : D → DeskSeen) (d : D) (s : SessionSeen) (dir numbers size : ℕ) (result' : Result Unit AllotFault) (d' : D) (s' : SessionSeen) : Type 0 where
  pub given : List desk_calls.Call
  pub last : List desk_calls.Call
  pub wanted : Wanted called seen d s given last d' s'
  pub lent : as_lent s (took s (map (λ c. c.told) given)) ≡ s
  pub ends : RoomEnds (seen d') dir size (slot_growth s dir + new_pages size) numbers given last result' (took s (map (λ c. c.told) given)) s'
