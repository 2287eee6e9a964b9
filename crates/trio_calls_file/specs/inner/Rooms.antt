-- Words of the room that is made for an edit of a file: places that take no memory then, and pages.
use Rattle.std.specs.Prelude.{◌≢◌, ◌<◌, ◌≤◌, ℕ, List, map, length, Result, Err}
use Rattle.trio_layout.specs.Body.{block_count}
use Rattle.trio_nodes.specs.declared.answers.AllotFault.{AllotFault}
use Rattle.trio_nodes.specs.declared.answers.AllotFault.TheVariants.{NoMemory}
use Rattle.trio_desk.specs.Call.{Ask, DeskSeen, Told}
use Rattle.trio_desk.specs.Calls as desk_calls
use Rattle.trio_session.specs.Asked.{IsAlike, took}
use Rattle.trio_session.specs.Layout.{growth}
use Rattle.trio_session.specs.Seen.{SessionSeen, room_in}
use Rattle.trio_edit_laws.specs.Allotting.{AllotEnds, FilesStay, Wanted}

-- there is a place for one call more, and there are places for so many blocks of a file
pub record HasPlaces (s : SessionSeen) (ino' blocks' : ℕ) : Type 0 where
  pub calls : length s.calls < s.room.calls
  pub blocks : blocks' ≤ room_in s ino'

-- Room was made for a file that comes from one size to another: there are places, unless there was no memory for them, and pages.
pub record MadeRoom {D : Type 0} (called : D → Ask → Told → D → Type 0) (seen : D → DeskSeen) (d : D) (s : SessionSeen) (ino old size' : ℕ) (result' : Result Unit AllotFault) (d' : D) (s' : SessionSeen) : Type 0 where
  pub given : List desk_calls.Call
  pub last : List desk_calls.Call
  pub wanted : Wanted called seen d s given last d' s'
  pub alike : IsAlike (took s (map (λ c. c.told) given)) s'
  pub files : FilesStay s s'
  pub ends : AllotEnds (seen d') (growth (block_count old) (block_count size')) 0 given last result' s'
  pub places : result' ≢ Err NoMemory → HasPlaces s' ino (block_count size')
