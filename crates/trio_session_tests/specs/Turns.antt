-- Sessions of two libraries at desks of one controller, in turns.
use Rattle.std.specs.Prelude.{◌≡◌, Bool, true, false, List, None}
use Rattle.trio_rights.specs.declared.rights.LibNo.{LibNo}
use Rattle.trio_nodes.specs.declared.call.Call as call
use Rattle.trio_nodes.specs.declared.call.Call.TheVariants.{Write, Read, Truncate, Stat}
use Rattle.trio_desk.specs.Call.{Ask, Told}
use Rattle.trio_desk.specs.Calls.{Call, Calls}
use Rattle.trio_state.specs.Moves.{Underway, begun_by}
use Rattle.trio_session.specs.Seen.{SessionSeen}
use Rattle.trio_edit_laws.specs.Calls.{MayCall}
use Rattle.trio_calls_file.specs.Asks.{IsFileCall}
use Rattle.trio_calls_dir.specs.Dir.{IsDirCall}
use Rattle.trio_ctl.specs.Ctl.{IsLibrary}
use Rattle.trio_ctl.specs.Desk.{desk_of}

-- the first of two libraries
abbrev pub first_lib : LibNo
first_lib = record { 0 = 1 }

-- a call on a file; the others are on directories and on modes
abbrev pub is_of_file : call.Call → Bool
is_of_file (Write path at bytes) = true
is_of_file (Read path at len) = true
is_of_file (Truncate path size) = true
is_of_file (Stat path) = true
is_of_file k = false

-- a call that an honest library makes
abbrev pub IsCallOf : Bool → call.Call → Type 0
IsCallOf true k = IsFileCall k
IsCallOf false k = IsDirCall k

abbrev pub IsCall : call.Call → Type 0
IsCall k = IsCallOf (is_of_file k) k

-- a library may go on with its session: it is idle
pub record MayPlay (u : Underway) (lib : LibNo) (session : SessionSeen) : Type 0 where
  pub library : IsLibrary lib u.state
  pub idle : begun_by u lib.0 ≡ None
  pub may : MayCall (desk_of u.state lib) session

-- some calls lead from one desk to another
abbrev pub SomeCalls : {D : Type 0} → (D → Ask → Told → D → Type 0) → D → D → Type 0
SomeCalls called d d' = (cs : List Call) × Calls called d cs d'

-- A turn of one library: no library comes or goes, no release begins or ends, and what is seen of another's desk stays.
pub record IsTurn (lib : LibNo) (u u' : Underway) : Type 0 where
  pub libraries : u'.state.creds ≡ u.state.creds
  pub begun : u'.begun ≡ u.begun
  pub others : (other : LibNo) → (other.0 ≡ lib.0 → ⊥) → desk_of u'.state other ≡ desk_of u.state other
