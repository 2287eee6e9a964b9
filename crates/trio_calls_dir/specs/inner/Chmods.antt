-- Words of a change of mode: of its search for the file, and of its tries.
use Rattle.std.specs.Prelude.{◌≡◌, ◌≤◌, ℕ, ◌==◌, Bool, ◌||◌, List, Option, Some}
use Rattle.std.specs.Option.{option_map_or}
use Rattle.trio_rights.specs.declared.rights.Creds.{Creds}
use Rattle.trio_rights.specs.declared.rights.Mode.{Mode}
use Rattle.trio_nodes.specs.declared.answers.ModeFault.{ModeFault}
use Rattle.trio_nodes.specs.declared.answers.ModeFault.TheVariants.{Busy as BusyMode, NoMemory as NoModeMemory}
use Rattle.trio_nodes.specs.declared.call.Call.{Call}
use Rattle.trio_nodes.specs.declared.call.Call.TheVariants.{Chmod}
use Rattle.trio_nodes.specs.Nodes.{Nodes}
use Rattle.trio_nodes.specs.Walk.{Path}
use Rattle.trio_desk.specs.Call.{Ask, DeskSeen, Told}
use Rattle.trio_desk.specs.Refusals.{HasModeCause}
use Rattle.trio_session.specs.Seen.{SessionSeen}
use Rattle.trio_walk.specs.declared.met.Met.{Met}
use Rattle.trio_walk.specs.Needs.{Needed, asked, chmod_needs}
use Rattle.trio_walk.specs.Walks.{AreAsked, served_by, shows_root}
use Rattle.trio_walk.specs.declared.walks.WalkEnd.{WalkEnd}
use Rattle.trio_walk.specs.declared.walks.WalkEnd.TheVariants.{At, Reply}
use Rattle.trio_walk.specs.declared.outcome.Outcome.{Outcome}
use Rattle.trio_calls_dir.specs.declared.chmods.ChmodTry.{ChmodTry}
use Rattle.trio_walk.specs.declared.attempts.TryEnd.{TryEnd}
use Rattle.trio_walk.specs.declared.attempts.TryEnd.TheVariants.{Busy as IsBusyTry, NoMemory as LacksMemory}
use Rattle.trio_calls_dir.specs.inner.Goes.{IsRefusal}
use Rattle.trio_calls_dir.specs.Chmods.{BreaksOff, ChmodTried, Comes, ComesSo, HandsIn, SetsMode}

-- ---- the search

-- how far a try comes by the search for its file
abbrev pub comes_of : WalkEnd → Comes
comes_of (At n) = SetsMode n
comes_of (Reply reply) = HandsIn reply
comes_of end = BreaksOff

-- What is true of the search in the nodes that the session shows.
pub record Finds (desk : DeskSeen) (s : SessionSeen) (path : Path) (mode : Mode) (end : WalkEnd) (these : List Needed) (nodes : Nodes) : Type 0 where
  pub so : ComesSo nodes desk.creds path mode (comes_of end)
  pub asks : AreAsked end these (asked (served_by s) (chmod_needs nodes desk.creds (shows_root s) path))

-- the library acts for the owner of a file that was met, or for uid 0
abbrev pub owner_met : Creds → Met → Bool
owner_met creds m = option_map_or (λ r. creds.uid == r.uid || creds.uid == 0) m.rights (creds.uid == 0)

-- a refusal by which the search ends is one of a check
abbrev pub RefusesBy : WalkEnd → Type 0
RefusesBy (Reply reply) = IsRefusal reply
RefusesBy end = Unit {0}

-- ---- the call

-- a call that changes a mode, to one that there is
abbrev pub IsChmodCall : Call → Type 0
IsChmodCall (Chmod path mode) = mode.0 ≤ 511
IsChmodCall call = ⊥

-- one try of it
abbrev pub TriesCall : {D : Type 0} (called : D → Ask → Told → D → Type 0) (seen : D → DeskSeen) → Call → D → SessionSeen → Outcome → D → SessionSeen → Type 0
TriesCall called seen (Chmod path mode) = ChmodTried called seen path mode
TriesCall called seen call = λ d s end d' s'. ⊥

-- a change of mode is refused as Busy, or for want of memory
abbrev pub IsRetold : ModeFault → Type 0
IsRetold (BusyMode holder) = Unit {0}
IsRetold NoModeMemory = Unit {0}
IsRetold fault = ⊥

-- whatever cause of a refusal of this change of mode is true, it is so refused
abbrev pub RefusesSo : DeskSeen → ℕ → Mode → Type 0
RefusesSo desk ino mode = (fault : ModeFault) → HasModeCause desk ino mode.0 fault → IsRetold fault

-- so it is, and the call comes back after Busy
abbrev pub ComesBack : Option Call → ModeFault → Type 0
ComesBack (Some call) (BusyMode holder) = Unit {0}
ComesBack back NoModeMemory = Unit {0}
ComesBack back fault = ⊥

-- how a try ends by it
abbrev pub IsUnset : Option Call → ModeFault → TryEnd ChmodTry → Type 0
IsUnset (Some call) (BusyMode holder) end = end ≡ IsBusyTry (record { 0 = call }) holder
IsUnset back NoModeMemory end = end ≡ LacksMemory
IsUnset back fault end = ⊥
