-- The calls of this library: on a directory's entries, and on a mode.
use Rattle.std.specs.Prelude.{◌≤◌}
use Rattle.trio_nodes.specs.declared.call.Call.{Call}
use Rattle.trio_nodes.specs.declared.call.Call.TheVariants.{Chmod}
use Rattle.trio_desk.specs.Call.{Ask, DeskSeen, Told}
use Rattle.trio_session.specs.Seen.{SessionSeen}
use Rattle.trio_walk.specs.declared.outcome.Outcome.{Outcome}
use Rattle.trio_calls_dir.specs.Asks.{EntryCalled, IsEntryCall}
use Rattle.trio_calls_dir.specs.Chmods.{ChmodCalled}

-- it changes a mode, to one of nine bits; or it is a call on a directory's entries
abbrev pub IsDirCall : Call → Type 0
IsDirCall (Chmod path mode) = mode.0 ≤ 511
IsDirCall call = IsEntryCall call

-- such a call of a session at a desk: which calls of the desk it makes, and how it ends
abbrev pub DirCalled : {D : Type 0} (called : D → Ask → Told → D → Type 0) (seen : D → DeskSeen) → D → SessionSeen → Call → Outcome → D → SessionSeen → Type 0
DirCalled called seen d s (Chmod path mode) end d' s' = ChmodCalled called seen d s path mode end d' s'
DirCalled called seen d s call end d' s' = EntryCalled called seen d s call end d' s'
