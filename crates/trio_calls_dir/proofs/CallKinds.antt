-- A call is one on a mode, or one on a directory's entries.
use Rattle.trio_calls_dir.proofs.Words.{◌≡◌, Ask, Call, Chmod, DeskSeen, DirCalled, IsDirCall, Mode, Outcome, Path, SessionSeen, Told, refl}
use Rattle.trio_calls_dir.specs.Asks.{EntryCalled, IsEntryCall}

-- what is no change of a mode is a call on entries
pub entry_is : (call : Call) → ((path : Path) (mode : Mode) → call ≡ Chmod path mode → ⊥) → IsDirCall call → IsEntryCall call
entry_is (Chmod path mode) other is = absurd (other path mode refl)
entry_is call other is = is

pub entry_called : {D : Type 0} (called : D → Ask → Told → D → Type 0) (seen : D → DeskSeen) (d : D) (s : SessionSeen) (call : Call) (end : Outcome) (d' : D) (s' : SessionSeen) → ((path : Path) (mode : Mode) → call ≡ Chmod path mode → ⊥)
    → EntryCalled called seen d s call end d' s' → DirCalled called seen d s call end d' s'
entry_called called seen d s (Chmod path mode) end d' s' other c = absurd (other path mode refl)
entry_called called seen d s call end d' s' other c = c
