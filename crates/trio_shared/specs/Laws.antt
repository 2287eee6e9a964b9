-- The laws of what logs leave.
use Rattle.std.specs.Prelude.{◌≡◌, List, [], ◌++◌}
use Rattle.trio_rights.specs.declared.rights.LibNo.{LibNo}
use Rattle.trio_nodes.specs.declared.entry.Entry.{Entry}
use Rattle.trio_state.specs.State.{State}
use Rattle.trio_laws.specs.Known.{known}
use Rattle.trio_turn.specs.Logs.{made_by}
use Rattle.trio_turn.specs.Origins.{Origin}
use Rattle.trio_ctl.specs.Desk.{desk_of}
use Rattle.trio_shared.specs.Left.{Leaves, desk_left}

-- states that one log leaves agree in all that is known of a state
abbrev pub LeavesOne : Type 0
LeavesOne = (first : Origin) (log : List Entry) (s t : State) → Leaves first log s → Leaves first log t → known s ≡ known t

-- what is seen of a library's desk goes by the log alone
abbrev pub DeskIsLeft : Type 0
DeskIsLeft = (first : Origin) (log : List Entry) (s : State) (lib : LibNo) → Leaves first log s → desk_of s lib ≡ desk_left first log lib

-- entries of others leave it
abbrev pub OthersLeave : Type 0
OthersLeave =
    (first : Origin) (log others : List Entry) (s : State) (lib : LibNo)
    → Leaves first (log ++ others) s → made_by lib.0 others ≡ [] → desk_left first (log ++ others) lib ≡ desk_left first log lib
