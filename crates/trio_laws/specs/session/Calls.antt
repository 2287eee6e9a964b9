-- How a session stays ready through its calls.
use Rattle.std.specs.Prelude.{List, [], ◌∷◌, ◌++◌}
use Rattle.trio_lease.specs.Shown.{Shown}
use Rattle.trio_nodes.specs.declared.call.Done.{Done}
use Rattle.trio_nodes.specs.Nodes.{Nodes}
use Rattle.trio_desk.specs.Call.{DeskSeen}
use Rattle.trio_desk.specs.Ready.{ComesToShown}
use Rattle.trio_desk.specs.Edits.{InHand, nothing, TakesMore, EditShows, CallDoes}

-- A session begins so: with nothing written or held and no calls done it comes to what it shows, whatever it has for reading.
abbrev pub NothingIsReady : Type 0
NothingIsReady = (desk : DeskSeen) (back : List Shown) → ComesToShown desk nothing back []

-- A call whose takings and edits show the change that the call makes: the session comes to what it shows again.
abbrev pub CallKeeps : Type 0
CallKeeps =
    (desk : DeskSeen) (h h' : InHand) (calls : List Done) (d : Done) (change : Nodes → Nodes)
    → TakesMore desk h h' → EditShows desk h h' change → CallDoes desk h h' d change
    → ComesToShown desk h.parcel h.back calls → ComesToShown desk h'.parcel h'.back (calls ++ d ∷ [])

-- A call that changes nothing, whether it looks or is refused, for which more files were taken for reading.
abbrev pub LookKeeps : Type 0
LookKeeps =
    (desk : DeskSeen) (h : InHand) (more : List Shown) (calls : List Done) (d : Done)
    → CallDoes desk h (record { parcel = h.parcel; back = h.back ++ more }) d (λ nodes. nodes)
    → ComesToShown desk h.parcel h.back calls → ComesToShown desk h.parcel (h.back ++ more) (calls ++ d ∷ [])
