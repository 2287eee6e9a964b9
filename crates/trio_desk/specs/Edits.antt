-- What a session keeps in hand, edits of it, and calls that are noted.
use Rattle.std.specs.Prelude.{◌≡◌, ℕ, ◌==◌, List, [], Option, None, Some, if◌then◌else◌}
use Rattle.trio_rights.specs.Row.{Row}
use Rattle.trio_rights.specs.declared.kind.Kind.{Kind}
use Rattle.trio_lease.specs.Shown.{Shown}
use Rattle.trio_nodes.specs.declared.call.Done.{Done}
use Rattle.trio_nodes.specs.Nodes.{Nodes}
use Rattle.trio_nodes.specs.Apply.{Apply}
use Rattle.trio_nodes.specs.After.{call_nodes}
use Rattle.trio_nodes.specs.Legal.{MadeFits}
use Rattle.trio_nodes.specs.Tree.{IsTree}
use Rattle.trio_desk.specs.Out.{Parcel}
use Rattle.trio_desk.specs.Shows.{Naming, Shows}
use Rattle.trio_desk.specs.Call.{DeskSeen}
use Rattle.trio_desk.specs.Ready.{ArePossible, parcel_case}

-- what a session would hand in, and the read leases that it would give back
pub record InHand : Type 0 where
  pub parcel : Parcel
  pub back : List Shown

-- a session begins with nothing written or held
abbrev pub nothing : Parcel
nothing = record { writes = []; holds = []; pages = []; inodes = [] }

-- whatever is possible after more was taken was possible before
abbrev pub TakesMore : DeskSeen → InHand → InHand → Type 0
TakesMore desk h h' =
    (nodes : Nodes) (rows : List (Option Row))
    → ArePossible desk h'.parcel h'.back nodes rows → ArePossible desk h.parcel h.back nodes rows

-- Nodes and rows that are possible after more was taken, and the nodes that what was in hand before shows in their place: one tree too.
pub record MayShow (desk : DeskSeen) (h h' : InHand) (nodes nodes' : Nodes) (rows : List (Option Row)) : Type 0 where
  pub possible : ArePossible desk h'.parcel h'.back nodes rows
  pub tree : IsTree nodes'
  pub shows : Shows (parcel_case desk.sizes desk.creds rows h.parcel) nodes nodes'

-- What a session has in hand becomes this by edits and by what it takes; the nodes that it shows change so.
abbrev pub EditShows : DeskSeen → InHand → InHand → (Nodes → Nodes) → Type 0
EditShows desk h h' change =
    (nodes nodes' : Nodes) (rows : List (Option Row)) → MayShow desk h h' nodes nodes' rows
    → Shows (parcel_case desk.sizes desk.creds rows h'.parcel) nodes (change nodes')

-- the tree does this call with this reply, and it changes the nodes so
abbrev pub DoesCall : DeskSeen → Done → Nodes → Nodes → Type 0
DoesCall desk d nodes after =
    let nodes' = call_nodes desk.creds nodes d in
    Apply nodes desk.creds d.call d.made d.reply nodes' × MadeFits nodes d × (nodes' ≡ after)

-- so it does on all nodes that what is in hand may show
abbrev pub CallDoes : DeskSeen → InHand → InHand → Done → (Nodes → Nodes) → Type 0
CallDoes desk h h' d change =
    (nodes nodes' : Nodes) (rows : List (Option Row)) → MayShow desk h h' nodes nodes' rows → DoesCall desk d nodes' (change nodes')

-- ---- what a session reads

-- what the directory's own pages say of a number, as they stand, by the entry that names it
abbrev pub listed_now : ℕ → Option Naming → Option (List ℕ × Kind)
listed_now directory None = None
listed_now directory (Some e) = if e.directory == directory then Some (e.listed.entry.name, e.listed.entry.kind) else None
