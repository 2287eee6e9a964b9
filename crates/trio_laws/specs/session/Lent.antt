-- What open grants lent is true for as long as they are open.
use Rattle.std.specs.Prelude.{◌≡◌, ℕ, List, [], ◌∷◌}
use Rattle.trio_rights.specs.declared.kind.Kind.TheVariants.{Directory}
use Rattle.trio_rights.specs.declared.rights.Creds.{Creds}
use Rattle.trio_lists.specs.Lists.{In}
use Rattle.trio_layout.specs.Image.{Image, IsFit}
use Rattle.trio_layout.specs.Verifies.{Verifies}
use Rattle.trio_lease.specs.Shown.{Shown}
use Rattle.trio_lease.specs.declared.parts.HoldParts.{HoldParts}
use Rattle.trio_nodes.specs.declared.entry.Entry.{Entry}
use Rattle.trio_nodes.specs.declared.grant.GrantKind.TheVariants.{Hold}
use Rattle.trio_desk.specs.Contents.{Sizes, Rights, rights_in}
use Rattle.trio_desk.specs.Agrees.{HasFile, HasHeld, HasPlaces, Leases}
use Rattle.trio_state.specs.State.{OpenGrant, State}
use Rattle.trio_state.specs.Given.{GivenEvent}
use Rattle.trio_state.specs.Kept.{Kept}
use Rattle.trio_state.specs.Run.{IsWhole}
use Rattle.trio_state.specs.Step.{Event, CtlAnswer, Step}
use Rattle.trio_laws.specs.history.Recorded.{LentWhole}
use Rattle.trio_laws.specs.history.Replays.{Replays}
use Rattle.trio_laws.specs.history.Stands.{nodes_of}
use Rattle.trio_laws.specs.session.Grants.{IsLeaseOf, IsHoldOf, LendsPages}
use Rattle.trio_laws.specs.session.Others.{LeasesHold}

-- ---- what a library knows once and for all

-- the sizes of the image of a state
abbrev pub sizes_of : State → Sizes
sizes_of s = record { range = s.home.core.range; inodes = s.home.core.inodes }

-- the rights of its root
abbrev pub root_of : State → Rights
root_of s = rights_in Directory s.home.core.root

-- No step changes them.
abbrev pub StepKeepsRoot : Type 0
StepKeepsRoot =
    (s : State) (event : Event) (answer : CtlAnswer) (s' : State)
    → Kept s → LentWhole s → GivenEvent s event → Step s event answer s' → (sizes_of s' ≡ sizes_of s) × (root_of s' ≡ root_of s)

-- ---- what is lent

-- the lease of one file
abbrev pub lease_of : Shown → Leases
lease_of f = record { files = f ∷ []; holds = [] }

-- What each open grant lent is true of a state: the nodes have what a lease shows, and the rows name the slots of its entries; and
-- they have what a hold shows.
pub record LentIsTrue (s : State) : Type 0 where
  pub files :
      (g : OpenGrant) (f : Shown) → In g s.open_grants → LendsPages g.kind → IsLeaseOf g f
      → HasFile (sizes_of s) (nodes_of s) f × HasPlaces (sizes_of s) (lease_of f) s.home.rows
  pub holds : (g : OpenGrant) (h : HoldParts) → In g s.open_grants → g.kind ≡ Hold → IsHoldOf g h → HasHeld (nodes_of s) h

-- Each step leaves it so, whoever's call it is, whatever that library hands in and whatever it is answered.
abbrev pub StepKeepsLent : Type 0
StepKeepsLent =
    (s : State) (event : Event) (answer : CtlAnswer) (s' : State)
    → Kept s → LentWhole s → GivenEvent s event → Step s event answer s' → LentIsTrue s → LentIsTrue s'

-- So it is in each state to which a log replays from an image that verifies.
abbrev pub LentStaysTrue : Type 0
LentStaysTrue =
    (image : Image) (creds : List Creds) (log : List Entry) (s : State)
    → IsFit image.core → Verifies image → IsWhole image → Replays image creds log s → LentIsTrue s

-- ---- all that a library has out

-- a file as an open grant of the library lent it
pub record IsLentTo (s : State) (lib' : ℕ) (f : Shown) : Type 0 where
  pub grant : OpenGrant
  pub is_open : In grant s.open_grants
  pub lib : grant.lib ≡ lib'
  pub lends : LendsPages grant.kind
  pub lease : IsLeaseOf grant f

-- a hold as an open grant of the library gave it
pub record IsHeldBy (s : State) (lib' : ℕ) (h : HoldParts) : Type 0 where
  pub grant : OpenGrant
  pub is_open : In grant s.open_grants
  pub lib : grant.lib ≡ lib'
  pub kind : grant.kind ≡ Hold
  pub hold : IsHoldOf grant h

-- these leases are the library's, each as it was lent
pub record AreLentTo (s : State) (lib : ℕ) (leases : Leases) : Type 0 where
  pub files : (f : Shown) → In f leases.files → IsLentTo s lib f
  pub holds : (h : HoldParts) → In h leases.holds → IsHeldBy s lib h

-- What they show holds, all at once.
abbrev pub LeasesStayTrue : Type 0
LeasesStayTrue =
    (s : State) (lib : ℕ) (leases : Leases)
    → Kept s → LentIsTrue s → AreLentTo s lib leases → LeasesHold s lib (sizes_of s) (root_of s) leases
