-- What a refused grant and a refused change of mode tell of the tree, and a refused allotment of what is free.
use Rattle.std.specs.Prelude.{◌≡◌, ◌<◌, ⊤, ℕ, List, ◌++◌, map, Option, None, Some, IsFalse}
use Rattle.trio_rights.specs.Row.{Row}
use Rattle.trio_rights.specs.declared.rights.Creds.{Creds}
use Rattle.std.specs.Option.{option_map}
use Rattle.trio_rights.specs.declared.kind.Kind.{Kind}
use Rattle.trio_lists.specs.Lists.{In}
use Rattle.trio_lease.specs.declared.lease.Lease.{Lease}
use Rattle.trio_lease.specs.declared.lease.Lease.TheVariants.{Write, Read, Hold}
use Rattle.trio_nodes.specs.declared.grant.GrantKind.{GrantKind}
use Rattle.trio_nodes.specs.declared.grant.GrantKind.TheVariants.{Hold as ToHold}
use Rattle.trio_nodes.specs.declared.answers.GrantFault.{GrantFault}
use Rattle.trio_nodes.specs.declared.answers.GrantFault.TheVariants.{NotLive, Denied, NoParent}
use Rattle.trio_nodes.specs.declared.answers.AllotFault.TheVariants.{NoInodes, NoPages}
use Rattle.trio_nodes.specs.declared.answers.ModeFault.{ModeFault}
use Rattle.trio_nodes.specs.declared.answers.ModeFault.TheVariants.{NotLive as NoFile, NotOwner, BadMode}
use Rattle.trio_nodes.specs.declared.node.Node.{Node}
use Rattle.trio_nodes.specs.Nodes.{Nodes, node_at}
use Rattle.trio_nodes.specs.Legal.{grant_denier, is_owner}
use Rattle.trio_nodes.specs.Tree.{IsTree}
use Rattle.trio_desk.specs.Agrees.{Agrees, HasPlaces, Leases, SaySame}
use Rattle.trio_desk.specs.Call.{Allot, Ask, DeskSeen, Grant, Lent, NotGiven, NotLent, NotModeSet, SetMode, Told}
use Rattle.trio_desk.specs.Out.{LibOut}

-- all leases that are out, as they were lent
abbrev pub leases_out : LibOut → Leases
leases_out out = record { files = out.writes ++ out.reads; holds = out.holds }

-- The cause of a refusal is true of these nodes: the file isn't live; this number denies what is needed; of a hold, the directory isn't
-- lent to the library for writing. Busy and want of memory say nothing of the nodes.
abbrev pub IsCause : Nodes → Creds → LibOut → ℕ → GrantKind → GrantFault → Type 0
IsCause nodes creds out ino kind NotLive = node_at nodes ino ≡ None
IsCause nodes creds out ino kind (Denied by) = grant_denier nodes creds ino kind ≡ Some by
IsCause nodes creds out ino kind NoParent = (kind ≡ ToHold) × ((x : Node) → node_at nodes ino ≡ Some x → In x.parent (map (λ w. w.ino) out.writes) → ⊥)
IsCause nodes creds out ino kind fault = ⊤

-- The nodes of a moment, with their rows: one tree that agrees with all that is out to the library, and has none of the allotted numbers.
-- So what leases show is never refused as if it weren't so.
pub record HasMoment (desk : DeskSeen) : Type 0 where
  pub nodes : Nodes
  pub rows : List (Option Row)
  pub tree : IsTree nodes
  pub agrees : Agrees desk.sizes desk.root (leases_out desk.out) nodes
  pub none : (n : ℕ) → In n desk.out.numbers → node_at nodes n ≡ None
  pub same : SaySame rows nodes
  pub places : HasPlaces desk.sizes (leases_out desk.out) rows

-- a grant is refused at a moment at which its cause is true
pub record HasCause (desk : DeskSeen) (ino : ℕ) (kind : GrantKind) (fault : GrantFault) : Type 0 where
  pub moment : HasMoment desk
  pub cause : IsCause moment.nodes desk.creds desk.out ino kind fault

-- the kind of the file of a lease
abbrev pub file_kind : Lease → Kind
file_kind (Write f) = f.lent.kind
file_kind (Read f) = f.kind
file_kind (Hold h) = h.kind

-- a grant is given at a moment at which the file is live, and of this kind
pub record HasKind (desk : DeskSeen) (ino : ℕ) (kind' : Kind) : Type 0 where
  pub moment : HasMoment desk
  pub kind : option_map (λ x. x.kind) (node_at moment.nodes ino) ≡ Some kind'

-- The cause for which a change of mode is refused is true of these nodes: the file isn't live; it is the root, or the library acts neither
-- for its owner nor for uid 0; the mode is above 0o777. Busy and want of memory say nothing of the nodes.
abbrev pub IsModeCause : Nodes → Creds → ℕ → ℕ → ModeFault → Type 0
IsModeCause nodes creds ino mode NoFile = node_at nodes ino ≡ None
IsModeCause nodes creds ino mode NotOwner = IsFalse (is_owner creds ino (node_at nodes ino))
IsModeCause nodes creds ino mode BadMode = 511 < mode
IsModeCause nodes creds ino mode fault = ⊤

-- a change of mode is refused at a moment at which its cause is true
pub record HasModeCause (desk : DeskSeen) (ino mode : ℕ) (fault : ModeFault) : Type 0 where
  pub moment : HasMoment desk
  pub cause : IsModeCause moment.nodes desk.creds ino mode fault

-- a refused grant has its cause, and so has a refused change of mode; what is lent is of the kind that its file has
abbrev pub TellsCause : DeskSeen → Ask → Told → Type 0
TellsCause desk (Grant ino kind) (Lent lease) = HasKind desk ino (file_kind lease)
TellsCause desk (Grant ino kind) (NotLent fault) = HasCause desk ino kind fault
TellsCause desk (SetMode ino mode back call) (NotModeSet fault) = HasModeCause desk ino mode fault
TellsCause desk ask told = ⊤

-- an allotment is refused where more is asked than is free, with both numbers: pages before inode numbers
abbrev pub TellsLack : Ask → Told → Type 0
TellsLack (Allot pages numbers) (NotGiven (NoPages wanted free)) = (wanted ≡ pages) × (free < wanted)
TellsLack (Allot pages numbers) (NotGiven (NoInodes wanted free)) = (wanted ≡ numbers) × (free < wanted)
TellsLack ask told = ⊤
