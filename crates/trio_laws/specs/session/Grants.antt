-- What a lease shows when it is given.
use Rattle.std.specs.Prelude.{◌≡◌, ℕ, [], ◌∷◌, map, None, Some}
use Rattle.trio_rights.specs.Row.{Row}
use Rattle.trio_nodes.specs.declared.grant.GrantKind.{GrantKind}
use Rattle.trio_nodes.specs.declared.grant.GrantKind.TheVariants.{Read, Write, Hold}
use Rattle.trio_lease.specs.Shown.{Shown}
use Rattle.trio_lease.specs.Views.{lent_sheet}
use Rattle.trio_lease.specs.declared.parts.HoldParts.{HoldParts}
use Rattle.trio_layout.specs.Image.{row_at}
use Rattle.trio_state.specs.Grants.{opened}
use Rattle.trio_state.specs.Kept.{Kept}
use Rattle.trio_state.specs.State.{OpenGrant, State}
use Rattle.trio_desk.specs.Contents.{Sizes}
use Rattle.trio_desk.specs.Agrees.{HasFile, HasHeld, HasPlaces}
use Rattle.trio_laws.specs.history.Stands.{nodes_of, writer_of}

-- the lease of a grant for reading or writing, as it was lent
pub record IsLeaseOf (g : OpenGrant) (f : Shown) : Type 0 where
  pub ino : f.ino ≡ g.ino
  pub kind : f.kind ≡ g.of
  pub body : f.body ≡ g.body
  pub blocks : map lent_sheet f.blocks ≡ g.blocks

-- the hold of a grant
pub record IsHoldOf (g : OpenGrant) (h : HoldParts) : Type 0 where
  pub ino : h.ino ≡ g.ino
  pub kind : h.kind ≡ g.of
  pub body : h.body ≡ g.body
  pub children : h.children ≡ g.children

-- the grant lends pages
abbrev pub LendsPages : GrantKind → Type 0
LendsPages Read = Unit {0}
LendsPages Write = Unit {0}
LendsPages Hold = ⊥

-- What a lease for reading or writing shows is true of the nodes at its grant, and the rows name the places of its entries. No write
-- grant is open on the file then.
abbrev pub LeaseShows : Type 0
LeaseShows =
    (s : State) (lib ino : ℕ) (kind : GrantKind) (r : Row) (sizes : Sizes) (f : Shown)
    → Kept s → row_at s.home ino ≡ Some r → LendsPages kind → writer_of s ino ≡ None → sizes.inodes ≡ s.home.core.inodes
    → IsLeaseOf (opened s lib ino kind r) f
    → HasFile sizes (nodes_of s) f × HasPlaces sizes (record { files = f ∷ []; holds = [] }) s.home.rows

-- What a hold shows is, too.
abbrev pub HoldShows : Type 0
HoldShows =
    (s : State) (lib ino : ℕ) (r : Row) (h : HoldParts)
    → Kept s → row_at s.home ino ≡ Some r → IsHoldOf (opened s lib ino Hold r) h → HasHeld (nodes_of s) h
