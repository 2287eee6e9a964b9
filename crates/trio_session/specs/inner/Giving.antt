-- What a desk gave, and where it is kept. Cited by private functions alone.
use Rattle.std.specs.Prelude.{◌≡◌, ◌<◌, ◌^◌, ℕ, ◌++◌, ◌∷◌, [], List, Result, Ok, Err, length}
use Rattle.trio_lease.specs.declared.fresh.Allotted.{Allotted}
use Rattle.trio_nodes.specs.declared.answers.AllotFault.{AllotFault}
use Rattle.trio_nodes.specs.declared.answers.AllotFault.TheVariants.{NoMemory as NoAllotMemory}
use Rattle.trio_lease.specs.Shown.{Shown, LentFile}
use Rattle.trio_lease.specs.declared.lease.Lease.{Lease}
use Rattle.trio_lease.specs.declared.lease.Lease.TheVariants.{Write, Read, Hold}
use Rattle.trio_nodes.specs.declared.grant.GrantKind.{GrantKind}
use Rattle.trio_nodes.specs.declared.answers.GrantFault.{GrantFault}
use Rattle.trio_nodes.specs.declared.answers.GrantFault.TheVariants.{NoMemory as NoGrantMemory}
use Rattle.trio_session.specs.declared.laid.Laid.{Laid}
use Rattle.trio_session.specs.Seen.{SessionSeen}
use Rattle.trio_session.specs.Asked.{IsSame, with_lease}
use Rattle.trio_desk.specs.Out.{HasWanted, Parcel, IsFreshAllotment, IsFreshLease, kind_lent, page_numbers, ino_numbers}
use Rattle.trio_desk.specs.Refusals.{TellsCause, TellsLack}
use Rattle.trio_desk.specs.Call.{Ask, Allot, Grant, Told, Given, NotGiven, Lent, NotLent, DeskSeen, SeenAfter, TellsHolder}

-- with all that was allotted behind the rest
abbrev pub with_given : Parcel → Allotted → Parcel
with_given p given = record p { pages = p.pages ++ given.pages.items; inodes = p.inodes ++ given.inodes.items }

-- An allotment was given and is kept, was refused, or wasn't asked for want of memory.
pub data Allots {D : Type 0} (called : D → Ask → Told → D → Type 0) (seen : D → DeskSeen) (d : D) (pages numbers : ℕ) (d' : D) (p p' : Parcel) (result : Result Unit AllotFault) : Type 0 where
  Gave : (given : Allotted) → called d (Allot pages numbers) (Given (page_numbers given.pages.items) (ino_numbers given.inodes.items)) d'
      → SeenAfter (seen d) (Allot pages numbers) (Given (page_numbers given.pages.items) (ino_numbers given.inodes.items)) (seen d')
      → IsFreshAllotment (seen d).lib (seen d).sizes (seen d).out given → HasWanted pages numbers given → p' ≡ with_given p given → result ≡ Ok tt
      → Allots called seen d pages numbers d' p p' result
  Refused : (fault : AllotFault) → called d (Allot pages numbers) (NotGiven fault) d' → SeenAfter (seen d) (Allot pages numbers) (NotGiven fault) (seen d')
      → TellsLack (Allot pages numbers) (NotGiven fault) → p' ≡ p → result ≡ Err fault → Allots called seen d pages numbers d' p p' result
  Unasked : d' ≡ d → p' ≡ p → result ≡ Err NoAllotMemory → Allots called seen d pages numbers d' p p' result

-- ---- leases

-- with one more lease
abbrev pub with_leased : Parcel → Lease → Parcel
with_leased p (Write f) = record p { writes = p.writes ++ f ∷ [] }
with_leased p (Read f) = p
with_leased p (Hold h) = record p { holds = p.holds ++ h ∷ [] }

-- with one more read lease
abbrev pub reads_leased : List Shown → Lease → List Shown
reads_leased reads (Read f) = reads ++ f ∷ []
reads_leased reads other = reads

-- where the pages of a new file stand: as it was lent
pub record IsNewLaid (f : LentFile) (l : Laid) : Type 0 where
  pub index_kept : l.index_kept ≡ length f.stands.index
  pub blocks_kept : l.blocks_kept ≡ length f.stands.blocks
  pub index_more : l.index_more.items ≡ []
  pub blocks_more : l.blocks_more.items ≡ []
  pub index_narrow : l.index_kept < 2 ^ 64
  pub blocks_narrow : l.blocks_kept < 2 ^ 64

-- beside a new written file its places are told
abbrev pub LaidLeased : List Laid → Lease → List Laid → Type 0
LaidLeased ls (Write f) ls' = (l : Laid) × IsNewLaid f l × (ls' ≡ ls ++ l ∷ [])
LaidLeased ls other ls' = ls' ≡ ls

-- A lease was given and is kept, was refused, or wasn't asked for want of memory.
pub data Grants {D : Type 0} (called : D → Ask → Told → D → Type 0) (seen : D → DeskSeen) (d : D) (ino : ℕ) (kind : GrantKind) (d' : D)
    (p p' : Parcel) (reads reads' : List Shown) (ls ls' : List Laid) (result : Result Unit GrantFault) : Type 0 where
  Granted : (lease : Lease) → called d (Grant ino kind) (Lent lease) d' → SeenAfter (seen d) (Grant ino kind) (Lent lease) (seen d')
      → IsFreshLease (seen d).lib ino (seen d).sizes (seen d).out lease → kind_lent lease ≡ kind → TellsCause (seen d) (Grant ino kind) (Lent lease)
      → p' ≡ with_leased p lease → reads' ≡ reads_leased reads lease → LaidLeased ls lease ls'
      → result ≡ Ok tt → Grants called seen d ino kind d' p p' reads reads' ls ls' result
  Denied : (fault : GrantFault) → called d (Grant ino kind) (NotLent fault) d' → SeenAfter (seen d) (Grant ino kind) (NotLent fault) (seen d') → TellsHolder (seen d).lib (seen d).out (Grant ino kind) (NotLent fault)
      → TellsCause (seen d) (Grant ino kind) (NotLent fault) → p' ≡ p → reads' ≡ reads → ls' ≡ ls → result ≡ Err fault → Grants called seen d ino kind d' p p' reads reads' ls ls' result
  NoPlace : d' ≡ d → p' ≡ p → reads' ≡ reads → ls' ≡ ls → result ≡ Err NoGrantMemory → Grants called seen d ino kind d' p p' reads reads' ls ls' result

-- ---- the session after a grant

-- after a grant that was asked: the lease is kept
abbrev pub AfterGrant : SessionSeen → Result Unit GrantFault → SessionSeen → Told → Type 0
AfterGrant s result s' (Lent lease) = (result ≡ Ok tt) × IsSame (with_lease s lease) s'
AfterGrant s result s' (NotLent fault) = (result ≡ Err fault) × IsSame s s'
AfterGrant s result s' told = ⊥

-- no grant was asked: there was no memory for its place
abbrev pub NoGrant : SessionSeen → Result Unit GrantFault → SessionSeen → Type 0
NoGrant s result s' = (result ≡ Err NoGrantMemory) × IsSame s s'
