-- What comes of a session's calls of its desk, by what the desk told it.
use Rattle.std.specs.Prelude.{◌≡◌, ◌⊎◌, ⊤, ℕ, ◌==◌, Bool, ◌&&◌, IsTrue, IsErr, List, [], ◌∷◌, ◌++◌, map, length, Option, Some, Result, Ok, Err, if◌then◌else◌}
use Rattle.trio_layout.specs.Chain.{Chain}
use Rattle.trio_lists.specs.Lists.{In}
use Rattle.trio_lease.specs.Shown.{LentFile, Shown}
use Rattle.trio_lease.specs.declared.lease.Lease.{Lease}
use Rattle.trio_lease.specs.declared.lease.Lease.TheVariants.{Write, Read, Hold}
use Rattle.trio_nodes.specs.declared.answers.GrantFault.{GrantFault}
use Rattle.trio_nodes.specs.declared.answers.GrantFault.TheVariants.{NoMemory as NoGrantMemory}
use Rattle.trio_nodes.specs.declared.call.Call.{Call}
use Rattle.trio_nodes.specs.declared.answers.ModeFault.{ModeFault}
use Rattle.trio_nodes.specs.declared.answers.AllotFault.{AllotFault}
use Rattle.trio_nodes.specs.declared.answers.AllotFault.TheVariants.{NoMemory as NoAllotMemory}
use Rattle.trio_desk.specs.Out.{HasWanted, IsFreshAllotment, IsFreshLease, ino_numbers, kind_lent, lent_numbers, new_ino, page_numbers, zero_page}
use Rattle.trio_desk.specs.Refusals.{TellsCause, TellsLack}
use Rattle.trio_lease.specs.declared.fresh.Allotted.{Allotted}
use Rattle.trio_desk.specs.Call.{Allot, Ask, DeskSeen, Grant, SeenAfter, SetMode, TellsHolder, Told, Lent, NotLent, Given, NotGiven, ModeSet, NotModeSet, Settled, NotSettled, call_back}
use Rattle.trio_desk.specs.Calls as desk_calls
use Rattle.trio_desk.specs.Calls.{OneCall}
use Rattle.trio_nodes.specs.declared.grant.GrantKind.{GrantKind}
use Rattle.trio_session.specs.Seen.{SessionSeen, emptied}

-- the chain of a file as it was lent
abbrev pub lent_chain : LentFile → Chain
lent_chain f = record { index = lent_numbers f.lent.index; blocks = lent_numbers f.lent.blocks }

-- with one more lease
abbrev pub with_lease : SessionSeen → Lease → SessionSeen
with_lease s (Write f) =
    record s { parcel = record s.parcel { writes = s.parcel.writes ++ f ∷ [] }; chains = s.chains ++ lent_chain f ∷ [] }
with_lease s (Read f) = record s { reads = s.reads ++ f ∷ [] }
with_lease s (Hold h) = record s { parcel = record s.parcel { holds = s.parcel.holds ++ h ∷ [] } }

-- with more pages, all zero, and more numbers
abbrev pub with_allotted : SessionSeen → List ℕ → List ℕ → SessionSeen
with_allotted s pages numbers = record s {
  parcel = record s.parcel {
    pages = s.parcel.pages ++ map (zero_page s.lib) pages;
    inodes = s.parcel.inodes ++ map (new_ino s.lib) numbers;
  };
}

-- the same session, but for its room and for directories that got their index
pub record SameBut (s s' : SessionSeen) : Type 0 where
  pub same : s' ≡ record s { indexed = s'.indexed; room = s'.room }
  pub indexed : (n : ℕ) → In n s.indexed → In n s'.indexed

-- a lease is a new one on the file, and of the kind that was asked
abbrev pub FitsAsk : DeskSeen → ℕ → GrantKind → Told → Type 0
FitsAsk desk ino kind (Lent lease) = IsFreshLease desk.lib ino desk.sizes desk.out lease × (kind_lent lease ≡ kind)
FitsAsk desk ino kind told = ⊤

-- What is known of an answer to a grant, from the desk as it was to the desk as it is.
pub record TellsGrant (desk : DeskSeen) (ino : ℕ) (kind : GrantKind) (told : Told) (desk' : DeskSeen) : Type 0 where
  pub seen : SeenAfter desk (Grant ino kind) told desk'
  pub holder : TellsHolder desk.lib desk.out (Grant ino kind) told
  pub cause : TellsCause desk (Grant ino kind) told
  pub fits : FitsAsk desk ino kind told

-- these pages and numbers are those of a new allotment of as many as were asked
abbrev pub FitsWant : DeskSeen → ℕ → ℕ → Told → Type 0
FitsWant desk wanted_pages wanted_numbers (Given pages numbers) =
    (given : Allotted) × IsFreshAllotment desk.lib desk.sizes desk.out given × HasWanted wanted_pages wanted_numbers given
    × (pages ≡ page_numbers given.pages.items) × (numbers ≡ ino_numbers given.inodes.items)
FitsWant desk wanted_pages wanted_numbers told = ⊤

-- and of an answer to an allotment
pub record TellsAllotment (desk : DeskSeen) (pages numbers : ℕ) (told : Told) (desk' : DeskSeen) : Type 0 where
  pub seen : SeenAfter desk (Allot pages numbers) told desk'
  pub lack : TellsLack (Allot pages numbers) told
  pub fits : FitsWant desk pages numbers told

-- after a grant that was asked: the lease is kept, also where there was no memory for its index
abbrev pub AfterNeed : SessionSeen → Result Unit GrantFault → SessionSeen → Told → Type 0
AfterNeed s result s' (Lent lease) = ((result ≡ Ok tt) ⊎ (result ≡ Err NoGrantMemory)) × SameBut (with_lease s lease) s'
AfterNeed s result s' (NotLent fault) = (result ≡ Err fault) × SameBut s s'
AfterNeed s result s' told = ⊥

-- no grant was asked: a lease serves, but for want of memory for its index; or there was no memory for the lease's place
abbrev pub NoNeed : Bool → SessionSeen → Result Unit GrantFault → SessionSeen → Type 0
NoNeed served s result s' = ((IsTrue served × (result ≡ Ok tt)) ⊎ (result ≡ Err NoGrantMemory)) × SameBut s s'

-- the same session, but for its room
abbrev pub IsSame : SessionSeen → SessionSeen → Type 0
IsSame s s' = s' ≡ record s { room = s'.room }

-- after an allotment that was asked
abbrev pub AfterWant : SessionSeen → Result Unit AllotFault → SessionSeen → Told → Type 0
AfterWant s result s' (Given pages numbers) = (result ≡ Ok tt) × IsSame (with_allotted s pages numbers) s'
AfterWant s result s' (NotGiven fault) = (result ≡ Err fault) × IsSame s s'
AfterWant s result s' told = ⊥

-- none was asked, for want of memory
abbrev pub NoWant : SessionSeen → Result Unit AllotFault → SessionSeen → Type 0
NoWant s result s' = (result ≡ Err NoAllotMemory) × IsSame s s'

-- what was told of a settle, by how it ended
abbrev pub settle_end : {A E : Type 0} → Result A E → Told
settle_end (Ok count) = Settled
settle_end (Err fault) = NotSettled

-- after a settle: the session is empty, and the answer is the number of calls handed in; or all is as before
abbrev pub AfterSettle : {E : Type 0} → SessionSeen → Result ℕ E → SessionSeen → Told → Type 0
AfterSettle s result s' Settled = (result ≡ Ok (length s.calls)) × (s' ≡ record (emptied s) { room = s'.room })
AfterSettle s result s' NotSettled = IsErr result × (s' ≡ s)
AfterSettle s result s' told = ⊥

-- What is known of an answer to a change of mode, with which read leases and a call are handed in.
pub record TellsMode (desk : DeskSeen) (ino mode : ℕ) (back : List Shown) (call : Call) (told : Told) (desk' : DeskSeen) : Type 0 where
  pub seen : SeenAfter desk (SetMode ino mode back (Some call)) told desk'
  pub holder : TellsHolder desk.lib desk.out (SetMode ino mode back (Some call)) told
  pub cause : TellsCause desk (SetMode ino mode back (Some call)) told

-- after a change of mode: the session is empty; or all is as before, and the call comes back where none stands in the history
abbrev pub AfterMode : SessionSeen → Call → Result Unit (Option Call × ModeFault) → SessionSeen → Told → Type 0
AfterMode s call result s' ModeSet = (result ≡ Ok tt) × (s' ≡ record (emptied s) { room = s'.room })
AfterMode s call result s' (NotModeSet fault) = (result ≡ Err (call_back (Some call) fault, fault)) × (s' ≡ s)
AfterMode s call result s' told = ⊥

-- ---- what was told so far

-- each call was given what it asked for
abbrev pub IsGiven : desk_calls.Call → Type 0
IsGiven c = ((lease : Lease) × (c.told ≡ Lent lease)) ⊎ ((pages : List ℕ) × (numbers : List ℕ) × (c.told ≡ Given pages numbers))

-- an allotment is asked for, if any page or number is wanted
abbrev pub allot_asks : ℕ → ℕ → List Ask
allot_asks pages numbers = if pages == 0 && numbers == 0 then [] else Allot pages numbers ∷ []

-- So many pages and numbers are wanted: none of either, or the desk is asked for them.
pub data Allots {D : Type 0} (called : D → Ask → Told → D → Type 0) (seen : D → DeskSeen) (d : D) (s : SessionSeen) (pages numbers : ℕ) (result : Result Unit AllotFault) (d' : D) (s' : SessionSeen) : Type 0 where
  NoneWanted : pages ≡ 0 → numbers ≡ 0 → result ≡ Ok tt → d' ≡ d → s' ≡ s → Allots called seen d s pages numbers result d' s'
  SomeWanted :
      allot_asks pages numbers ≡ Allot pages numbers ∷ []
      → OneCall called d (Allot pages numbers) d' (λ told. TellsAllotment (seen d) pages numbers told (seen d') × AfterWant s result s' told) (NoWant s result s')
      → Allots called seen d s pages numbers result d' s'

-- the session with all that it was given, and nothing written into it
abbrev pub took : SessionSeen → List Told → SessionSeen
took s [] = s
took s (Lent lease ∷ more) = took (with_lease s lease) more
took s (Given pages numbers ∷ more) = took (with_allotted s pages numbers) more
took s (told ∷ more) = took s more

-- the same session, but for indexes, look-ups and room
abbrev pub IsAlike : SessionSeen → SessionSeen → Type 0
IsAlike s s' = s' ≡ record s { indexed = s'.indexed; finds = s'.finds; room = s'.room }

-- another state of the same desk
pub record SameDesk (desk desk' : DeskSeen) : Type 0 where
  pub lib : desk'.lib ≡ desk.lib
  pub creds : desk'.creds ≡ desk.creds
  pub sizes : desk'.sizes ≡ desk.sizes
  pub root : desk'.root ≡ desk.root
