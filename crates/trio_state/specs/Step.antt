-- The steps of the controller, by its calls.
use Rattle.std.specs.Prelude.{◌≡◌, ℕ, ◌==◌, nat_lt, Bool, true, false, not, ◌||◌, ◌⊎◌, List, length, take, Option, Some, None, if◌then◌else◌, slice_get, IsTrue, IsFalse}
use Rattle.std.specs.List.{filter}
use Rattle.std.specs.Option.{option_map}
use Rattle.trio_rights.specs.Row.{Row}
use Rattle.trio_nodes.specs.declared.grant.GrantKind.{GrantKind}
use Rattle.trio_nodes.specs.declared.answers.GrantFault.{GrantFault}
use Rattle.trio_nodes.specs.declared.answers.GrantFault.TheVariants.{Busy as BusyGrant}
use Rattle.trio_nodes.specs.declared.answers.ModeFault.{ModeFault}
use Rattle.trio_nodes.specs.declared.answers.ModeFault.TheVariants.{NotLive, NotOwner, BadMode, Busy}
use Rattle.trio_layout.specs.Image.{row_at}
use Rattle.trio_state.specs.State.{OpenGrant, State, settled, creds_of, logged}
use Rattle.trio_rights.specs.Bundle.{Bundle}
use Rattle.trio_layout.specs.Accept.{is_accepted, next}
use Rattle.trio_layout.specs.Mode.{image_with_mode}
use Rattle.trio_state.specs.Grants.{grant_fault, opened, opens, told_children, given_back, holder_of}
use Rattle.trio_state.specs.Allotments.{free_pages, free_numbers, allots}
use Rattle.trio_state.specs.Bundles.{parted_hold, refused_image, Ends, has_all}
use Rattle.trio_state.specs.Tells.{Why, Tells}

-- one call of the controller, by a library
pub data Event : Type 0 where
  Grant : (lib ino : ℕ) (kind : GrantKind) → Event
  Allot : (lib pages numbers : ℕ) → Event
  Back : (lib ino : ℕ) → Event
  Release : (lib : ℕ) (bundle : Bundle) → Event
  Settle : (lib : ℕ) (bundle : Bundle) → Event
  SetMode : (lib ino mode : ℕ) → Event

-- whose call it is
abbrev pub library_of : Event → ℕ
library_of (Grant lib ino kind) = lib
library_of (Allot lib pages numbers) = lib
library_of (Back lib ino) = lib
library_of (Release lib b) = lib
library_of (Settle lib b) = lib
library_of (SetMode lib ino mode) = lib

-- what the controller answers to a call
pub data CtlAnswer : Type 0 where
  Granted : (children : ℕ) → CtlAnswer
  NotGranted : (fault : GrantFault) → CtlAnswer
  Given : (pages numbers : List ℕ) → CtlAnswer
  NoPages : (wanted free : ℕ) → CtlAnswer
  NoInodes : (wanted free : ℕ) → CtlAnswer
  Done : CtlAnswer
  Accepted : CtlAnswer
  Refused : (why : Why) → CtlAnswer
  NotClosed : (ino : ℕ) → CtlAnswer
  Settled : CtlAnswer
  ModeSet : CtlAnswer
  NotModeSet : (fault : ModeFault) → CtlAnswer
  NoMemory : CtlAnswer

-- an answer that is determined, with the state after it
pub record Outcome : Type 0 where
  pub answer : CtlAnswer
  pub after : State

-- an answer Busy makes no entry and changes nothing; every other refusal makes an entry and changes nothing else
abbrev pub after_grant_fault : State → GrantFault → State
after_grant_fault s (BusyGrant holder) = s
after_grant_fault s _ = logged s

-- what a request for a grant comes to, by its fault or by the row of the file
abbrev pub granted_to : State → ℕ → ℕ → GrantKind → Option GrantFault → Option Row → Outcome
granted_to s lib ino kind (Some fault) r = record { answer = NotGranted fault; after = after_grant_fault s fault }
granted_to s lib ino kind None None = record { answer = Done; after = s }
granted_to s lib ino kind None (Some r) =
    record { answer = Granted (told_children s.home ino kind); after = opens s (opened s lib ino kind r) }

-- what a request for a grant comes to
abbrev pub grant_outcome : State → ℕ → ℕ → GrantKind → Outcome
grant_outcome s lib ino kind = granted_to s lib ino kind (grant_fault s lib ino kind) (row_at s.home ino)

-- the lowest free pages and numbers, or that too few are free
abbrev pub allot_outcome : State → ℕ → ℕ → ℕ → Outcome
allot_outcome s lib pages numbers =
    let ps = free_pages s in
    let ns = free_numbers s in
    if nat_lt (length ps) pages then record { answer = NoPages pages (length ps); after = logged s } else
    (if nat_lt (length ns) numbers then record { answer = NoInodes numbers (length ns); after = logged s } else
    record { answer = Given (take pages ps) (take numbers ns); after = allots s lib (take pages ps) (take numbers ns) })

-- the first open grant on the file or on its directory
abbrev pub mode_excluding : State → ℕ → Row → Option OpenGrant
mode_excluding s ino r = slice_get (filter (λ g. g.ino == ino || g.ino == r.parent) s.open_grants) 0

-- the causes for which a change of mode is refused, in their order; the root's mode is nobody's to change
abbrev pub mode_fault : State → ℕ → ℕ → ℕ → Option Row → Option ModeFault
mode_fault s lib ino mode None = Some NotLive
mode_fault s lib ino mode (Some r) =
    let uid = (creds_of s lib).uid in
    if ino == 1 || not (uid == 0 || uid == r.uid) then Some NotOwner else
    (if nat_lt 511 mode then Some BadMode else option_map (λ g. Busy (holder_of g)) (mode_excluding s ino r))

-- the state after a refused change of mode
abbrev pub after_mode_fault : State → ModeFault → State
after_mode_fault s (Busy holder) = s
after_mode_fault s _ = logged s

-- what a change of mode comes to, by its fault
abbrev pub moded_to : State → ℕ → ℕ → Option ModeFault → Outcome
moded_to s ino mode (Some fault) = record { answer = NotModeSet fault; after = after_mode_fault s fault }
moded_to s ino mode None = record { answer = ModeSet; after = logged (record s { home = image_with_mode s.home ino mode }) }

-- what a change of mode comes to
abbrev pub mode_outcome : State → ℕ → ℕ → ℕ → Outcome
mode_outcome s lib ino mode = moded_to s ino mode (mode_fault s lib ino mode (row_at s.home ino))

-- the answer and the state are these
abbrev pub Comes : Outcome → CtlAnswer → State → Type 0
Comes o answer s' = (answer ≡ o.answer) × (s' ≡ o.after)

-- A release ends parted, accepted or refused: a bundle that is not closed comes back with nothing changed; a closed one
-- is accepted where it is acceptable in the settled image, and refused, with a cause, where it is not.
pub data ReleaseEnd (s : State) (lib : ℕ) (b : Bundle) (answer : CtlAnswer) (s' : State) : Type 0 where
  Parted : (n : ℕ) → parted_hold s lib b ≡ Some n → answer ≡ NotClosed n → s' ≡ s → ReleaseEnd s lib b answer s'
  IsAccepted :
      parted_hold s lib b ≡ None → IsTrue (is_accepted (settled s) (creds_of s lib) b)
      → answer ≡ Accepted → Ends s lib b (next (settled s) b) s' → ReleaseEnd s lib b answer s'
  IsRefused :
      parted_hold s lib b ≡ None → IsFalse (is_accepted (settled s) (creds_of s lib) b)
      → (why : Why) → answer ≡ Refused why → Tells s lib b why
      → Ends s lib b (refused_image (settled s) b) s' → ReleaseEnd s lib b answer s'

-- what each call does, where memory is there
abbrev pub Does : State → Event → CtlAnswer → State → Type 0
Does s (Grant lib ino kind) answer s' = Comes (grant_outcome s lib ino kind) answer s'
Does s (Allot lib pages numbers) answer s' = Comes (allot_outcome s lib pages numbers) answer s'
Does s (Back lib ino) answer s' = (answer ≡ Done) × (s' ≡ given_back s lib ino)
Does s (Release lib b) answer s' = ReleaseEnd s lib b answer s'
Does s (Settle lib b) answer s' =
    let image = settled s in
    (answer ≡ Settled) × IsTrue (has_all s lib b) × IsTrue (is_accepted image (creds_of s lib) b) × Ends s lib b (next image b) s'
Does s (SetMode lib ino mode) answer s' = Comes (mode_outcome s lib ino mode) answer s'

-- a give back takes no memory; every other call does
abbrev pub takes_memory : Event → Bool
takes_memory (Back lib ino) = false
takes_memory _ = true

-- From s the controller may give this answer to the event and then be in s'. Want of memory changes nothing.
abbrev pub Step : State → Event → CtlAnswer → State → Type 0
Step s event answer s' =
    Does s event answer s' ⊎ (IsTrue (takes_memory event) × (answer ≡ NoMemory) × (s' ≡ s))
