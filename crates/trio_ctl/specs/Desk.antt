-- The controller as one library sees it: what a state has out to the library, and a call of its desk as a step.
use Rattle.std.specs.Prelude.{◌≡◌, ⊤, ◌==◌, Bool, ◌&&◌, List, [], ◌++◌, map}
use Rattle.std.specs.List.{filter}
use Rattle.std.specs.Option.{IsSomeAnd}
use Rattle.trio_rights.specs.declared.rights.LibNo.{LibNo}
use Rattle.trio_rights.specs.declared.kind.Kind.TheVariants.{Directory}
use Rattle.trio_nodes.specs.GrantKinds.{is_hold, is_read, is_write}
use Rattle.trio_nodes.specs.declared.answers.ModeFault.{ModeFault}
use Rattle.trio_nodes.specs.declared.answers.ModeFault.TheVariants.{Busy, NoMemory}
use Rattle.trio_nodes.specs.declared.grant.GrantKind.{GrantKind}
use Rattle.trio_lease.specs.Bundles.{Bundled}
use Rattle.trio_lease.specs.Shown.{Shown}
use Rattle.trio_nodes.specs.declared.entry.Entry.{Entry}
use Rattle.trio_laws.specs.history.Entries.{Beside}
use Rattle.trio_layout.specs.Image.{row_at}
use Rattle.trio_desk.specs.Contents.{rights_in}
use Rattle.trio_desk.specs.Out.{LibOut, Parcel}
use Rattle.trio_desk.specs.Call.{Ask, Told, DeskSeen, Grant, Allot, GiveBack, Release, Settle, SetMode, Lent, NotLent, Given, NotGiven, Done, Judged, NotJudged, Settled, NotSettled, ModeSet, NotModeSet}
use Rattle.trio_desk.specs.Ready.{bundle_of}
use Rattle.trio_state.specs.State.{OpenGrant, State, creds_of, logged}
use Rattle.trio_state.specs.Grants.{opened}
use Rattle.trio_state.specs.Given.{GivenEvent}
use Rattle.trio_state.specs.Step.{Event, CtlAnswer, Step}
use Rattle.trio_state.specs.Step as step
use Rattle.trio_laws.specs.OutLaws.{numbers_to}
use Rattle.trio_ctl.specs.Backs.{AreBack, all_back, back_entries}
use Rattle.trio_ctl.specs.Answers.{allot_fault_answer, children_told, grant_fault_answer, mode_fault_answer, release_fault_answer, verdict_of}
use Rattle.trio_ctl.specs.Ctl.{Controller}
use Rattle.trio_ctl.specs.Logged.{alone, entries_made, with_bundle, with_call, with_calls}
use Rattle.trio_open.specs.Open.{hold_of, lent_by, shown_of}

-- ---- what a library has out

-- its open grants of one kind, in the order of their entries
abbrev pub grants_of : (GrantKind → Bool) → LibNo → List OpenGrant → List OpenGrant
grants_of is_kind lib grants = filter (λ g. g.lib == lib.0 && is_kind g.kind) grants

-- What its open grants lent, by their kind, each as it was lent; and the pages and inode numbers that are allotted to it, in
-- rising order.
abbrev pub out_of : State → LibNo → LibOut
out_of s lib = record {
  writes = map shown_of (grants_of is_write lib s.open_grants);
  reads = map shown_of (grants_of is_read lib s.open_grants);
  holds = map hold_of (grants_of is_hold lib s.open_grants);
  pages = numbers_to s.pages_out lib.0;
  numbers = numbers_to s.numbers_out lib.0;
}

-- what is seen of its desk
abbrev pub desk_of : State → LibNo → DeskSeen
desk_of s lib = record {
  lib = lib;
  creds = creds_of s lib.0;
  out = out_of s lib;
  sizes = record { range = s.home.core.range; inodes = s.home.core.inodes };
  root = rights_in Directory s.home.core.root;
}

-- ---- a call as an event, and what is told as an answer

-- what a library asks, as the event that it is
abbrev pub event_of : LibNo → Ask → Event
event_of lib (Grant ino kind) = step.Grant lib.0 ino kind
event_of lib (Allot pages numbers) = step.Allot lib.0 pages numbers
event_of lib (GiveBack lease) = step.Back lib.0 lease.ino
event_of lib (Release parcel) = step.Release lib.0 (bundle_of parcel)
event_of lib (Settle parcel back calls) = step.Settle lib.0 (bundle_of parcel)
event_of lib (SetMode ino mode back call) = step.SetMode lib.0 ino mode

-- what it is told, as the controller's answer
abbrev pub answer_of : Told → CtlAnswer
answer_of (Lent lease) = step.Granted (children_told lease)
answer_of (NotLent fault) = grant_fault_answer fault
answer_of (Given pages numbers) = step.Given pages numbers
answer_of (NotGiven fault) = allot_fault_answer fault
answer_of Done = step.Done
answer_of (Judged answer) = verdict_of answer
answer_of (NotJudged fault) = release_fault_answer fault
answer_of Settled = step.Settled
answer_of NotSettled = step.NoMemory
answer_of ModeSet = step.ModeSet
answer_of (NotModeSet fault) = mode_fault_answer fault

-- the read leases that a call hands back, to be given back before its event
abbrev pub handed_back : Ask → List Shown
handed_back (Settle parcel back calls) = back
handed_back (SetMode ino mode back call) = back
handed_back ask = []

-- those that are given back: all of them, or, where the call is refused, none
abbrev pub backs_of : Ask → Told → List Shown
backs_of (Settle parcel back calls) Settled = back
backs_of (SetMode ino mode back call) ModeSet = back
backs_of ask told = []

-- ---- what a call logs

-- a parcel, as a bundle without room for more
abbrev pub bundled_of : Parcel → Bundled
bundled_of b = record {
  writes = b.writes;
  holds = b.holds;
  pages = b.pages;
  inodes = b.inodes;
  room = record { writes = 0; holds = 0; pages = 0; inodes = 0 };
}

-- what is told beside what is asked: of a release the bundle as it is handed in, of a settle its calls too, and of a change of mode
-- its call
abbrev pub beside_of : Ask → Beside
beside_of (Release parcel) = with_bundle (bundled_of parcel)
beside_of (Settle parcel back calls) = with_calls (bundled_of parcel) calls
beside_of (SetMode ino mode back call) = with_call call
beside_of ask = alone

-- the entries that a call of a library makes: one for each lease that is given back, and then that of its event, if that makes one
abbrev pub entries_told : State → LibNo → Ask → Told → List Entry
entries_told s lib ask told =
    back_entries lib (backs_of ask told)
    ++ entries_made (all_back s lib (handed_back ask)) (beside_of ask) (event_of lib ask) (answer_of told)

-- a call adds its entries to the log of the controller, and leaves the image that the controller began from; no release begins or
-- ends in it
pub record LogsCall (old : Controller) (lib : LibNo) (ask : Ask) (told : Told) (new : Controller) : Type 0 where
  pub log : new.log ≡ old.log ++ entries_told old.state lib ask told
  pub first : new.first ≡ old.first
  pub begun : new.begun ≡ old.begun

-- ---- a call as steps

-- a lease that is told is the one that the grant lends which this state opens
abbrev pub LeaseIs : State → LibNo → Ask → Told → Type 0
LeaseIs s lib (Grant ino kind) (Lent lease) = IsSomeAnd (row_at s.home ino) (λ r. lease ≡ lent_by (opened s lib.0 ino kind r))
LeaseIs s lib ask told = ⊤

-- the state after a refused change of mode: as before after Busy and want of memory, and after the others with one entry more
abbrev pub after_mode_refusal : State → ModeFault → State
after_mode_refusal s (Busy holder) = s
after_mode_refusal s NoMemory = s
after_mode_refusal s fault = logged s

-- The event of a call as a step, from the state in which its leases are back. A refusal is the one that the step has from there, but
-- the leases stay out.
abbrev pub CallStep : State → LibNo → Ask → Told → State → Type 0
CallStep s lib (Settle parcel back calls) NotSettled s' = s' ≡ s
CallStep s lib (SetMode ino mode back call) (NotModeSet fault) s' =
    ((t : State) × Step (all_back s lib back) (step.SetMode lib.0 ino mode) (mode_fault_answer fault) t)
    × (s' ≡ after_mode_refusal s fault)
CallStep s lib ask told s' = Step (all_back s lib (handed_back ask)) (event_of lib ask) (answer_of told) s'

-- From s one call of the library: it hands in what was given, its leases first; it is one step of the controller once these are back;
-- and what it lends is what that step lends.
pub record Happens (s : State) (lib : LibNo) (ask : Ask) (told : Told) (s' : State) : Type 0 where
  pub back : AreBack s lib (handed_back ask)
  pub given : GivenEvent (all_back s lib (handed_back ask)) (event_of lib ask)
  pub is_step : CallStep s lib ask told s'
  pub lease : LeaseIs s lib ask told
