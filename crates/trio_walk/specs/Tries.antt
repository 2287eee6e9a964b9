-- Words of one try of a call, and of the settle between two.
use Rattle.std.specs.Prelude.{◌≡◌, ◌≢◌, ℕ, List, [], ◌++◌, Result, Ok, Err}
use Rattle.trio_lists.specs.Lists.{In}
use Rattle.trio_rights.specs.declared.rights.LibNo.{LibNo}
use Rattle.trio_nodes.specs.declared.answers.AllotFault.{AllotFault}
use Rattle.trio_nodes.specs.declared.answers.AllotFault.TheVariants.{NoInodes as NoFreeInodes, NoPages, NoMemory as NoAllotMemory}
use Rattle.trio_nodes.specs.declared.call.Answer.TheVariants.{Bytes, Names}
use Rattle.trio_nodes.specs.declared.call.Reply.{Reply}
use Rattle.trio_nodes.specs.declared.call.Reply.TheVariants.{Ok as Succeeds, NoInodes, NoSpace}
use Rattle.trio_nodes.specs.declared.grant.GrantKind.{GrantKind}
use Rattle.trio_desk.specs.Call.{Ask, DeskSeen, SeenAfter, Settle, Told, Settled, NotSettled}
use Rattle.trio_desk.specs.Calls as desk_calls
use Rattle.trio_desk.specs.Calls.{Calls}
use Rattle.trio_desk.specs.Edits.{TakesMore, nothing}
use Rattle.trio_session.specs.Asked.{IsAlike, IsGiven, SameDesk}
use Rattle.trio_session.specs.Seen.{IsOn, SessionSeen, emptied, in_hand}
use Rattle.trio_walk.specs.Walks.{IsOwnGrant}
use Rattle.trio_walk.specs.declared.outcome.Outcome.{Outcome}
use Rattle.trio_walk.specs.declared.outcome.Outcome.TheVariants.{Replied as IsReplied, Busy as IsBusy, NoMemory as HasNoMemory}
use Rattle.trio_walk.specs.declared.outcome.Stop.{Stop}
use Rattle.trio_walk.specs.declared.outcome.Stop.TheVariants.{NoMemory as LacksMemory}
use Rattle.trio_walk.specs.declared.attempts.TryEnd.{TryEnd}
use Rattle.trio_walk.specs.declared.attempts.TryEnd.TheVariants.{Replied, Busy, NoMemory}

-- ---- one try

-- how a try ends, without what comes back
abbrev pub try_end : {T : Type 0} → TryEnd T → Outcome
try_end (Replied answer) = IsReplied answer
try_end (Busy back holder) = IsBusy holder
try_end NoMemory = HasNoMemory

-- what comes back is what was tried
abbrev pub IsBack : {T : Type 0} → T → TryEnd T → Type 0
IsBack what (Busy back holder) = back ≡ what
IsBack what end = Unit {0}

-- nothing was taken or made, and no call done
pub record HasNothing (s : SessionSeen) : Type 0 where
  pub parcel : s.parcel ≡ nothing
  pub reads : s.reads ≡ []
  pub made : s.made ≡ []
  pub calls : s.calls ≡ []

-- another library keeps a file busy
abbrev pub OthersHold : LibNo → Outcome → Type 0
OthersHold lib (IsBusy holder) = holder.lib ≢ lib
OthersHold lib end = Unit {0}

-- where the library itself keeps a file busy, a grant of the session's does
abbrev pub BusyAt : DeskSeen → SessionSeen → ℕ → GrantKind → Outcome → Type 0
BusyAt desk s n kind (IsBusy holder) = holder.lib ≡ s.lib → IsOwnGrant desk s n kind
BusyAt desk s n kind end = Unit {0}

-- an answer of bytes or names
abbrev pub TakesMemory : Reply → Type 0
TakesMemory (Succeeds (Bytes bytes)) = Unit {0}
TakesMemory (Succeeds (Names count names)) = Unit {0}
TakesMemory reply = ⊥

-- what a call is replied by the fault of its allotment; want of memory ends the try
abbrev pub allot_reply : AllotFault → Result Reply Stop
allot_reply (NoPages wanted free) = Ok (NoSpace wanted free)
allot_reply (NoFreeInodes wanted free) = Ok (NoInodes wanted free)
allot_reply NoAllotMemory = Err LacksMemory

-- From a desk and a session to these, by calls that were given what they asked, and then by these last ones: no call was noted, and what was
-- known of the nodes still is.
pub record Passes {D : Type 0} (called : D → Ask → Told → D → Type 0) (seen : D → DeskSeen) (d : D) (s : SessionSeen) (given last : List desk_calls.Call) (d' : D) (s' : SessionSeen) : Type 0 where
  pub each : (c : desk_calls.Call) → In c given → IsGiven c
  pub made : Calls called d (given ++ last) d'
  pub calls : s'.calls ≡ s.calls
  pub same : SameDesk (seen d) (seen d')
  pub more : TakesMore (seen d') (in_hand s) (in_hand s')

-- what a try leaves that isn't noted yet: an edit where the call is done, and else nothing was written
abbrev pub LeavesUnnoted : (SessionSeen → SessionSeen) → SessionSeen → Outcome → SessionSeen → Type 0
LeavesUnnoted edit s (IsReplied (Succeeds answer)) s' = IsAlike (edit s) s'
LeavesUnnoted edit s end s' = IsAlike s s'

-- ---- the settle between two

-- All is settled, as the desk is seen: the session is empty, and stands on it.
pub record IsSettledAt (desk : DeskSeen) (s : SessionSeen) (desk' : DeskSeen) (s' : SessionSeen) : Type 0 where
  pub seen : SeenAfter desk (Settle s.parcel s.reads s.calls) Settled desk'
  pub empty : s' ≡ record (emptied s) { room = s'.room }
  pub on : IsOn desk' s'

-- There was no memory for it, and all is as before.
pub record IsUnsettledAt (desk : DeskSeen) (s : SessionSeen) (desk' : DeskSeen) (s' : SessionSeen) : Type 0 where
  pub seen : SeenAfter desk (Settle s.parcel s.reads s.calls) NotSettled desk'
  pub same : s' ≡ s
  pub on : IsOn desk' s'
