-- The calls of the desk that one call of an honest library makes, and how it ends: what calls on files and on directories have in common.
use Rattle.std.specs.Prelude.{◌≡◌, ◌≢◌, ◌⊎◌, ℕ, List, [], ◌∷◌, ◌++◌, map, Option}
use Rattle.trio_rights.specs.Row.{Row}
use Rattle.trio_lists.specs.Lists.{In}
use Rattle.trio_nodes.specs.declared.grant.Holder.{Holder}
use Rattle.trio_nodes.specs.declared.grant.GrantKind.{GrantKind}
use Rattle.trio_nodes.specs.declared.answers.GrantFault.TheVariants.{Busy as BusyGrant, Denied as DeniedGrant, NoMemory as NoGrantMemory}
use Rattle.trio_nodes.specs.declared.answers.AllotFault.TheVariants.{NoInodes as NoFreeInodes, NoPages, NoMemory as NoAllotMemory}
use Rattle.trio_nodes.specs.declared.call.Call.{Call}
use Rattle.trio_nodes.specs.declared.call.Reply as reply
use Rattle.trio_nodes.specs.declared.call.Reply.TheVariants.{Denied, NoInodes, NoSpace}
use Rattle.trio_nodes.specs.Nodes.{Nodes}
use Rattle.trio_nodes.specs.After.{batch_nodes}
use Rattle.trio_desk.specs.Call.{Ask, Allot, DeskSeen, Grant, Settle, Told, NotLent, NotGiven, Settled, NotSettled}
use Rattle.trio_desk.specs.Calls.{Calls}
use Rattle.trio_desk.specs.Calls as desk_calls
use Rattle.trio_desk.specs.Ready.{ArePossible}
use Rattle.trio_session.specs.Asked.{took, IsGiven}
use Rattle.trio_session.specs.Seen.{SessionSeen, emptied}
use Rattle.trio_walk.specs.Needs.{Needed}
use Rattle.trio_walk.specs.declared.outcome.Outcome.{Outcome}
use Rattle.trio_walk.specs.declared.outcome.Outcome.TheVariants.{Replied, Busy, NoMemory}

-- ---- what is asked

-- a grant is asked for
abbrev pub grant_ask : Needed → Ask
grant_ask n = Grant n.ino n.kind

-- these were just what is to be asked; where the try is broken off, the first of it
abbrev pub AskedBy : Outcome → List Ask → List Ask → Type 0
AskedBy (Replied answer) these wanted = wanted ≡ these
AskedBy end these wanted = (rest : List Ask) × (wanted ≡ these ++ rest)

-- ---- what is told

-- want of memory was told
abbrev pub LacksMemory : Told → Type 0
LacksMemory told = (told ≡ NotLent NoGrantMemory) ⊎ (told ≡ NotGiven NoAllotMemory)

-- the root denied a grant
abbrev pub IsRootDenied : desk_calls.Call → Type 0
IsRootDenied c = (kind : GrantKind) × (c ≡ record { ask = Grant 1 kind; told = NotLent (DeniedGrant 1) })

-- How a try ends by its last call, beside those that were given. Want of room is told by it, with its numbers, and so is Busy; and so may
-- be that the root denies its grant, where no lease shows its rights, or that there is no memory. After the root has denied it there may
-- be none for the call's note.
abbrev pub TryEnds : Outcome → List desk_calls.Call → Type 0
TryEnds (Replied (NoSpace wanted free)) last = (numbers : ℕ) × (last ≡ record { ask = Allot wanted numbers; told = NotGiven (NoPages wanted free) } ∷ [])
TryEnds (Replied (NoInodes wanted free)) last = (pages : ℕ) × (last ≡ record { ask = Allot pages wanted; told = NotGiven (NoFreeInodes wanted free) } ∷ [])
TryEnds (Replied Denied) last = (last ≡ []) ⊎ ((c : desk_calls.Call) × (last ≡ c ∷ []) × IsRootDenied c)
TryEnds (Replied answer) last = last ≡ []
TryEnds (Busy holder) last = (ino : ℕ) × (kind : GrantKind) × (last ≡ record { ask = Grant ino kind; told = NotLent (BusyGrant holder) } ∷ [])
TryEnds NoMemory last = (last ≡ []) ⊎ ((c : desk_calls.Call) × (last ≡ c ∷ []) × (LacksMemory c.told ⊎ IsRootDenied c))

-- ---- what the session has then

-- with one call more that is done, which made a file of this number, or none
abbrev pub noted : Call → reply.Reply → ℕ → SessionSeen → SessionSeen
noted call answer made s = record s { calls = s.calls ++ record { call = call; reply = answer; made = made } ∷ [] }

-- ---- one try

-- One try of a call, from a desk and a session to these: what it was given, in this order, and then one call more that wasn't, if any.
-- `Leaves` says what it leaves of the session that took all that was given, and `Is` what is true of it in the nodes that the session shows,
-- with what was asked.
pub record Tried {D : Type 0} (called : D → Ask → Told → D → Type 0) (seen : D → DeskSeen) (d : D) (s : SessionSeen)
    (Leaves : SessionSeen → SessionSeen → Type 0) (Is : SessionSeen → List Ask → Nodes → Type 0) (end : Outcome) (d' : D) (s' : SessionSeen) : Type 0 where
  pub given : List desk_calls.Call
  pub last : List desk_calls.Call
  pub each : (c : desk_calls.Call) → In c given → IsGiven c
  pub made : Calls called d (given ++ last) d'
  pub ends : TryEnds end last
  pub leaves : Leaves (took s (map (λ c. c.told) given)) s'
  pub shown :
      (nodes : Nodes) (rows : List (Option Row)) → ArePossible (seen d') s'.parcel s'.reads nodes rows
      → Is (took s (map (λ c. c.told) given)) (map (λ c. c.ask) (given ++ last)) (batch_nodes (seen d').creds s.calls nodes)

-- ---- the call

-- everything is settled: the session is empty
pub record Settles {D : Type 0} (called : D → Ask → Told → D → Type 0) (d : D) (s : SessionSeen) (d' : D) (s' : SessionSeen) : Type 0 where
  pub made : called d (Settle s.parcel s.reads s.calls) Settled d'
  pub empty : s' ≡ record (emptied s) { room = s'.room }

-- there was no memory for it, and all is as before
pub record IsUnsettled {D : Type 0} (called : D → Ask → Told → D → Type 0) (d : D) (s : SessionSeen) (d' : D) (s' : SessionSeen) : Type 0 where
  pub made : called d (Settle s.parcel s.reads s.calls) NotSettled d'
  pub same : s' ≡ s

-- the try came to an end, or to want of memory
abbrev pub IsNotBusy : Outcome → Type 0
IsNotBusy (Busy holder) = ⊥
IsNotBusy end = Unit {0}

-- A call: one try; after Busy a settle, and one more try of an empty session; after a second Busy, which names another library, a settle
-- of that. `Try` says what one try is.
pub data Called {D : Type 0} (called : D → Ask → Told → D → Type 0) (Try : D → SessionSeen → Outcome → D → SessionSeen → Type 0)
    (d : D) (s : SessionSeen) (end : Outcome) (d' : D) (s' : SessionSeen) : Type 0 where
  Once : IsNotBusy end → Try d s end d' s' → Called called Try d s end d' s'
  Unsettled :
      (holder : Holder) (d1 : D) (s1 : SessionSeen) → end ≡ NoMemory
      → Try d s (Busy holder) d1 s1 → IsUnsettled called d1 s1 d' s' → Called called Try d s end d' s'
  Again :
      (holder : Holder) (d1 d2 : D) (s1 s2 : SessionSeen) → IsNotBusy end
      → Try d s (Busy holder) d1 s1 → Settles called d1 s1 d2 s2 → Try d2 s2 end d' s'
      → Called called Try d s end d' s'
  GivesUp :
      (first last : Holder) (d1 d2 d3 : D) (s1 s2 s3 : SessionSeen) → end ≡ Busy last → last.lib ≢ s.lib
      → Try d s (Busy first) d1 s1 → Settles called d1 s1 d2 s2 → Try d2 s2 (Busy last) d3 s3
      → Settles called d3 s3 d' s' → Called called Try d s end d' s'
  LeftOut :
      (first last : Holder) (d1 d2 d3 : D) (s1 s2 s3 : SessionSeen) → end ≡ NoMemory
      → Try d s (Busy first) d1 s1 → Settles called d1 s1 d2 s2 → Try d2 s2 (Busy last) d3 s3
      → IsUnsettled called d3 s3 d' s' → Called called Try d s end d' s'
