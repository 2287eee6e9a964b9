-- The grants that stand after a history, and what a refusal tells of them.
use Rattle.std.specs.Prelude.{◌≡◌, ⊤, ℕ, ◌+◌, ◌==◌, ◌⊎◌, List, [], ◌∷◌, Option, Some, slice_get, IsTrue}
use Rattle.std.specs.Option.{IsSomeAnd}
use Rattle.trio_rights.specs.declared.rights.LibNo.{LibNo}
use Rattle.trio_lists.specs.Lists.{In}
use Rattle.trio_layout.specs.Image.{row_at}
use Rattle.trio_desk.specs.Call.{Ask, Told, Grant as AskGrant, SetMode, NotLent, NotModeSet}
use Rattle.trio_nodes.specs.declared.answers.GrantFault.TheVariants.{Busy}
use Rattle.trio_nodes.specs.declared.answers.ModeFault.TheVariants.{Busy as BusyMode}
use Rattle.trio_nodes.specs.declared.entry.Entry.{Entry}
use Rattle.trio_nodes.specs.declared.entry.Entry.TheVariants.{Grant}
use Rattle.trio_nodes.specs.declared.entry.GrantAnswer.TheVariants.{Granted}
use Rattle.trio_nodes.specs.declared.grant.Holder.{Holder}
use Rattle.trio_nodes.specs.GrantKinds.{excludes_kind}
use Rattle.trio_nodes.specs.Standing.{Standing, grants_after}
use Rattle.trio_state.specs.State.{State}
use Rattle.trio_state.specs.Grants.{grant_fault}
use Rattle.trio_state.specs.Step.{mode_fault}
use Rattle.trio_lease.specs.Shown.{Shown}
use Rattle.trio_nodes.specs.declared.answers.ModeFault.{ModeFault}
use Rattle.trio_ctl.specs.Backs.{all_back}
use Rattle.trio_turn.specs.Origins.{Origin}
use Rattle.trio_shared.specs.Left.{Leaves}

-- the grants that stand after these entries, of which the first has this number, where these stood before it
abbrev pub standing_from : List Standing → ℕ → List Entry → List Standing
standing_from grants n [] = grants
standing_from grants n (e ∷ es) = standing_from (grants_after grants n e) (n + 1) es

-- those that stand after a history
abbrev pub standing : List Entry → List Standing
standing log = standing_from [] 0 log

-- The holder's entry is in the history and grants it the file, and the grant still stands: no later entry of its library is a Back of
-- the file, a Batch, or a Raw in whose files the file is given.
pub record Holds (log : List Entry) (holder : Holder) (ino : ℕ) : Type 0 where
  pub children : ℕ
  pub entry : slice_get log holder.entry ≡ Some (Grant holder.lib ino holder.kind (Granted children))
  pub stands : In (record { lib = holder.lib.0; ino = ino; kind = holder.kind; entry = holder.entry }) (standing log)

-- the file is this one, or the directory that lists it
abbrev pub IsOrLists : State → ℕ → ℕ → Type 0
IsOrLists s dir ino = (dir ≡ ino) ⊎ IsSomeAnd (row_at s.home ino) (λ r. dir ≡ r.parent)

-- A change of mode was refused in a state that this history leaves: the holder has the file or the directory that lists it.
pub record HoldsAround (first : Origin) (log : List Entry) (holder : Holder) (ino : ℕ) : Type 0 where
  pub state : State
  pub file : ℕ
  pub left : Leaves first log state
  pub around : IsOrLists state file ino
  pub holds : Holds log holder file

-- In a state that this history leaves, this is the first refusal that applies: none of those before it in their order does.
pub record RefusesFirst {Fault : Type 0} (first : Origin) (log : List Entry) (refusal : State → Option Fault) (fault : Fault) : Type 0 where
  pub state : State
  pub left : Leaves first log state
  pub is_first : refusal state ≡ Some fault

-- the first refusal of a change of mode once these leases are back
abbrev pub mode_refusal : LibNo → ℕ → ℕ → List Shown → State → Option ModeFault
mode_refusal lib ino mode back s = (let t = all_back s lib back in mode_fault t lib.0 ino mode (row_at t.home ino))

-- What Busy tells: the holder has the file, and its grant excludes the one that is asked; or it has the file of a change of mode or
-- the directory that lists that. And Busy is the first refusal that applies.
abbrev pub TellsHolding : Origin → List Entry → LibNo → Ask → Told → Type 0
TellsHolding first log lib (AskGrant ino kind) (NotLent (Busy holder)) =
    Holds log holder ino × IsTrue (excludes_kind kind holder.kind (holder.lib.0 == lib.0))
    × RefusesFirst first log (λ s. grant_fault s lib.0 ino kind) (Busy holder)
TellsHolding first log lib (SetMode ino mode back call) (NotModeSet (BusyMode holder)) =
    HoldsAround first log holder ino × RefusesFirst first log (mode_refusal lib ino mode back) (BusyMode holder)
TellsHolding first log lib ask told = ⊤
