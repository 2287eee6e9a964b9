-- Words of a rename: its stages, and what keeps its grants off.
use Rattle.std.specs.Prelude.{◌≡◌, ◌≢◌, ℕ, Bool, List, [], ◌∷◌, ◌++◌, Some, None, Ok}
use Rattle.trio_lists.specs.Lists.{In}
use Rattle.trio_names.specs.Name.{IsName}
use Rattle.trio_rights.specs.declared.rights.Creds.{Creds}
use Rattle.trio_nodes.specs.declared.grant.GrantKind.{GrantKind}
use Rattle.trio_nodes.specs.declared.call.Call.{Call}
use Rattle.trio_nodes.specs.declared.call.Call.TheVariants.{Rename}
use Rattle.trio_nodes.specs.Nodes.{Nodes, find_named}
use Rattle.trio_nodes.specs.Walk.{Path, dir_of, name_of, walk_into}
use Rattle.trio_nodes.specs.After.{batch_nodes}
use Rattle.trio_desk.specs.Call.{DeskSeen}
use Rattle.trio_laws.specs.session.DirCalls.{ComesAcross, early_refusal}
use Rattle.trio_session.specs.Seen.{IsOpenDir, SessionSeen, place_shown}
use Rattle.trio_edit_laws.specs.Calls.{MayCall}
use Rattle.trio_walk.specs.declared.met.Met.{Met}
use Rattle.trio_walk.specs.declared.outcome.Outcome.{Outcome}
use Rattle.trio_walk.specs.declared.outcome.Outcome.TheVariants.{Busy}
use Rattle.trio_walk.specs.Needs.{Needed, into_needs, reached_by, moving_needs}
use Rattle.trio_walk.specs.Walks.{FindsEntry, HasMet, InAllShown, IsOwnGrant, MayLookIn}

-- ---- what is needed

-- the directories of both paths are entered for writing
abbrev pub both_dirs : Path → Path → List Path
both_dirs from to = dir_of from ∷ dir_of to ∷ []

-- what a rename needs once its old directory is entered
abbrev pub across_needs : Nodes → Creds → Bool → Path → Path → ℕ → List Needed
across_needs now creds shown from to dir =
    into_needs now creds shown (both_dirs from to) (dir_of to)
    ++ reached_by (walk_into now creds (both_dirs from to) (dir_of to)) (λ new_dir. moving_needs now from to dir new_dir)

-- a grant of the session's own excludes one of these that are needed
pub record OwnKeepsOff (desk : DeskSeen) (s : SessionSeen) (needs : Nodes → List Needed) : Type 0 where
  pub ino : ℕ
  pub kind : GrantKind
  pub own : IsOwnGrant desk s ino kind
  pub needed : In (record { ino = ino; kind = kind }) (needs (batch_nodes desk.creds s.calls own.nodes))

-- where the library itself keeps a file busy that is needed, a grant of the session's does
abbrev pub NeedsBusyAt : DeskSeen → SessionSeen → (Nodes → List Needed) → Outcome → Type 0
NeedsBusyAt desk s needs (Busy holder) = holder.lib ≡ s.lib → OwnKeepsOff desk s needs
NeedsBusyAt desk s needs end = Unit {0}

-- ---- stages

-- the call is this rename, which its paths alone don't refuse
pub record IsRename (call' : Call) (from to : Path) : Type 0 where
  pub on : call' ≡ Rename from to
  pub early : early_refusal call' ≡ None

-- its old directory is entered
pub record IsOut (desk : DeskSeen) (s : SessionSeen) (from to : Path) (dir' : ℕ) : Type 0 where
  pub may : MayCall desk s
  pub opens : IsOpenDir s dir'
  pub look : MayLookIn desk s dir'
  pub out : InAllShown desk s (λ now. walk_into now desk.creds (both_dirs from to) (dir_of from) ≡ Ok dir')

-- and its new one
pub record IsAcross (desk : DeskSeen) (s : SessionSeen) (call' : Call) (from to : Path) (dir' new_dir' : ℕ) : Type 0 where
  pub may : MayCall desk s
  pub opens : IsOpenDir s dir'
  pub look : MayLookIn desk s dir'
  pub opens_new : IsOpenDir s new_dir'
  pub look_new : MayLookIn desk s new_dir'
  pub comes : InAllShown desk s (λ now. ComesAcross now desk.creds call' from to dir' new_dir')

-- the old directory lists this file by the old name
pub record IsFound (desk : DeskSeen) (s : SessionSeen) (from : Path) (dir' : ℕ) (file' : Met) : Type 0 where
  pub entry : FindsEntry s dir' (name_of from) (Some file')
  pub met : HasMet desk s file'
  pub named : InAllShown desk s (λ now. find_named now dir' (name_of from) ≡ Some file'.ino)

-- and the new one none by the new name
pub record IsFree (desk : DeskSeen) (s : SessionSeen) (to : Path) (new_dir' : ℕ) : Type 0 where
  pub name : IsName (name_of to)
  pub place : place_shown s new_dir' (name_of to) ≡ None
  pub named : InAllShown desk s (λ now. find_named now new_dir' (name_of to) ≡ None)

-- ---- a move

-- The file is had, and may move to another directory.
pub record MayMove (desk : DeskSeen) (s : SessionSeen) (call' : Call) (from to : Path) (dir' new_dir' : ℕ) (file' : Met) : Type 0 where
  pub may : MayCall desk s
  pub opens : IsOpenDir s dir'
  pub opens_new : IsOpenDir s new_dir'
  pub comes : InAllShown desk s (λ now. ComesAcross now desk.creds call' from to dir' new_dir')
  pub entry : FindsEntry s dir' (name_of from) (Some file')
  pub named : InAllShown desk s (λ now. find_named now dir' (name_of from) ≡ Some file'.ino)
  pub free : IsFree desk s to new_dir'
  pub apart : dir' ≢ new_dir'
  pub other : new_dir' ≢ file'.ino
