-- A release that has begun, as the registry has it. Cited by private functions alone.
use Rattle.std.specs.Prelude.{◌≡◌, List}
use Rattle.trio_layout.specs.Copied.{copied_rows}
use Rattle.trio_layout.specs.Image.{settled_body}
use Rattle.trio_lease.specs.Views.{bundle_in}
use Rattle.trio_lease.specs.declared.parts.HoldParts.{HoldParts}
use Rattle.trio_lists.specs.Lists.{In}
use Rattle.trio_case.specs.Cases.{CaseShown}
use Rattle.trio_state.specs.Moves.{Underway}
use Rattle.trio_state.specs.State.{State, creds_of, settled}
use Rattle.trio_ctl.specs.Ctl.{Registered}

-- what is underway
abbrev pub underway_at : Registered → Underway
underway_at r = record { state = r.state; begun = r.begun }

-- each of these holds has the settled body of its file
abbrev pub HaveBodies : State → List HoldParts → Type 0
HaveBodies s holds = (h : HoldParts) → In h holds → h.body ≡ settled_body (settled s) h.ino

-- the rows, the credentials and the sizes of the case are those that would be copied now
pub record IsCopy (s : State) (k : CaseShown) : Type 0 where
  pub rows : k.rows ≡ copied_rows (bundle_in k.bundle) s.home.rows
  pub creds : k.creds ≡ creds_of s k.lib.0
  pub range : k.range ≡ s.home.core.range
  pub inodes : k.inodes ≡ s.home.core.inodes
