-- What is kept of a file that is out for writing.
use Rattle.std.specs.Prelude.{◌≡◌, [], if◌then◌else◌}
use Rattle.trio_rights.specs.ByKind.{covers_blocks}
use Rattle.trio_rights.specs.Sheets.{sheet_numbers}
use Rattle.trio_layout.specs.Body.{guard_in}
use Rattle.trio_checkpoint.specs.Covered.{Checkpointed}
use Rattle.trio_state.specs.State.{OpenGrant}

-- a checkpoint covers what the grant lent: its index pages, and the blocks of a directory or of a guarded file; and it has the body
-- and the numbers of all pages that the grant lent
pub record CoversLent (g : OpenGrant) (c : Checkpointed) : Type 0 where
  pub body : c.body ≡ g.body
  pub chain : c.chain ≡ record { index = sheet_numbers g.index; blocks = sheet_numbers g.blocks }
  pub index : sheet_numbers c.index ≡ sheet_numbers g.index
  pub blocks : sheet_numbers c.blocks ≡ (if covers_blocks g.of (guard_in g.body) then sheet_numbers g.blocks else [])
