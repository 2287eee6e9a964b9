-- What holds of every state that the controller is in.
use Rattle.std.specs.Prelude.{◌≡◌, ◌≢◌, ℕ, ◌+◌, Bool, ◌&&◌, List, ◌++◌, length, AllPairs, ◌⊎◌, None, Some, Ok, is_some, slice_get, slice_index, IsTrue, IsFalse}
use Rattle.std.specs.List.{list_any}
use Rattle.trio_tables.specs.Out.{is_out}
use Rattle.trio_rights.specs.ByKind.{is_directory}
use Rattle.trio_nodes.specs.declared.grant.GrantKind.TheVariants.{Write, Hold}
use Rattle.trio_lists.specs.Lists.{In, is_among}
use Rattle.trio_layout.specs.Body.{guard_in}
use Rattle.trio_layout.specs.Core.{page_of}
use Rattle.trio_layout.specs.Range.{is_core}
use Rattle.trio_layout.specs.Survey.{Met, plain, survey, FileRead, file_of}
use Rattle.trio_rights.specs.Sheets.{Sheet, sheet_numbers}
use Rattle.trio_layout.specs.Image.{Image, IsFit, row_at, settled_body}
use Rattle.trio_layout.specs.Verifies.{Verifies}
use Rattle.trio_state.specs.State.{OpenGrant, State, settled, covered}
use Rattle.trio_nodes.specs.GrantKinds.{is_write, is_read}
use Rattle.trio_state.specs.Grants.{has_parent_grant}

-- two open grants on one file are read grants of different libraries
abbrev pub MayBothStand : OpenGrant → OpenGrant → Type 0
MayBothStand g h = g.ino ≡ h.ino → (IsTrue (is_read g.kind && is_read h.kind)) × (g.lib ≢ h.lib)

-- a hold stands with its library's write grant on the parent
abbrev pub HoldStands : State → OpenGrant → Type 0
HoldStands s g = IsTrue (has_parent_grant s g.lib (row_at s.home g.ino))

-- a write grant lent just the pages that its file lists in the settled image, of a file of the grant's kind
pub record LentIsListed (image : Image) (g : OpenGrant) : Type 0 where
  pub met : Met
  pub file : FileRead
  pub stands : In met (survey image.core plain)
  pub read : file_of image.core met ≡ Ok file
  pub number : met.ino ≡ g.ino
  pub of : met.kind ≡ g.of
  pub index : sheet_numbers g.index ≡ file.chain.index
  pub blocks : sheet_numbers g.blocks ≡ file.chain.blocks

-- the blocks that a grant lent stand in the image with the bytes that were lent
abbrev pub HasLentBlocks : Image → OpenGrant → Type 0
HasLentBlocks image g = (x : Sheet) → In x g.blocks → page_of image.core x.page ≡ Some x.bytes

-- the page was lent by an open write grant
abbrev pub is_lent : List OpenGrant → ℕ → Bool
is_lent grants page = list_any (λ g. is_write g.kind && is_among page (sheet_numbers (g.index ++ g.blocks))) grants

-- The settled image verifies, and its pages are whole. The file of each open grant is live, its lent body is the settled one still,
-- and grants on one file are apart. Holds stand with their parents' write grants, and write grants lent what their files list, under
-- a checkpoint of what it is to cover; so the blocks of a guarded file are settled as they were lent. A page is absent from home only
-- where it was lent for writing or is out by allotment. Each page and each inode number from 0 on has its place in the lists of what is
-- out, and what is out is owned by nobody.
pub record Kept (s : State) : Type 0 where
  pub fit : IsFit (settled s).core
  pub verifies : Verifies (settled s)
  pub live : (g : OpenGrant) → In g s.open_grants → IsTrue (is_some (row_at s.home g.ino))
  pub bodies : (g : OpenGrant) → In g s.open_grants → g.body ≡ settled_body (settled s) g.ino
  pub apart : AllPairs MayBothStand s.open_grants
  pub held : (g : OpenGrant) → In g s.open_grants → g.kind ≡ Hold → HoldStands s g
  pub lent : (g : OpenGrant) → In g s.open_grants → g.kind ≡ Write → LentIsListed (settled s) g
  pub checkpoints : (g : OpenGrant) → In g s.open_grants → sheet_numbers g.checkpoint ≡ sheet_numbers (covered g.kind g.of (guard_in g.body) g.index g.blocks)
  pub guarded : (g : OpenGrant) → In g s.open_grants → g.kind ≡ Write → IsFalse (is_directory g.of) → IsTrue (guard_in g.body) → HasLentBlocks (settled s) g
  pub absent : (page : ℕ) → slice_get s.home.core.pages page ≡ Some None → IsTrue (is_core s.home.core.range page) → IsTrue (is_lent s.open_grants page) ⊎ IsTrue (is_out s.pages_out page)
  pub pages_placed : length s.pages_out ≡ s.home.core.range.end
  pub out_free : (page : ℕ) → IsTrue (is_out s.pages_out page) → slice_index s.home.owners page ≡ 0
  pub numbers_placed : length s.numbers_out ≡ s.home.core.inodes + 1
  pub numbers_free : (n : ℕ) → IsTrue (is_out s.numbers_out n) → row_at s.home n ≡ None
