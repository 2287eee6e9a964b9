-- The state of the controller, and the image that is settled in it.
use Rattle.std.specs.Prelude.{ℕ, ◌+◌, Bool, List, [], Option}
use Rattle.std.specs.List.{flat_map}
use Rattle.trio_rights.specs.declared.kind.Kind.{Kind}
use Rattle.trio_rights.specs.declared.rights.Creds.{Creds}
use Rattle.trio_rights.specs.declared.rights.LibNo.{LibNo}
use Rattle.trio_nodes.specs.declared.grant.GrantKind.{GrantKind}
use Rattle.trio_nodes.specs.declared.grant.GrantKind.TheVariants.{Read, Write, Hold}
use Rattle.trio_nodes.specs.Libraries.{creds_in}
pub use Rattle.trio_nodes.specs.Libraries.{IsLibrary}
use Rattle.trio_rights.specs.Sheets.{Sheet, with_pages}
use Rattle.trio_layout.specs.Pages.{covered_of}
use Rattle.trio_layout.specs.Image.{Image, with_core_pages}

-- A grant that is open. What it lent stays as it was lent: the body, and for reading and writing the index pages and blocks.
-- A hold told the file's directory and the number of its children, which stay here as they were told; any other grant has 0 for both.
-- Its checkpoint is of a write grant alone, and follows the bodies of children that are accepted meanwhile.
pub record OpenGrant : Type 0 where
  pub lib : ℕ
  pub ino : ℕ
  pub kind : GrantKind
  pub of : Kind
  pub entry : ℕ
  pub body : List ℕ
  pub index : List Sheet
  pub blocks : List Sheet
  pub parent : ℕ
  pub children : ℕ
  pub checkpoint : List Sheet

-- Pages of the home image that are lent by move or out by allotment are absent. Grants stand in the order of their entries.
-- By page number and by inode number, `pages_out` and `numbers_out` have the library that has it out; so what is out is out to
-- one library, and once. `entries` counts the entries of the history.
pub record State : Type 0 where
  pub home : Image
  pub open_grants : List OpenGrant
  pub pages_out : List (Option LibNo)
  pub numbers_out : List (Option LibNo)
  pub creds : List Creds
  pub entries : ℕ

-- what the checkpoint of a grant covers, on a file of this kind that is guarded or isn't
abbrev pub covered : GrantKind → Kind → Bool → List Sheet → List Sheet → List Sheet
covered Write of guarded index blocks = covered_of of guarded index blocks
covered Read of guarded index blocks = []
covered Hold of guarded index blocks = []

-- home with the checkpoint of each open write grant in place
abbrev pub settled : State → Image
settled s = with_core_pages s.home (with_pages (flat_map (λ g. g.checkpoint) s.open_grants) s.home.core.pages)

-- the credentials of a library; nobody's where it is none of those of the state
abbrev pub creds_of : State → ℕ → Creds
creds_of s lib = creds_in s.creds lib

-- one entry more in the history
abbrev pub logged : State → State
logged s = record s { entries = s.entries + 1 }
