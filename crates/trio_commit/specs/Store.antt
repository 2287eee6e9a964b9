-- What a store keeps, and the state whose store it is.
use Rattle.std.specs.Prelude.{ℕ, ◌-◌, List, [], map, Option, None, length, if◌then◌else◌, slice_index_or}
use Rattle.std.specs.Option.{option_map_or}
use Rattle.trio_rights.specs.declared.rights.Creds.{Creds}
use Rattle.trio_rights.specs.Sheets.{Sheet}
use Rattle.trio_nodes.specs.GrantKinds.{is_write}
use Rattle.trio_layout.specs.Image.{Image}
use Rattle.trio_checkpoint.specs.Covered.{Checkpointed, covered_pages}
use Rattle.trio_state.specs.State.{OpenGrant, State}
use Rattle.trio_commit.specs.declared.store.Store.{Store}

-- the checkpoint of the file of this number; None where the file isn't lent for writing
abbrev pub checkpoint_at : List (Option Checkpointed) → ℕ → Option Checkpointed
checkpoint_at checkpoints n = slice_index_or checkpoints n None

-- the pages that it covers
abbrev pub covered_at : List (Option Checkpointed) → ℕ → List Sheet
covered_at checkpoints n = option_map_or covered_pages (checkpoint_at checkpoints n) []

-- the image at home, whose first core page is this one
abbrev pub image_at_home : Store → ℕ → Image
image_at_home s first_core = record {
  core = record {
    pages = s.home.pages;
    root = s.root;
    range = record { first = first_core; end = length s.home.pages };
    inodes = length s.rows - 1;
  };
  rows = s.rows;
  owners = s.owners;
}

-- a grant with the checkpoint that is kept for it
abbrev pub with_checkpoint : List (Option Checkpointed) → OpenGrant → OpenGrant
with_checkpoint checkpoints g =
    record g { checkpoint = if is_write g.kind then covered_at checkpoints g.ino else [] }

-- The state of a controller with this store: with this first core page, these open grants, whose checkpoints the store has,
-- these credentials, and so many entries of the history.
abbrev pub state_of : Store → ℕ → List OpenGrant → List Creds → ℕ → State
state_of s first_core grants creds entries = record {
  home = image_at_home s first_core;
  open_grants = map (with_checkpoint s.checkpoints.items) grants;
  pages_out = s.allotments.pages;
  numbers_out = s.allotments.numbers;
  creds = creds;
  entries = entries;
}
