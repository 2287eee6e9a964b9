-- What the controller keeps: a store, and the grants that are open.
use Rattle.std.specs.Prelude.{◌≡◌, ℕ, ◌+◌, ◌*◌, ◌-◌, not, List, Some, length, IsTrue}
use Rattle.std.specs.List.{filter}
use Rattle.trio_rights.specs.declared.rights.Creds.{Creds}
use Rattle.trio_rights.specs.Bundle.{Bundle}
use Rattle.trio_nodes.specs.declared.grant.GrantKind.TheVariants.{Write}
use Rattle.trio_lists.specs.Lists.{In}
use Rattle.trio_layout.specs.declared.superblock.Superblock.{Superblock}
use Rattle.trio_layout.specs.Superblock.{page_count, superblock_fits}
use Rattle.trio_checkpoint.specs.Covered.{Checkpointed}
use Rattle.trio_state.specs.Bundles.{is_in_bundle}
use Rattle.trio_state.specs.Kept.{Kept}
use Rattle.trio_state.specs.State.{OpenGrant}
use Rattle.trio_commit.specs.declared.store.Store.{Store}
use Rattle.trio_commit.specs.Store.{checkpoint_at, state_of}
use Rattle.trio_open.specs.Covers.{CoversLent}

-- the superblock of the image at home, whose first core page is this one
abbrev pub superblock_at_home : Store → ℕ → Superblock
superblock_at_home s first_core = record {
  pages = length s.home.pages;
  inodes = length s.rows - 1;
  first_owner = 1 + page_count (32 * (length s.rows - 1));
  first_core = first_core;
  root = s.root;
}

-- What holds of a store with these open grants: its sizes fit each other, a checkpoint stands exactly where a write grant
-- on the file of that number is open, and covers what that lent, and the state is kept.
pub record IsStored (s : Store) (first_core : ℕ) (grants : List OpenGrant) (creds : List Creds) (entries : ℕ) : Type 0 where
  pub fits : IsTrue (superblock_fits (superblock_at_home s first_core))
  pub places : length s.checkpoints.items ≡ length s.rows
  pub of_grant : (n : ℕ) (c : Checkpointed) → checkpoint_at s.checkpoints.items n ≡ Some c → (g : OpenGrant) × In g grants × (g.kind ≡ Write) × (g.ino ≡ n)
  pub covers : (g : OpenGrant) → In g grants → g.kind ≡ Write → (c : Checkpointed) × (checkpoint_at s.checkpoints.items g.ino ≡ Some c) × CoversLent g c
  pub kept : Kept (state_of s first_core grants creds entries)

-- the open grants that the end of this library's bundle leaves open
abbrev pub grants_staying : ℕ → Bundle → List OpenGrant → List OpenGrant
grants_staying lib b grants = filter (λ g. not (is_in_bundle lib b g)) grants
