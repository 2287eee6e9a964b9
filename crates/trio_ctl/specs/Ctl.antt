-- What the controller keeps, as the state of which its steps speak.
use Rattle.std.specs.Prelude.{◌≡◌, ℕ, ◌+◌, ◌*◌, ◌<◌, ◌≤◌, List, [], map, Option, None, Some, length, IsTrue}
use Rattle.std.specs.List.{find}
use Rattle.std.specs.Option.{IsSomeAnd, option_map}
use Rattle.trio_page.specs.Field.{zeros}
use Rattle.trio_rights.specs.Row.{Row, row_in}
use Rattle.trio_rights.specs.declared.rights.Creds.{Creds}
use Rattle.trio_rights.specs.declared.rights.LibNo.{LibNo}
use Rattle.trio_nodes.specs.declared.grant.GrantKind.TheVariants.{Hold}
use Rattle.trio_nodes.specs.declared.entry.Entry.{Entry}
use Rattle.trio_nodes.specs.declared.grant.Holder.{Holder}
use Rattle.trio_nodes.specs.GrantKinds.{is_write}
use Rattle.trio_grants.specs.Grants.{Keyed}
use Rattle.trio_lists.specs.Lists.{are_new, In}
use Rattle.trio_layout.specs.declared.superblock.Superblock.{Superblock}
use Rattle.trio_layout.specs.Superblock.{page_count}
use Rattle.trio_layout.specs.Core.{Core}
use Rattle.trio_layout.specs.Image.{Image, with_core_pages}
use Rattle.trio_state.specs.Grants.{holder_of}
use Rattle.trio_state.specs.Moves.{Outline, Underway, begun_by}
use Rattle.trio_state.specs.State.{OpenGrant, State, settled}
use Rattle.trio_tables.specs.Out.{NoneOut, lib_at}
use Rattle.trio_survey.specs.Stored.{StoresImage}
use Rattle.trio_image.specs.Image.{ImagePages, IsVerified, TablesAre}
use Rattle.trio_commit.specs.declared.store.Store.{Store}
use Rattle.trio_open.specs.Entries.{Entries, begun_among, reads_among}
use Rattle.trio_open.specs.Open.{Opened, grants_in, keyed}
use Rattle.trio_ctl.specs.Stored.{IsStored}

-- the superblock of an image of this core: its sizes, and the body of its root
abbrev pub superblock_for : Core → Superblock
superblock_for core = record {
  pages = core.range.end;
  inodes = core.inodes;
  first_owner = 1 + page_count (32 * core.inodes);
  first_core = core.range.first;
  root = core.root;
}

-- what is seen of the registry: its state, of each library, from library 1 on, the outline of its release that has begun and not
-- ended, how often home was looked at, and how many entries are promised
pub record Registered : Type 0 where
  pub state : State
  pub begun : List (Option Outline)
  pub looked : ℕ
  pub promised : ℕ

-- What is made ready: places in the log beside those that are promised, and memory for so many releases, each of which needs at most so
-- many bytes.
pub record Spare : Type 0 where
  pub places : ℕ
  pub kits : ℕ
  pub bytes : ℕ

-- what contracts see of the controller: its state, of each library, from library 1 on, the outline of its release that has begun and
-- not ended, the image that it began from, its log, how often home was looked at, and what is spare
pub record Controller : Type 0 where
  pub state : State
  pub begun : List (Option Outline)
  pub first : Image
  pub log : List Entry
  pub looked : ℕ
  pub spare : Spare

-- the state of the controller, with the releases that have begun and not ended
abbrev pub underway_of : Controller → Underway
underway_of c = record { state = c.state; begun = c.begun }

-- no release of the library has begun and not ended
abbrev pub IsIdle : Controller → ℕ → Type 0
IsIdle c lib = begun_by (underway_of c) lib ≡ None

-- no release of any library has
abbrev pub NoneBegun : Controller → Type 0
NoneBegun c = (lib : ℕ) → IsIdle c lib

-- the file of each of these grants is live, and of the kind that the grant lent
abbrev pub HaveKinds : List (Option Row) → List Opened → Type 0
HaveKinds rows files = (o : Opened) → In o files → IsSomeAnd (row_in rows o.grant.ino) (λ r. r.kind ≡ o.grant.of)

-- each hold among these grants told the directory that the row of its file names
abbrev pub HoldsAreTold : List (Option Row) → List OpenGrant → Type 0
HoldsAreTold rows grants =
    (g : OpenGrant) → In g grants → g.kind ≡ Hold → IsSomeAnd (row_in rows g.ino) (λ r. g.parent ≡ r.parent)

-- each open hold told the directory that its file's row still names
abbrev pub AreAsTold : State → Type 0
AreAsTold s = HoldsAreTold s.home.rows s.open_grants

-- What holds of what the controller keeps: the store is that of the open grants, the number 0 isn't out, there are 1 to 16
-- libraries, the table of grants has just the open ones, which are of earlier entries under keys of their own, there is a place for
-- a release of each library, and an entry is promised for each open read grant and for each release that has begun; the file of
-- each grant is of the grant's kind, and each hold told its directory.
pub record IsControlled (s : Store) (first_core : ℕ) (table : List Keyed) (files : List Opened) (creds : List Creds) (entries : Entries) (begun : List (Option Outline)) : Type 0 where
  pub stored : IsStored s first_core (grants_in files) creds entries.made
  pub no_zero : lib_at s.allotments.numbers 0 ≡ None
  pub some_libraries : 1 ≤ length creds
  pub few_libraries : length creds ≤ 16
  pub grants : table ≡ map keyed files
  pub keys_once : IsTrue (are_new [] (map (λ o. o.key) files))
  pub earlier : (o : Opened) → In o files → o.grant.entry < entries.made
  pub placed : length begun ≡ length creds
  pub promised : entries.promised ≡ reads_among (grants_in files) + begun_among begun
  pub kinds : HaveKinds s.rows files
  pub told : HoldsAreTold s.rows (grants_in files)

-- the library is one of the controller's
abbrev pub IsLibrary : LibNo → State → Type 0
IsLibrary lib s = (1 ≤ lib.0) × (lib.0 ≤ length s.creds)

-- the first open write grant, as others are told of it
abbrev pub writer_of : State → Option Holder
writer_of s = option_map holder_of (find (λ g. is_write g.kind) s.open_grants)

-- a page that is absent, all zero
abbrev pub or_zero : Option (List ℕ) → Option (List ℕ)
or_zero (Some bytes) = Some bytes
or_zero None = Some (zeros 4096)

-- an image with all zeros in place of the pages that are absent
abbrev pub with_zeros : Image → Image
with_zeros image = with_core_pages image (map or_zero image.core.pages)

-- The image tells what is settled: its superblock has the settled sizes and the root's body, its pages store the settled image,
-- all zero where one is out by allotment, its tables are the settled ones, and it verifies.
pub record TellsSettled (s : State) (image : ImagePages) : Type 0 where
  pub superblock : image.superblock ≡ superblock_for (settled s).core
  pub zeros : StoresImage image.superblock (with_zeros (settled s)) image.pages
  pub stores : NoneOut s.pages_out → StoresImage image.superblock (settled s) image.pages
  pub tables : TablesAre image.superblock image.pages (settled s).rows (settled s).owners
  pub verified : IsVerified image.superblock image.pages
