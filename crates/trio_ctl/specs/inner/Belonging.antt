-- What a bundle that belongs to a library is asked, test by test. Cited by private functions alone.
use Rattle.std.specs.Prelude.{◌==◌, Bool, ◌&&◌, List, None}
use Rattle.std.specs.List.{list_all}
use Rattle.std.specs.Option.{option_map}
use Rattle.trio_rights.specs.Row.{row_in}
use Rattle.trio_rights.specs.declared.rights.LibNo.{LibNo}
use Rattle.trio_grants.specs.Grants.{Keyed, first_with, holder, is_on}
use Rattle.trio_lease.specs.Bundles.{Bundled}
use Rattle.trio_lease.specs.Shown.{Shown}
use Rattle.trio_layout.specs.Allowed.{has_kind}
use Rattle.trio_commit.specs.declared.store.Store.{Store}
use Rattle.trio_commit.specs.Store.{checkpoint_at}
use Rattle.trio_open.specs.Open.{Opened}
use Rattle.trio_open.specs.inner.Given.{has_pages_of, is_held_by, is_number_by, is_page_by, writes_since}

-- a file that a write lease shows is that of the library's write grant, by the table of grants, the rows and the checkpoints
abbrev pub is_lease_by : List Keyed → Store → LibNo → Shown → Bool
is_lease_by table s lib f =
    f.lib.0 == lib.0 && writes_since lib f.entry (option_map holder (first_with (is_on f.ino None) table))
    && has_kind f.kind (row_in s.rows f.ino) && has_pages_of f (checkpoint_at s.checkpoints.items f.ino)

-- each thing of a bundle was given to the library
abbrev pub are_given_by : List Keyed → List Opened → Store → LibNo → Bundled → Bool
are_given_by table files s lib b =
    list_all (λ f. is_lease_by table s lib f.stands) b.writes && list_all (λ h. is_held_by files lib h) b.holds
    && list_all (λ p. is_page_by s.allotments.pages lib p) b.pages && list_all (λ n. is_number_by s.allotments.numbers lib n) b.inodes
