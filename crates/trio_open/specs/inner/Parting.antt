-- Which holds are parted, by the rows and the open grants. Cited by functions that the controller alone calls.
use Rattle.std.specs.Prelude.{ℕ, ◌==◌, Bool, not, ◌&&◌, List, map, Option, if◌then◌else◌}
use Rattle.std.specs.List.{filter}
use Rattle.trio_rights.specs.Bundle.{Bundle}
use Rattle.trio_rights.specs.Row.{Row, row_in}
use Rattle.trio_nodes.specs.GrantKinds.{is_hold}
use Rattle.trio_lists.specs.Lists.{is_among}
use Rattle.trio_state.specs.Bundles.{is_parent_written, lowest}
use Rattle.trio_state.specs.State.{OpenGrant}
use Rattle.trio_open.specs.Open.{Opened}

-- the grant is a hold of the library, and just one of it and of the lease on the parent of its file is in the bundle
abbrev pub is_parted_by : List (Option Row) → ℕ → Bundle → OpenGrant → Bool
is_parted_by rows lib b g =
    g.lib == lib && is_hold g.kind
    && (if is_among g.ino b.holds then not (is_parent_written b (row_in rows g.ino)) else is_parent_written b (row_in rows g.ino))

-- the lowest number at which one is
abbrev pub lowest_parted : List (Option Row) → ℕ → Bundle → List Opened → Option ℕ
lowest_parted rows lib b files = lowest (map (λ o. o.grant.ino) (filter (λ o. is_parted_by rows lib b o.grant) files))
