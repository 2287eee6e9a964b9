-- When a bundle is accepted, and what then stands.
use Rattle.std.specs.Prelude.{ℕ, ◌+◌, ◌*◌, ◌==◌, Bool, ◌&&◌, List, [], ◌∷◌, Option, None, if◌then◌else◌, slice_index_or, slice_set}
use Rattle.std.specs.Option.{option_map}
use Rattle.trio_page.specs.Field.{with_part}
use Rattle.trio_rights.specs.declared.rights.Creds.{Creds}
use Rattle.trio_layout.specs.Survey.{Met, survey}
use Rattle.trio_layout.specs.Sound.{is_sound, rows_table, owners_table}
use Rattle.trio_layout.specs.Image.{Image}
use Rattle.trio_rights.specs.Bundle.{Bundle}
use Rattle.trio_layout.specs.Proposed.{proposed, proposed_pick}
use Rattle.trio_layout.specs.Allowed.{is_allowed}

-- the survey of the proposed core is sound, and the change is allowed
abbrev pub is_accepted : Image → Creds → Bundle → Bool
is_accepted image creds b =
    let core = proposed image b in
    let pick = proposed_pick image b in
    is_sound core pick && is_allowed image creds b core (survey core pick)

-- the page with this body in one of its slots
abbrev pub with_body_in : ℕ → List ℕ → List ℕ → List ℕ
with_body_in slot body bytes = with_part (256 * slot + 192) body bytes

-- the pages with this body at a place
abbrev pub with_body_at : ℕ → ℕ → List ℕ → List (Option (List ℕ)) → List (Option (List ℕ))
with_body_at page slot body pages =
    slice_set pages page (option_map (with_body_in slot body) (slice_index_or pages page None))

-- the pages with the body of each file at its place; the root's is on none
abbrev pub with_bodies : List Met → List (Option (List ℕ)) → List (Option (List ℕ))
with_bodies [] pages = pages
with_bodies (m ∷ ms) pages = with_bodies ms (if m.ino == 1 then pages else with_body_at m.page m.slot m.body pages)

-- What stands after an accepted bundle: the proposed core with the picked bodies at their places, and the tables of its
-- survey. A page that no file lists is free.
abbrev pub next : Image → Bundle → Image
next image b =
    let core = proposed image b in
    let files = survey core (proposed_pick image b) in
    record {
      core = record { pages = with_bodies files core.pages; root = core.root; range = core.range; inodes = core.inodes };
      rows = rows_table core files;
      owners = owners_table core files;
    }
