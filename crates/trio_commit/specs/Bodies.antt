-- Where the bodies of an accepted bundle go.
use Rattle.std.specs.Prelude.{◌≡◌, ◌<◌, ℕ, suc, ◌==◌, Bool, false, not, ◌&&◌, List, [], ◌∷◌, map, Option, Some, None, is_some, if◌then◌else◌, IsTrue, slice_set}
use Rattle.std.specs.List.{filter, filter_map, find}
use Rattle.std.specs.Option.{option_map, option_map_or, option_and_then}
use Rattle.trio_lists.specs.Lists.{is_among}
use Rattle.trio_rights.specs.Bundle.{Bundle, Written}
use Rattle.trio_rights.specs.Row.{Row, row_in}
use Rattle.trio_rights.specs.Sheets.{sheet_numbers}
use Rattle.trio_layout.specs.Survey.{Met}
use Rattle.trio_layout.specs.JudgedFiles.{written_at}
use Rattle.trio_layout.specs.Listing.{ListedEntry}
use Rattle.trio_checkpoint.specs.Covered.{Checkpointed, body_on, with_body}
use Rattle.trio_commit.specs.Store.{checkpoint_at}

-- ---- the bodies of written files

-- the root's body, where the root is written, else this one
abbrev pub root_after : Bundle → List ℕ → List ℕ
root_after b root = option_map_or (λ w. w.body) (find (λ w. w.ino == 1) b.writes) root

-- the file is live, and not the root: so its body has a place
abbrev pub has_place : List (Option Row) → Written → Bool
has_place rows w = not (w.ino == 1) && is_some (row_in rows w.ino)

-- the written files whose bodies have a place, each with its lease's body at the place that its row names
abbrev pub placed_files : List (Option Row) → Bundle → List Met
placed_files rows b = map (λ w. written_at w (row_in rows w.ino)) (filter (has_place rows) b.writes)

-- the directory that lists the file is lent for writing
abbrev pub is_parent_lent : List (Option Checkpointed) → Met → Bool
is_parent_lent checkpoints m = is_some (checkpoint_at checkpoints m.parent)

-- those whose directory isn't lent: their bodies go home
abbrev pub bodies_home : List (Option Row) → List (Option Checkpointed) → Bundle → List Met
bodies_home rows checkpoints b = filter (λ m. not (is_parent_lent checkpoints m)) (placed_files rows b)

-- a checkpoint of a directory, with the body of a file that it lists
abbrev pub with_child : Met → Checkpointed → Checkpointed
with_child m c =
    record { ino = c.ino; body = c.body; chain = c.chain; index = c.index; blocks = with_body m.page m.slot m.body c.blocks }

-- the checkpoints, with the body of each file in that of its directory, where there is one
abbrev pub with_children : List Met → List (Option Checkpointed) → List (Option Checkpointed)
with_children [] checkpoints = checkpoints
with_children (m ∷ ms) checkpoints =
    with_children ms (slice_set checkpoints m.parent (option_map (with_child m) (checkpoint_at checkpoints m.parent)))

-- the checkpoints once the bodies of the written files are in those of their directories
abbrev pub with_written : List (Option Row) → List (Option Checkpointed) → Bundle → List (Option Checkpointed)
with_written rows checkpoints b = with_children (placed_files rows b) checkpoints

-- the place is a slot of a directory page, which the checkpoint of the directory covers where there is one
pub record IsPlaced (checkpoints : List (Option Checkpointed)) (m : Met) : Type 0 where
  pub slot : m.slot < 16
  pub covered : (c : Checkpointed) → checkpoint_at checkpoints m.parent ≡ Some c → IsTrue (is_among m.page (sheet_numbers c.blocks))

-- ---- the bodies of kept children

-- the body that the checkpoint of its directory has for a kept child, at its place; None of every other entry
abbrev pub kept_body : List (Option Checkpointed) → ListedEntry → Option (List ℕ)
kept_body checkpoints e =
    if e.kept then option_and_then (λ c. body_on e.page e.slot c.blocks) (checkpoint_at checkpoints e.dir) else None

-- the file of an entry, with this body
abbrev pub child_of : ListedEntry → List ℕ → Met
child_of e body =
    record { ino = e.ino; kind = e.kind; parent = e.dir; page = e.page; slot = e.slot; body = body }

-- the kept children, each with that body at its place
abbrev pub kept_children : List (Option Checkpointed) → List ListedEntry → List Met
kept_children checkpoints entries = filter_map (λ e. option_map (child_of e) (kept_body checkpoints e)) entries

-- how often the page changes along the places of these files, from one page on
abbrev pub page_changes : Option ℕ → List Met → ℕ
page_changes at [] = 0
page_changes at (m ∷ ms) =
    if option_map_or (λ page. page == m.page) at false
    then page_changes (Some m.page) ms else suc (page_changes (Some m.page) ms)
