-- Bodies that are picked in place of the bytes in slots.
use Rattle.std.specs.Prelude.{ℕ, ◌==◌, ◌&&◌, List, Option, None, Some, if◌then◌else◌, slice_index_or}
use Rattle.trio_layout.specs.Survey.{Pick}
use Rattle.trio_survey.specs.declared.picks.Picked.{Picked}

-- the body of an entry at a place, by what is picked for its number and the bytes in its slot
abbrev pub body_picked : Option Picked → ℕ → ℕ → ℕ → List ℕ → List ℕ
body_picked None directory page slot bytes = bytes
body_picked (Some p) directory page slot bytes =
    if p.parent == directory && p.page == page && p.slot == slot then p.body else bytes

-- An entry has the body that is picked for its number, if one is picked at just its directory, page and slot. Every other entry
-- has the bytes in its slot.
abbrev pub pick_of : List (Option Picked) → Pick
pick_of picks directory page slot ino bytes = body_picked (slice_index_or picks ino None) directory page slot bytes
