-- What callers may know of picks as functions.
use Rattle.std.specs.Prelude.{◌≡◌, ℕ, List, Option, None, replicate}
use Rattle.trio_layout.specs.Survey.{Pick, plain}
use Rattle.trio_survey.specs.declared.picks.Picked.{Picked}
use Rattle.trio_survey.specs.Picks.{pick_of}

-- where nothing is picked, each entry has the bytes in its slot
abbrev pub NothingPicked : Type 0
NothingPicked = (n : ℕ) → pick_of (replicate n None) ≡ plain

-- picks that give each entry the body that a pick gives it are that pick
abbrev pub PicksByBody : Type 0
PicksByBody = (picks : List (Option Picked)) (pick : Pick)
    → ((directory page slot ino : ℕ) (bytes : List ℕ) → pick_of picks directory page slot ino bytes ≡ pick directory page slot ino bytes)
    → pick_of picks ≡ pick
