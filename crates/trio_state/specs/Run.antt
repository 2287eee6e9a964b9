-- Whole runs of the controller.
use Rattle.std.specs.Prelude.{◌≡◌, ℕ, ◌+◌, List, [], ◌∷◌, Some, None, slice_get, IsTrue}
use Rattle.trio_rights.specs.declared.rights.Creds.{Creds}
use Rattle.trio_tables.specs.Out.{none_out}
use Rattle.trio_layout.specs.Range.{is_core}
use Rattle.trio_layout.specs.Image.{Image}
use Rattle.trio_state.specs.State.{State}
use Rattle.trio_state.specs.Step.{Event, CtlAnswer, Step}
use Rattle.trio_state.specs.Given.{GivenEvent}

-- the state of an image with nothing lent or out, and no history
abbrev pub start : Image → List Creds → State
start image creds = record {
  home = image;
  open_grants = [];
  pages_out = none_out image.core.range.end;
  numbers_out = none_out (image.core.inodes + 1);
  creds = creds;
  entries = 0;
}

-- no core page of the image is absent
abbrev pub IsWhole : Image → Type 0
IsWhole image = (page : ℕ) → slice_get image.core.pages page ≡ Some None → IsTrue (is_core image.core.range page) → ⊥

-- from s the controller may give these answers to these events, one after another, and then be in s'
abbrev pub Run : State → List Event → List CtlAnswer → State → Type 0
Run s [] [] s' = s' ≡ s
Run s (event ∷ events) (answer ∷ answers) s' = (mid : State) × Step s event answer mid × Run mid events answers s'
Run s [] (answer ∷ answers) s' = ⊥
Run s (event ∷ events) [] s' = ⊥

-- a call with its answer, and the states before and after it
pub record Move : Type 0 where
  pub before : State
  pub event : Event
  pub answer : CtlAnswer
  pub after : State

-- moves from s on: each begins where the one before it ended, hands in what was given, and is a step
abbrev pub Trace : State → List Move → Type 0
Trace s [] = Unit {0}
Trace s (m ∷ moves) =
    (m.before ≡ s) × GivenEvent m.before m.event × Step m.before m.event m.answer m.after × Trace m.after moves
