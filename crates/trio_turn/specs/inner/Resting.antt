-- How a seat is between two calls.
use Rattle.std.specs.Prelude.{ℕ, ◌==◌, ◌&&◌, nat_lt, Bool, true, false, List, [], ◌∷◌, Option, None}
use Rattle.trio_turn.specs.declared.view.Stage.{Stage}
use Rattle.trio_turn.specs.declared.view.Stage.TheVariants.{Idle, Waiting, InTurn, Spent}

module _ {T : Type 0} where
  -- it has no ticket, or it is in its turn with this ticket, which isn't the last one that a word can hold
  abbrev pub is_resting : ℕ → Stage T → Bool
  is_resting ticket Idle = true
  is_resting ticket (Waiting t) = false
  is_resting ticket (InTurn t x) = (t == ticket) && nat_lt ticket 18446744073709551615
  is_resting ticket Spent = false

  -- in its turn it has the slot, which is empty
  abbrev pub carries : Stage T → List (ℕ × Option T)
  carries Idle = []
  carries (Waiting t) = []
  carries (InTurn t x) = (0, None) ∷ []
  carries Spent = []
