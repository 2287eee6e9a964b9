-- What is seen of a view.
use Rattle.std.specs.Prelude.{ℕ, List, [], ◌∷◌, Option, Some, None}
use Rattle.trio_nodes.specs.declared.entry.Entry.{Entry}
use Rattle.trio_turn.specs.Origins.{Origin}
use Rattle.trio_turn.specs.declared.view.Library.{Library}
use Rattle.trio_turn.specs.declared.view.View.{View}
use Rattle.trio_turn.specs.declared.view.Stage.{Stage}
use Rattle.trio_turn.specs.declared.view.Stage.TheVariants.{Idle, Waiting, InTurn, Spent}
use Rattle.trio_turn.specs.Marks.{Mark}

-- the number of the first library
abbrev pub own_number : List Library → ℕ
own_number [] = 0
own_number (p ∷ ps) = p.number

-- the mark of the first library
abbrev pub own_begun : List Library → Mark
own_begun [] = None
own_begun (p ∷ ps) = p.begun

module _ {T : Type 0} where
  -- the value that a seat in its turn took
  abbrev pub held : Stage T → Option T
  held Idle = None
  held (Waiting t) = None
  held (InTurn t x) = Some x
  held Spent = None

  -- a view of these parts
  abbrev pub view : Origin → List Entry → List Entry → List Library → Stage T → View T
  view first seen shorter libraries stage = record { first = first; seen = seen; shorter = shorter; libraries = libraries; stage = stage }
