-- What each kind of step makes of a view, and what it tells.
use Rattle.std.specs.Prelude.{◌≡◌, ◌≢◌, ℕ, zero, suc, nat_le, cond, List, [], ◌∷◌, ◌++◌, map, length, Option, Some, None}
use mathlib.Core.Option.{some}
use mathlib.Core.List.{IsPrefix}
use lib.ListN.{get_elem?}
use Rattle.atomic_table.specs.Table.{Me, Step}
use Rattle.trio_nodes.specs.declared.entry.Entry.{Entry}
use Rattle.trio_turn.specs.Origins.{Origin, no_origin}
use Rattle.trio_turn.specs.declared.view.Library.{Library}
use Rattle.trio_turn.specs.declared.view.View.{View}
use Rattle.trio_turn.specs.declared.view.Stage.{Stage}
use Rattle.trio_turn.specs.declared.view.Stage.TheVariants.{Idle, Waiting, InTurn, Spent}
use Rattle.trio_turn.specs.Logs.{made_by}
use Rattle.trio_turn.specs.Marks.{Mark}
use Rattle.trio_turn.specs.Views.{view}

-- ---- views

module _ {T : Type 0} where
  -- the same view in another stage
  abbrev pub staged : View T → Stage T → View T
  staged v stage = view v.first v.seen v.shorter v.libraries stage

  -- a view that has no ticket, or is in its turn
  abbrev pub DoesNotWait : Stage T → Type 0
  DoesNotWait Idle = Unit {0}
  DoesNotWait (Waiting t) = ⊥
  DoesNotWait (InTurn t x) = Unit {0}
  DoesNotWait Spent = ⊥

module _ {T : Type 0} (first : T → Origin) (log : T → List Entry) (begun : T → ℕ → Mark) where
  -- so many libraries, from the library l on, none of which has seen an entry
  abbrev pub lined_up : T → ℕ → ℕ → List Library
  lined_up value l zero = []
  lined_up value l (suc n) = record { number = l; first = first value; begun = begun value l; seen = [] } ∷ lined_up value (suc l) n

  -- the view of the first token, while it has so many libraries from the library l on
  abbrev pub dealing : T → ℕ → ℕ → View T
  dealing value l n = view (first value) [] [] (lined_up value l n) Idle

  -- the view of the first token at the start
  abbrev pub starting : ℕ → T → View T
  starting count value = dealing value 1 count

-- the first library alone
abbrev pub first_of : List Library → List Library
first_of [] = []
first_of (p ∷ ps) = p ∷ []

-- the libraries but the first
abbrev pub rest_of : List Library → List Library
rest_of [] = []
rest_of (p ∷ ps) = ps

-- the longer of two lists
abbrev pub longer : List Entry → List Entry → List Entry
longer xs ys = cond (nat_le (length xs) (length ys)) ys xs

-- the shorter of two lists
abbrev pub shorter : List Entry → List Entry → List Entry
shorter xs ys = cond (nat_le (length xs) (length ys)) xs ys

-- ---- splits and joins

module _ {T : Type 0} where
  -- the first library is gone
  abbrev pub unseated : View T → View T
  unseated v = view v.first v.seen v.shorter (rest_of v.libraries) v.stage

  -- the first library has a view of its own
  abbrev pub seated : View T → View T
  seated v = view v.first v.seen v.shorter (first_of v.libraries) Idle

  -- a view that has seen as much, without a library
  abbrev pub copied : View T → View T
  copied v = view v.first v.seen v.shorter [] Idle

  -- a library leaves with all that its seat has seen
  abbrev pub left_with : View T → Library → Library
  left_with w p = record { number = p.number; first = w.first; begun = p.begun; seen = w.seen }

  -- the longer list, and the libraries of both
  abbrev pub met : View T → View T → View T
  met v w = view v.first (longer v.seen w.seen) (shorter v.seen w.seen) (v.libraries ++ map (left_with w) w.libraries) v.stage

  -- the view of a token that was joined into another
  abbrev pub spent : View T
  spent = view no_origin [] [] [] Spent

-- ---- steps on a word: the step, what the seat was, the number that was found or stored, what the seat is

-- what a seat knows, and the slots that are out with it
abbrev Seat : Type 0 → Type 0
Seat T = Me (Option T) (View T)

-- a step on a word
abbrev At : Type 0 → Type 0
At T = Step (Option T)

module _ {T : Type 0} where
  -- a ticket was drawn, or nothing changed
  abbrev pub drew : At T → Seat T → ℕ → Seat T → Type 0
  drew st m found m' = (found ≡ st.first → m' ≡ (staged m.0 (Waiting found), m.1)) × (found ≢ st.first → m' ≡ m)

  -- the turn was passed on
  abbrev pub passed : At T → Seat T → ℕ → Seat T → Type 0
  passed st m found m' = m' ≡ (staged m.0 Idle, [])

  module _ (first : T → Origin) (log : T → List Entry) (begun : T → ℕ → Mark) where
    -- the value that a view takes: it began from what the view knows, and it has no entry of the view's libraries which the view hasn't seen
    pub record Learns (v : View T) (x : T) : Type 0 where
      pub first_is : first x ≡ v.first
      pub grew : IsPrefix v.seen (log x)
      pub each_library : (k : ℕ) (p : Library) → get_elem? v.libraries k ≡ some p → (made_by p.number (log x) ≡ made_by p.number v.seen) × (p.begun ≡ begun x p.number)

    -- all lists of a view begin the entries of one value, and the view has seen of its libraries what their seats had
    abbrev pub LooksAt : View T → Type 0
    LooksAt v = (x : T) × Learns v x × IsPrefix v.shorter (log x) × ((k : ℕ) (p : Library) → get_elem? v.libraries k ≡ some p → IsPrefix p.seen v.seen × (made_by p.number v.seen ≡ made_by p.number p.seen))

    -- One that waits takes the value out where its ticket is served, and else nothing changes. One that doesn't wait learns how its lists lie.
    abbrev pub ReadAt : Stage T → Seat T → ℕ → Seat T → Type 0
    ReadAt Idle m found m' = (m' ≡ m) × LooksAt m.0
    ReadAt (Waiting t) m found m' = (found ≡ t → (x : T) × (m' ≡ (staged m.0 (InTurn t x), (0, Some x) ∷ m.1)) × Learns m.0 x) × (found ≢ t → m' ≡ m)
    ReadAt (InTurn t x) m found m' = (m' ≡ m) × LooksAt m.0
    ReadAt Spent m found m' = Unit {0}

    -- which ticket is served was read
    abbrev pub read : At T → Seat T → ℕ → Seat T → Type 0
    read st m found m' = ReadAt m.0.stage m found m'

  -- the first library has the value's mark, and its seat has seen all entries
  abbrev pub counted_libraries : T → (T → List Entry) → (T → ℕ → Mark) → List Library → List Library
  counted_libraries x log begun [] = []
  counted_libraries x log begun (p ∷ ps) = record { number = p.number; first = p.first; begun = begun x p.number; seen = log x } ∷ ps

  -- a view in its turn has seen all entries of the value, which it keeps
  abbrev pub counted_at : T → (T → List Entry) → (T → ℕ → Mark) → View T → Stage T → View T
  counted_at x log begun v (InTurn t y) = view v.first (log x) v.shorter (counted_libraries x log begun v.libraries) (InTurn t x)
  counted_at x log begun v _ = v

  -- the entries of the value that the call was told were counted
  abbrev pub counted : (T → List Entry) → (T → ℕ → Mark) → Option T → At T → Seat T → ℕ → Seat T → Type 0
  counted log begun None st m found m' = Unit {0}
  counted log begun (Some x) st m found m' = m' ≡ (counted_at x log begun m.0 m.0.stage, m.1)
