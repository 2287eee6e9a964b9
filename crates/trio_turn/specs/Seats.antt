-- What contracts see of a cell and of its seats.
use Rattle.std.specs.Prelude.{◌≡◌, ℕ, ◌+◌, ◌≤◌, List, [], Option, Some, None, slice_get}
use Rattle.atomic_table.specs.Seated.{TableId}
use Rattle.trio_nodes.specs.declared.entry.Entry.{Entry}
use Rattle.trio_turn.specs.Origins.{Origin}
use Rattle.trio_turn.specs.declared.seat.LibSeat.{LibSeat}
use Rattle.trio_turn.specs.declared.cell.Turn.{Turn}
use Rattle.trio_turn.specs.Logs.{made_by}
use Rattle.trio_turn.specs.Marks.{Mark}
use Rattle.trio_turn.specs.Views.{held, own_number, own_begun}

module _ {T : Type 0} where
  -- which cell it is
  abbrev pub cell : Turn T → TableId
  cell t = t.table.shared.table_id

  -- how many libraries have a seat at the cell
  abbrev pub library_count : Turn T → ℕ
  library_count t = t.table.shared.key.libraries

  -- the value that it started with
  abbrev pub first_value : Turn T → T
  first_value t = t.table.shared.key.value.value

  -- which cell the seat is of
  abbrev pub cell_of : LibSeat T → TableId
  cell_of s = s.token.table_id

  -- the number of the seat's library, counted from 1
  abbrev pub library : LibSeat T → ℕ
  library s = own_number s.token.me.0.libraries

  -- what the cell's value began from
  abbrev pub first : LibSeat T → Origin
  first s = s.token.me.0.first

  -- the entries that the seat has seen
  abbrev pub seen : LibSeat T → List Entry
  seen s = s.token.me.0.seen

  -- those of its own library
  abbrev pub mine : LibSeat T → List Entry
  mine s = made_by (library s) (seen s)

  -- what its library has begun
  abbrev pub begun : LibSeat T → Mark
  begun s = own_begun s.token.me.0.libraries

  -- the value that it took and has not given back
  abbrev pub has : LibSeat T → Option T
  has s = held s.token.me.0.stage

  -- the same library of the same cell, whose value began from the same
  abbrev pub IsSameSeat : LibSeat T → LibSeat T → Type 0
  IsSameSeat s t = (cell_of t ≡ cell_of s) × (library t ≡ library s) × (first t ≡ first s)

  -- a seat as it is at the start: of the library l of a cell
  pub record IsNew (cell : TableId) (origin : Origin) (mark : Mark) (l : ℕ) (s : LibSeat T) : Type 0 where
    pub cell_is : cell_of s ≡ cell
    pub library_is : library s ≡ l
    pub first_is : first s ≡ origin
    pub seen_is : seen s ≡ []
    pub begun_is : begun s ≡ mark
    pub has_is : has s ≡ None

-- it holds of each of these seats
abbrev pub OfEach : {T : Type 0} → (LibSeat T → Type 0) → List (LibSeat T) → Type 0
OfEach {T} P seats = (k : ℕ) (s : LibSeat T) → slice_get seats k ≡ Some s → P s

-- seats as they are at the start, of library 1, library 2, and so on
abbrev pub AllNew : {T : Type 0} → TableId → Origin → (ℕ → Mark) → List (LibSeat T) → Type 0
AllNew {T} cell origin marks seats = (k : ℕ) (s : LibSeat T) → slice_get seats k ≡ Some s → IsNew cell origin (marks (k + 1)) (k + 1) s

-- of each of so many libraries there is a seat
abbrev pub EverySeat : {T : Type 0} → ℕ → List (LibSeat T) → Type 0
EverySeat {T} count seats = (l : ℕ) → 1 ≤ l → l ≤ count → (k : ℕ) × (s : LibSeat T) × (slice_get seats k ≡ Some s) × (library s ≡ l)
