-- What one turn of a seat does.
use Rattle.std.specs.Prelude.{◌≡◌, List, [], ◌++◌}
use Rattle.trio_rights.specs.declared.rights.LibNo.{LibNo}
use Rattle.trio_desk.specs.Call.{Ask, Told}
use Rattle.trio_nodes.specs.declared.entry.Entry.{Entry}
use Rattle.trio_state.specs.State.{State}
use Rattle.trio_turn.specs.Logs.{made_by}
use Rattle.trio_turn.specs.Marks.{Mark}
use Rattle.trio_turn.specs.Origins.{Origin}
use Rattle.trio_lease.specs.Bundles.{Bundled}
use Rattle.trio_ctl.specs.Belonging.{Belongs}
use Rattle.trio_ctl.specs.Desk.{Happens, entries_told}
use Rattle.trio_shared.specs.Left.{Leaves}

-- what contracts see of a seat: its library, what the controller began from, the entries that it has seen, and the release that its
-- library has begun and not ended
pub record Seated : Type 0 where
  pub lib : LibNo
  pub first : Origin
  pub seen : List Entry
  pub begun : Mark

-- A turn finds the entries that its seat had seen, and then entries of others. It makes its own, and the seat has then seen all. From
-- the state that it finds to the one that it leaves it does just this.
pub record Turned (old : Seated) (own : State → List Entry) (Did : State → State → Type 0) (new : Seated) : Type 0 where
  pub others : List Entry
  pub before : State
  pub after : State
  pub lib : new.lib ≡ old.lib
  pub first : new.first ≡ old.first
  pub not_its_own : made_by old.lib.0 others ≡ []
  pub found : Leaves old.first (old.seen ++ others) before
  pub seen : new.seen ≡ (old.seen ++ others) ++ own before
  pub left : Leaves new.first new.seen after
  pub did : Did before after

-- A call of the seat's library is a turn: it makes the entries that tell of what is asked and what is told, and of nothing else. Busy,
-- a bundle that comes back unjudged and want of memory make none.
abbrev pub Calls : Seated → Ask → Told → Seated → Type 0
Calls old ask told new = Turned old (λ s. entries_told s old.lib ask told) (λ s s'. Happens s old.lib ask told s') new

-- A look is a turn that makes no entry and changes nothing. It tells of the state that it finds.
abbrev pub Looks : Seated → (State → Type 0) → Seated → Type 0
Looks old Told new = Turned old (λ s. []) (λ s s'. (s' ≡ s) × Told s) new

-- A bundle belongs to the seat's library: all in it was given to the library, and is out by what the seat has seen.
pub record BelongsTo (seat : Seated) (b : Bundled) : Type 0 where
  pub state : State
  pub left : Leaves seat.first seat.seen state
  pub belongs : Belongs state seat.lib.0 b
