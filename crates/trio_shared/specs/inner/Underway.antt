-- A seat between the two turns of a release.
use Rattle.std.specs.Prelude.{◌≡◌, List, [], None, ◌++◌}
use Rattle.trio_nodes.specs.Handed.{Handed}
use Rattle.trio_nodes.specs.declared.entry.Entry.{Entry}
use Rattle.trio_lease.specs.Views.{bundle_in}
use Rattle.trio_desk.specs.Out.{WasGiven, parcel_of}
use Rattle.trio_case.specs.Cases.{CaseShown}
use Rattle.trio_state.specs.Bundles.{parted_hold}
use Rattle.trio_state.specs.State.{State}
use Rattle.trio_ctl.specs.Desk.{out_of}
use Rattle.trio_ctl.specs.HandedIn.{AreMarked}
use Rattle.trio_ctl.specs.Pending.{case_made}
use Rattle.trio_turn.specs.Logs.{made_by}
use Rattle.trio_shared.specs.Left.{Leaves, desk_left}
use Rattle.trio_shared.specs.Moves.{mark_at}
use Rattle.trio_shared.specs.Turns.{Seated}

-- The seat's library has begun a release of this case and not ended it. In a state that the entries leave that the seat has seen, the bundle was given to the
-- library and is closed, and the case is made of it.
pub record HasBegun (seat : Seated) (k : CaseShown) : Type 0 where
  pub state : State
  pub left : Leaves seat.first seat.seen state
  pub given : WasGiven (out_of state seat.lib) (parcel_of k.bundle)
  pub closed : parted_hold state seat.lib.0 (bundle_in k.bundle) ≡ None
  pub made : k ≡ case_made state seat.lib k.bundle
  pub mark : seat.begun ≡ mark_at seat k.bundle

-- each block that is handed in so without a mark has the bytes that were lent, by what the seat has seen
pub record MarksStand (seat : Seated) (h : Handed) : Type 0 where
  pub state : State
  pub left : Leaves seat.first seat.seen state
  pub marked : AreMarked state seat.lib.0 h

-- the seat has seen further entries, all of them of others
pub record SeesMore (old new : Seated) : Type 0 where
  pub others : List Entry
  pub lib : new.lib ≡ old.lib
  pub first : new.first ≡ old.first
  pub not_its_own : made_by old.lib.0 others ≡ []
  pub seen : new.seen ≡ old.seen ++ others

-- beside it, what its library has begun and what is seen of its desk stand
pub record Waits (old new : Seated) : Type 0 where
  pub more : SeesMore old new
  pub begun : new.begun ≡ old.begun
  pub desk : desk_left new.first new.seen new.lib ≡ desk_left old.first old.seen old.lib
