-- The words that the proofs of this crate share: of the standard library, of the crates below, and of this crate's own definitions.
pub use Rattle.std.proofs.Common.{◌++◌, ◌+◌, ◌<◌, ◌∙◌, ◌∷◌, ◌≡◌, Err, IfOk, IfSome, List, None, Ok, Option, Result, Some, [], ap, arith, inl, inr, length, refl, slice_get, subst, suc, sym, zero, ℕ}
pub use Rattle.std.proofs.Crossing.{crosses}
pub use Rattle.trio_case.specs.Cases.{CaseShown}
pub use Rattle.trio_ctl.specs.Ctl.{Controller}
pub use Rattle.trio_desk.specs.Call.{DeskSeen}
pub use Rattle.trio_desk.specs.Out.{LibOut, OutAlike, WasGiven, parcel_of}
pub use Rattle.trio_lists.specs.Lists.{In}
pub use Rattle.trio_nodes.specs.declared.entry.Entry.{Entry}
pub use Rattle.trio_raw.specs.Has.{Has, OnList, nothing}
pub use Rattle.trio_rights.specs.declared.rights.LibNo.{LibNo}
pub use Rattle.trio_shared.specs.Left.{desk_left}
pub use Rattle.trio_shared.specs.Seats.{IsSeatOf, desk, library_of, out, seated}
pub use Rattle.trio_shared.specs.declared.cell.Shared.{Shared}
pub use Rattle.trio_shared.specs.declared.held.Held.{Held}
pub use Rattle.trio_state.specs.State.{State}
pub use Rattle.trio_turn.specs.Origins.{Origin}
pub use Rattle.trio_turn.specs.Seats.{OfEach, first, library, seen}
pub use Rattle.trio_turn.specs.declared.seat.LibSeat.{LibSeat}
pub use Rattle.trio_shared_tests.specs.Seen.{HaveSeen}
pub use Rattle.trio_shared_tests.specs.Sits.{AreAll, IsBack, IsNew, Plays, PlaysOn, SitsOn, WritesOn}
