-- The words that the proofs of this crate share: of the standard library, of the crates below, and of this crate's own definitions.
pub use Rattle.std.proofs.Common.{◌++◌, ◌+◌, ◌-◌, ◌<◌, ◌==◌, ◌∙◌, ◌∷◌, ◌≡◌, ◌≢◌, ◌≤◌, ◌⊎◌, List, None, Option, Some, [], ap, append_assoc, arith, cond, eq-eqb, inl, inr, length, map, ne_eqb, refl, rules, set, slice_get, subst, suc, sym, true, zero, ℕ, ⊎_elim}
pub use Rattle.std.proofs.lemmas.Bool.Decides.{nat_tests}
pub use Rattle.std.proofs.lemmas.List.Elements.{filter-append}
pub use Rattle.atomic_table.proofs.Lists.{at_longer, set_else}
pub use Rattle.atomic_table.specs.Table.{Allows, Final, Me, Seen, State, keeps, rest, step}
pub use Rattle.trio_nodes.specs.declared.entry.Entry.{Entry}
pub use Rattle.trio_turn.specs.Logs.{GrewBy, IsInLine, made_by, maker}
pub use Rattle.trio_turn.specs.Marks.{Mark}
pub use Rattle.trio_turn.specs.Origins.{Origin}
pub use Rattle.trio_turn.specs.Rule.{IfLive, IsPlaced, IsQueued, LibraryAgrees, TicketRule, ViewAgrees, has_ticket, tickets, times, total}
pub use Rattle.trio_turn.specs.Seats.{AllNew, IsNew}
pub use Rattle.trio_turn.specs.Views.{held, own_begun, own_number, view}
pub use Rattle.trio_turn.specs.declared.seat.LibSeat.{LibSeat}
pub use Rattle.trio_turn.specs.declared.view.Library.{Library}
pub use Rattle.trio_turn.specs.declared.view.Stage.{Stage}
pub use Rattle.trio_turn.specs.declared.view.Stage.TheVariants.{Idle, InTurn, Spent, Waiting}
pub use Rattle.trio_turn.specs.declared.view.View.{View}
pub use Rattle.trio_turn.specs.inner.Gathered.{HasEach}
pub use Rattle.trio_turn.specs.inner.Resting.{carries, is_resting}
pub use Rattle.trio_turn.specs.inner.Steps.{DoesNotWait, Learns, LooksAt, ReadAt, copied, counted_at, dealing, left_with, met, seated, staged, unseated}
