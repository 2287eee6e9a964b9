-- The words that the proofs of this crate share: of the standard library, of the crates below, and of this crate's own definitions.
pub use Rattle.std.proofs.Common.{◌++◌, ◌+◌, ◌==◌, ◌∙◌, ◌∷◌, ◌≡◌, ◌≤◌, ◌⊎◌, Bool, List, None, Option, Some, [], ap, arith, inl, inr, length, map, refl, subst, sym, ℕ}
pub use Rattle.std.proofs.lemmas.Bool.{eq-eqb}
pub use Rattle.std.proofs.lemmas.List.{append-nil, append_assoc}
pub use Rattle.std.proofs.lemmas.List.Elements.{filter-append}
pub use Rattle.std.specs.Option.{option_to_list}
pub use Rattle.std.specs.Prelude.{if◌then◌else◌, ◌≢◌}
pub use Rattle.trio_ctl.specs.Backs.{AreBack, all_back, back_entries}
pub use Rattle.trio_ctl.specs.Desk.{Happens, answer_of, backs_of, beside_of, entries_told, event_of, handed_back}
pub use Rattle.trio_desk.specs.Call.{Ask, GiveBack, ModeSet, Settled, Told}
pub use Rattle.trio_desk.specs.Calls.{Call}
pub use Rattle.trio_laws.proofs.KnownSteps.{steps_are_known}
pub use Rattle.trio_laws.proofs.Runs.{step_kept}
pub use Rattle.trio_laws.proofs.StateLaws.{does_told}
pub use Rattle.trio_laws.specs.Known.{Known, known, known_after, plain_state}
pub use Rattle.trio_laws.specs.history.Entries.{Beside, bundle_handed, entry_of}
pub use Rattle.trio_laws.specs.history.Replays.{ReplaysFrom, known_from}
pub use Rattle.trio_layout.specs.Image.{row_at}
pub use Rattle.trio_lease.specs.Shown.{Shown}
pub use Rattle.trio_lists.specs.Lists.{In}
pub use Rattle.trio_nodes.specs.declared.answers.ModeFault.{ModeFault}
pub use Rattle.trio_nodes.specs.declared.answers.ModeFault.TheVariants.{BadMode, Busy as BusyMode, NoMemory as NoModeMemory, NotLive as NoFile, NotOwner}
pub use Rattle.trio_nodes.specs.declared.entry.Entry.{Entry}
pub use Rattle.trio_nodes.specs.declared.grant.GrantKind.{GrantKind}
pub use Rattle.trio_rights.specs.Bundle.{Bundle, Written}
pub use Rattle.trio_rights.specs.declared.rights.LibNo.{LibNo}
pub use Rattle.trio_state.specs.Given.{GivenEvent}
pub use Rattle.trio_state.specs.Grants.{given_back}
pub use Rattle.trio_state.specs.Kept.{Kept}
pub use Rattle.trio_state.specs.Run.{Move}
pub use Rattle.trio_state.specs.State.{State, logged}
pub use Rattle.trio_state.specs.Step.{Allot, Back, CtlAnswer, Done, Event, Grant, Outcome, Release, SetMode, Settle, Step, mode_fault, mode_outcome, moded_to}
pub use Rattle.trio_turn.specs.Logs.{made_by, maker}
pub use Rattle.trio_order.specs.Order.{Along, all_parts, moves_of}
