-- The words that the proofs of this crate share: of the standard library, of the crates below, and of this crate's own definitions.
pub use Rattle.std.proofs.Common.{◌&&◌, ◌++◌, ◌+◌, ◌<◌, ◌==◌, ◌∙◌, ◌∷◌, ◌≡◌, ◌≤◌, Bool, Err, IfErr, IfOk, IfSome, IsTrue, List, None, Ok, Option, Result, Some, [], ap, append-nil, arith, inl, inr, length, map, refl, slice_get, subst, suc, sym, take, true, ℕ}
pub use Rattle.std.proofs.lemmas.Bool.{cases_Bool, eq-eqb, eqb-true}
pub use Rattle.std.proofs.lemmas.List.Elements.{All-nil, filter-append}
pub use Rattle.std.specs.List.{filter}
pub use Rattle.std.specs.Option.{option_map}
pub use Rattle.std.specs.Prelude.{if◌then◌else◌, ◌≢◌, ⊤}
pub use Rattle.trio_case.specs.Cases.{CaseShown, case_in as case_shown}
pub use Rattle.trio_ctl.proofs.DeskGiven.{given_to, were_held}
pub use Rattle.trio_ctl.specs.Answers.{begin_answer, release_fault_answer, verdict_of}
pub use Rattle.trio_ctl.specs.Backs.{all_back}
pub use Rattle.trio_ctl.specs.Belonging.{Belongs}
pub use Rattle.trio_ctl.specs.Ctl.{Controller, IsIdle, underway_of}
pub use Rattle.trio_ctl.specs.Desk.{desk_of, entries_told, out_of}
pub use Rattle.trio_ctl.specs.HandedIn.{AreMarked}
pub use Rattle.trio_ctl.specs.Logged.{entries_made, with_bundle}
pub use Rattle.trio_ctl.specs.Open.{hold_of, shown_of}
pub use Rattle.trio_ctl.specs.Pending.{case_made}
pub use Rattle.trio_desk.specs.Call.{Ask, DeskSeen, GiveBack, NotJudged, NotLent, NotModeSet, SeenAfter, SetMode, Settle, TellsHolder, Told}
pub use Rattle.trio_desk.specs.Contents.{Sizes}
pub use Rattle.trio_desk.specs.Out.{LibOut, WasGiven, parcel_of}
pub use Rattle.trio_desk.specs.Refusals.{TellsCause}
pub use Rattle.trio_entries.specs.Handed.{handed_in}
pub use Rattle.trio_laws.proofs.OthersOut.{others_keep_out}
pub use Rattle.trio_laws.proofs.Runs.{step_kept}
pub use Rattle.trio_laws.specs.Known.{Known, known, plain_state}
pub use Rattle.trio_laws.specs.history.Entries.{answer_of, entry_of, event_of}
pub use Rattle.trio_laws.specs.history.Replays.{ReplaysFrom}
pub use Rattle.trio_lease.specs.Bundles.{Bundled}
pub use Rattle.trio_lease.specs.Shown.{Shown}
pub use Rattle.trio_lease.specs.Views.{bundle_in}
pub use Rattle.trio_lease.specs.declared.parts.HoldParts.{HoldParts}
pub use Rattle.trio_lists.proofs.Members.{In-map}
pub use Rattle.trio_lists.specs.Lists.{In}
pub use Rattle.trio_nodes.specs.GrantKinds.{is_hold, is_write}
pub use Rattle.trio_nodes.specs.Handed.{Handed}
pub use Rattle.trio_nodes.specs.declared.answers.GrantFault.{GrantFault}
pub use Rattle.trio_nodes.specs.declared.answers.GrantFault.TheVariants.{Busy, NoParent, NotLive}
pub use Rattle.trio_nodes.specs.declared.answers.ModeFault.{ModeFault}
pub use Rattle.trio_nodes.specs.declared.answers.ModeFault.TheVariants.{BadMode, Busy as BusyMode, NotOwner}
pub use Rattle.trio_nodes.specs.declared.answers.ReleaseAnswer.{ReleaseAnswer}
pub use Rattle.trio_nodes.specs.declared.answers.ReleaseFault.{ReleaseFault}
pub use Rattle.trio_nodes.specs.declared.entry.Entry.{Entry}
pub use Rattle.trio_nodes.specs.declared.entry.Entry.TheVariants.{Allot, Back, Batch, Grant, Mode, Raw}
pub use Rattle.trio_nodes.specs.declared.grant.GrantKind.{GrantKind}
pub use Rattle.trio_rights.specs.Bundle.{Bundle}
pub use Rattle.trio_rights.specs.declared.rights.Creds.{Creds}
pub use Rattle.trio_rights.specs.declared.rights.LibNo.{LibNo}
pub use Rattle.trio_state.specs.Kept.{Kept}
pub use Rattle.trio_state.specs.Moves.{Acts, Answered, Begin, End, IsAwaited, Outline, begun_by, outline_of}
pub use Rattle.trio_state.specs.State.{IsLibrary, OpenGrant, State, creds_of}
pub use Rattle.trio_state.specs.Step.{CtlAnswer, Event, Parted, Release, Step}
pub use Rattle.trio_turn.specs.Logs.{made_by, maker}
pub use Rattle.trio_turn.specs.Marks.{Mark}
pub use Rattle.trio_turn.specs.Origins.{Origin}
pub use Rattle.trio_turn.specs.Seats.{library}
pub use Rattle.trio_shared.specs.Begun.{mark_of, marked}
pub use Rattle.trio_shared.specs.Left.{Leaves, desk_left, origin_of, out_left, started}
pub use Rattle.trio_shared.specs.Moves.{Ends, IsNotAwaited, IsReturned, IsStillSo, TellsBeginning, TellsWhetherClosed, mark_at}
pub use Rattle.trio_shared.specs.Seats.{library_of, seated}
pub use Rattle.trio_shared.specs.Standing.{TellsHolding}
pub use Rattle.trio_shared.specs.Turns.{Calls, Looks, Seated}
pub use Rattle.trio_shared.specs.inner.Found.{EndsHere, Found, Grows, Same}
pub use Rattle.trio_shared.specs.inner.Underway.{HasBegun, MarksStand, SeesMore, Waits}
