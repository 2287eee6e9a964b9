-- The words that the proofs of this crate share: of the standard library, of the crates below, and of this crate's own definitions.
pub use Rattle.std.proofs.Common.{◌&&◌, ◌++◌, ◌+◌, ◌-◌, ◌<◌, ◌==◌, ◌∙◌, ◌∷◌, ◌≡◌, ◌≢◌, ◌≤◌, ◌⊎◌, Bool, Err, IfOk, List, None, Ok, Option, Result, Some, [], ap, arith, cond, drop, eqb, false, get_or, inl, inr, le-leb, leb, leb-true, length, ltb, map, max, not, refl, set, subst, suc, sym, take, take-suc, true, zero, ℕ}
pub use Rattle.std.proofs.Crossing.{crosses}
pub use Rattle.std.proofs.Math.Seq.{map-set_same}
pub use Rattle.std.proofs.lemmas.Bool.{and_parts, both_ways, cases_Bool, cases_lt, eq-eqb, eqb-true, false≢true, ne_eqb, not-true}
pub use Rattle.std.proofs.lemmas.Grind.{flat_map-append}
pub use Rattle.std.proofs.lemmas.List.{append-nil, append_assoc, length-append, length-map, length-set, map-append, take_all}
pub use Rattle.std.proofs.lemmas.List.Elements.{filter-append}
pub use Rattle.std.proofs.lemmas.Option.{get_or_from_slice_get, slice_get-get_or, slice_get_within}
pub use Rattle.std.specs.List.{AllByRecursion, filter, flat_map}
pub use Rattle.std.specs.Option.{IsSomeAnd, option_map}
pub use Rattle.std.specs.Prelude.{if◌then◌else◌, IfSome, MatchBool, MatchOption, is_some, nat_lt, slice_get, ⊤}
pub use Rattle.trio_calls_dir.specs.Asks.{ComesBy, DirTried, EntryCalled, Target, wants_of}
pub use Rattle.trio_calls_dir.specs.Chmods.{Begun, BreaksOff, ChmodCalled, ChmodTried, Comes, EndsAs, EndsBroken, EndsHandedIn, EndsModed, HandsIn, LeavesBy, SetsMode, TriedSo, Unbegun, hand_in_ask, lent_to, mode_ask}
pub use Rattle.trio_calls_file.specs.Asks.{FileCalled, FileTried}
pub use Rattle.trio_ctl.proofs.DeskOuts.{numbers_to-In}
pub use Rattle.trio_ctl.proofs.DeskSteps.{IsPlain, happens_creds, others_see, plain_step}
pub use Rattle.trio_ctl.proofs.Told.{step_told}
pub use Rattle.trio_ctl.proofs.Underways.{none_still}
pub use Rattle.trio_ctl.specs.Backs.{AreBack, all_back, back_entries}
pub use Rattle.trio_ctl.specs.Ctl.{AreAsTold, Controller, IsLibrary}
pub use Rattle.trio_ctl.specs.Desk.{Happens, LeaseIs, LogsCall, answer_of, backs_of, beside_of, bundled_of, desk_of, entries_told, event_of, grants_of, handed_back, out_of}
pub use Rattle.trio_ctl.specs.Logged.{with_calls}
pub use Rattle.trio_ctl.specs.Open.{lent_by}
pub use Rattle.trio_desk.specs.Call.{Allot, Ask, DeskSeen, Done, GiveBack, Given, Grant, Judged, Lent, ModeSet, NotGiven, NotJudged, NotLent, NotModeSet, NotSettled, Release, SeenAfter, SetMode, Settle, Settled, Settled as SettledAll, Told, out_after}
pub use Rattle.trio_desk.specs.Calls.{Call, Calls}
pub use Rattle.trio_desk.specs.Out.{IsClosed, LibOut, OutAlike, Parcel, file_numbers, ino_numbers, new_ino, nothing_out as no_lib_out}
pub use Rattle.trio_desk.specs.Ready.{ArePossible, bundle_of, lent_files}
pub use Rattle.trio_edit_laws.proofs.Called.{begins_to_call, may_be_settled}
pub use Rattle.trio_edit_laws.specs.Calls.{MayCall}
pub use Rattle.trio_laws.proofs.KnownSteps.{known_decides, same_event_same_answer}
pub use Rattle.trio_laws.proofs.Runs.{step_kept}
pub use Rattle.trio_laws.proofs.history.Grows.{step_creds, step_whole}
pub use Rattle.trio_laws.proofs.session.Lent.{step_keeps_lent}
pub use Rattle.trio_laws.specs.Known.{Known, SameAnswer, known, plain_state}
pub use Rattle.trio_laws.specs.OutLaws.{numbers_to}
pub use Rattle.trio_laws.specs.history.Recorded.{LentWhole}
pub use Rattle.trio_laws.specs.history.Replays.{ReplaysFrom}
pub use Rattle.trio_laws.specs.history.Stands.{nodes_of}
pub use Rattle.trio_laws.specs.session.Lent.{LentIsTrue}
pub use Rattle.trio_layout.specs.Image.{Image, IsFit, row_at}
pub use Rattle.trio_layout.specs.Verifies.{Verifies}
pub use Rattle.trio_lease.specs.Shown.{LentFile, Shown}
pub use Rattle.trio_lease.specs.declared.lease.Lease.{Lease}
pub use Rattle.trio_lease.specs.declared.lease.Lease.TheVariants.{Hold as HoldLent, Read as ReadLent, Write as WriteLent}
pub use Rattle.trio_lease.specs.declared.parts.HoldParts.{HoldParts}
pub use Rattle.trio_lease.specs.declared.parts.InoParts.{InoParts}
pub use Rattle.trio_lists.proofs.Filters.{In-filter, filter-In, filter-none, find-In}
pub use Rattle.trio_lists.proofs.Members.{In-cases, In-left, In-map, In-right, map-In}
pub use Rattle.trio_lists.specs.Lists.{In, tabulated}
pub use Rattle.trio_names.specs.Path.{parts_bytes}
pub use Rattle.trio_nodes.specs.After.{batch_nodes, call_nodes, lacks_room}
pub use Rattle.trio_nodes.specs.Apply.{Applied, Apply, applied, done, is_done, make, new_node, refused}
pub use Rattle.trio_nodes.specs.GrantKinds.{is_hold, is_read, is_write}
pub use Rattle.trio_nodes.specs.Legal.{LegalCalls}
pub use Rattle.trio_nodes.specs.Libraries.{creds_in as creds_listed}
pub use Rattle.trio_nodes.specs.Nodes.{Nodes, find_named, with_node}
pub use Rattle.trio_nodes.specs.Walk.{Path, dir_of, is_root, name_of}
pub use Rattle.trio_nodes.specs.declared.answers.AllotFault.TheVariants.{NoInodes, NoInodes as NoFreeInodes, NoMemory as NoAllotMemory, NoPages, NoPages as NoFreePages}
pub use Rattle.trio_nodes.specs.declared.answers.GrantFault.{GrantFault}
pub use Rattle.trio_nodes.specs.declared.answers.GrantFault.TheVariants.{Busy as BusyGrant, Denied, NoMemory as NoGrantMemory, NoParent, NotLive}
pub use Rattle.trio_nodes.specs.declared.answers.ModeFault.{ModeFault}
pub use Rattle.trio_nodes.specs.declared.answers.ModeFault.TheVariants.{BadMode, Busy as BusyMode, NoMemory as NoModeMemory, NotOwner}
pub use Rattle.trio_nodes.specs.declared.answers.ReleaseAnswer.{ReleaseAnswer}
pub use Rattle.trio_nodes.specs.declared.answers.ReleaseAnswer.TheVariants.{Accepted as AcceptedParcel, Refused as RefusedParcel}
pub use Rattle.trio_nodes.specs.declared.answers.ReleaseFault.TheVariants.{NoMemory as NoReleaseMemory, NotClosed as NotClosedParcel}
pub use Rattle.trio_nodes.specs.declared.call.Answer.TheVariants.{Done as IsDone}
pub use Rattle.trio_nodes.specs.declared.call.Call.TheVariants.{Chmod, Create, List as ListNames, Mkdir, Rename, Rmdir, Stat, Truncate, Unlink}
pub use Rattle.trio_nodes.specs.declared.call.Reply.{Reply}
pub use Rattle.trio_nodes.specs.declared.call.Reply.TheVariants.{Ok as IsReplied}
pub use Rattle.trio_nodes.specs.declared.entry.Entry.{Entry}
pub use Rattle.trio_nodes.specs.declared.entry.Entry.TheVariants.{Back, Batch}
pub use Rattle.trio_nodes.specs.declared.grant.GrantKind.{GrantKind}
pub use Rattle.trio_nodes.specs.declared.grant.GrantKind.TheVariants.{Hold, Read, Write}
pub use Rattle.trio_nodes.specs.declared.grant.Holder.{Holder}
pub use Rattle.trio_order.proofs.Courses.{whose}
pub use Rattle.trio_order.specs.Order.{Happening, all_parts, calls_by, parts_of}
pub use Rattle.trio_order.specs.OrderLaws.{OneOrder}
pub use Rattle.trio_raw.specs.Asked.{back_calls, children_in, release_call}
pub use Rattle.trio_raw.specs.Has.{Has, OnList, has_all_of, has_nothing, nothing, parcel_named, poked, read_on, whole_parcel, with_reads, without_read}
pub use Rattle.trio_report.specs.declared.answer.LineAnswer.{LineAnswer}
pub use Rattle.trio_report.specs.declared.report.EndAnswer.{EndAnswer}
pub use Rattle.trio_report.specs.declared.report.EndAnswer.TheVariants.{Settled as EndSettled}
pub use Rattle.trio_rights.specs.Bundle.{Bundle}
pub use Rattle.trio_rights.specs.Row.{Row}
pub use Rattle.trio_rights.specs.declared.kind.Kind.{Kind}
pub use Rattle.trio_rights.specs.declared.kind.Kind.TheVariants.{Directory, Link, Regular}
pub use Rattle.trio_rights.specs.declared.rights.Creds.{Creds}
pub use Rattle.trio_rights.specs.declared.rights.LibNo.{LibNo}
pub use Rattle.trio_rights.specs.declared.rights.Mode.{Mode}
pub use Rattle.trio_script.specs.Within.{LinesWithin}
pub use Rattle.trio_script.specs.declared.Lines.{Lines}
pub use Rattle.trio_script.specs.declared.Lines.TheVariants.{Honest, Honest as HonestLines, Raw, Raw as RawLines}
pub use Rattle.trio_script.specs.declared.ScriptLib.{ScriptLib}
pub use Rattle.trio_script.specs.declared.ScriptLine.{ScriptLine}
pub use Rattle.trio_script.specs.declared.honest.HonestLine.{HonestLine}
pub use Rattle.trio_script.specs.declared.honest.HonestLine.TheVariants.{Call as CallLine, Settle as SettleLine}
pub use Rattle.trio_script.specs.declared.line.RawLine.{RawLine}
pub use Rattle.trio_script.specs.declared.line.RawLine.TheVariants.{Allot as AllotLine, Back as BackLine, Grant as GrantLine, Mode as ModeLine, Peek, Poke, Release as ReleaseLine}
pub use Rattle.trio_session.proofs.Alike.{alike_back, took_alike, took_more}
pub use Rattle.trio_session.specs.Asked.{IsAlike, IsGiven, took, with_allotted, with_lease}
pub use Rattle.trio_session.specs.Deeds.{as_lent, new_body, new_number, with_slot}
pub use Rattle.trio_session.specs.Seen.{SessionSeen, emptied}
pub use Rattle.trio_shared.proofs.Sends.{seat_sends}
pub use Rattle.trio_shared.specs.Laws.{DeskIsLeft, OthersLeave}
pub use Rattle.trio_shared.specs.Left.{Leaves, desk_left, started}
pub use Rattle.trio_shared.specs.Seats.{IsSeatOf, desk, library_of, seated}
pub use Rattle.trio_shared.specs.Turns.{Seated}
pub use Rattle.trio_shared.specs.declared.cell.Shared.{Shared}
pub use Rattle.trio_shared.specs.declared.held.Held.{Held}
pub use Rattle.trio_state.specs.Allotments.{allots, free_numbers, free_pages}
pub use Rattle.trio_state.specs.Bundles.{grants_after, is_in_bundle, lent_part}
pub use Rattle.trio_state.specs.Given.{GivenEvent}
pub use Rattle.trio_state.specs.Grants.{given_back, grant_fault, opened}
pub use Rattle.trio_state.specs.Kept.{Kept}
pub use Rattle.trio_state.specs.Run.{IsWhole, Move, Trace, start}
pub use Rattle.trio_state.specs.State.{OpenGrant, State, creds_of, logged}
pub use Rattle.trio_state.specs.Step.{CtlAnswer, Event, IsAccepted, IsRefused, Parted, Step, granted_to, mode_fault, moded_to}
pub use Rattle.trio_turn.specs.Logs.{made_by, maker}
pub use Rattle.trio_turn.specs.Origins.{Origin}
pub use Rattle.trio_turn.specs.Seats.{begun, first, library, seen}
pub use Rattle.trio_turn.specs.declared.seat.LibSeat.{LibSeat}
pub use Rattle.trio_walk.specs.Asks.{Again, AskedBy, Called, GivesUp, IsNotBusy, LeftOut, Once, Settles, Tried, TryEnds, Unsettled, grant_ask, noted}
pub use Rattle.trio_walk.specs.Needs.{asked, dir_needs}
pub use Rattle.trio_walk.specs.Walks.{served_by, shows_root}
pub use Rattle.trio_walk.specs.declared.outcome.Outcome.{Outcome}
pub use Rattle.trio_walk.specs.declared.outcome.Outcome.TheVariants.{Busy, NoMemory, Replied}
pub use Rattle.trio_runner.specs.Courses.{CourseGoes, Goes, Going, LibRan, Place, TurnGoes, arrives, sees_at}
pub use Rattle.trio_runner.specs.Honest.{HonestComes, Noted, Notes, SessionCalled, is_dir_call, sees, told_outcome, unnoted}
pub use Rattle.trio_runner.specs.Kinds.{Suits}
pub use Rattle.trio_runner.specs.Line.{Alone, Asks, EndComes, EndsAll, EndsAlone, LineComes, ask_of, end_of, has_after, told_grant, told_of}
pub use Rattle.trio_runner.specs.Logged.{AreEntries, IsBack, LineMakes, Prints, call_told, calls_in, entries_by}
pub use Rattle.trio_runner.specs.Moves.{AreMoves, apart, back_call, entries_of}
pub use Rattle.trio_runner.specs.Play.{AtStart, BeginsWith, Heard, InSession, IsLibraryOf, Players, Plays, Share, TakesTurn, Things, TurnComes, creds_in, heard_by, new_session, share_of, told_to, untold, with_answer, with_end}
pub use Rattle.trio_runner.specs.PlayLaws.{NothingOut}
pub use Rattle.trio_runner.specs.Players.{Answer, Ended, GoesOn, HasClosed, Said, TurnMade, TurnTaken, with_told}
pub use Rattle.trio_runner.specs.Rounds.{Ends, Placed, Says, SaysHonest, Turn, course, courses_from, in_rounds, line_turns, longest, placed, round_of, turn_list, turns_of}
pub use Rattle.trio_runner.specs.Runs.{IsSeenIn, ScriptRan, origin_in}
pub use Rattle.trio_runner.specs.declared.threads.LibRun.{LibRun}
pub use Rattle.trio_runner.specs.inner.Ready.{AreNew, AreSeated, HasAll, HoldsAll, IsHeld, Took, TookNext, TookTurn, table}
pub use Rattle.trio_runner.specs.inner.Threads.{Arrives, MayGoOn, RanAll, Went, WentThrough, place_at}
