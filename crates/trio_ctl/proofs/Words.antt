-- The words that the proofs of this crate share: of the standard library, of the crates below, and of this crate's own definitions.
pub use Rattle.std.proofs.Common.{◌&&◌, ◌*◌, ◌++◌, ◌+◌, ◌-◌, ◌<◌, ◌==◌, ◌||◌, ◌↔◌, ◌∙◌, ◌∷◌, ◌≡◌, ◌≢◌, ◌≤◌, ◌⊎◌, Bool, Err, IfOk, IsTrue, List, None, Ok, Option, Result, Some, [], ap, append-nil, append_assoc, arith, cond, drop, false, get_or, inl, inr, is_some, leb, length, length-append, ltb, map, not, refl, reverse, rules, set, subst, suc, sym, take, true, zero, ℕ}
pub use Rattle.std.proofs.Math.Nat.{min-le_left, min-le_right}
pub use Rattle.std.proofs.lemmas.Bool.{and_from, and_parts, both_ways, cases_Bool, cases_eq, cases_lt, eq-eqb, eqb-false, eqb-true, false_from_ne_true, false≢true, le-leb, le-ltb, leb-true, lt-ltb, ltb-false, ltb-true, ne_eqb, not-true, not_from_false}
pub use Rattle.std.proofs.lemmas.List.{get_or-set_other, get_or-set_same, length-map, length-replicate, length-set, map-append, take-append-drop}
pub use Rattle.std.proofs.lemmas.List.Elements.{All-push}
pub use Rattle.std.proofs.lemmas.List.Sums.{sum_by-cons}
pub use Rattle.std.proofs.lemmas.Option.{slice_get-get_or, slice_get_read}
pub use Rattle.std.proofs.lemmas.Simd.{map-map}
pub use Rattle.std.proofs.lemmas.Slice.Eq.{bytes_eq-Decides}
pub use Rattle.std.specs.List.{All, filter, filter_map, find, flat_map, list_all, list_any, position}
pub use Rattle.std.specs.Option.{IsSomeAnd, option_and_then, option_map, option_map_or}
pub use Rattle.std.specs.Prelude.{if◌then◌else◌, OnErr, nat_le, nat_lt, replicate, slice_get, slice_index, slice_index_or, slice_set, vec_capacity, vec_len}
pub use Rattle.std.specs.Result.{IsOk}
pub use Rattle.std.specs.Str.{bytes_eq}
pub use Rattle.trio_allot.specs.Out.{OutByNumber, fresh_number, fresh_page, nothing_out, outs_after}
pub use Rattle.trio_case.specs.Cases.{CaseShown, case_in as case_shown}
pub use Rattle.trio_case.specs.declared.size.BundleSize.{BundleSize}
pub use Rattle.trio_checkpoint.specs.Covered.{Checkpointed, chain_in, core_of, covered_pages}
pub use Rattle.trio_commit.proofs.PutBack.{checkpoint_at-others}
pub use Rattle.trio_commit.specs.Bodies.{child_of, kept_body, kept_children, page_changes, placed_files, with_children}
pub use Rattle.trio_commit.specs.Commits.{Commits}
pub use Rattle.trio_commit.specs.Handed.{AreOutTo, written_covered, written_numbers}
pub use Rattle.trio_commit.specs.Store.{checkpoint_at, covered_at, state_of, with_checkpoint}
pub use Rattle.trio_commit.specs.declared.store.Store.{Store}
pub use Rattle.trio_desk.specs.Call.{Ask, GiveBack, ModeSet, NotJudged, NotModeSet, NotSettled, SeenAfter, SetMode, Settle as SettleAsked, Settled as IsSettled, lease_told, mode_told, release_told, settle_told}
pub use Rattle.trio_desk.specs.Contents.{Sizes}
pub use Rattle.trio_desk.specs.Out.{AreRising, AreWhole, IsFreshLease, IsWellLent, LibOut, OutAlike, Parcel, file_numbers, files_out, hold_numbers, ino_numbers, lent_numbers, numbers_of_file, page_numbers, pages_out, parcel_of, with_lease, without_reads}
pub use Rattle.trio_desk.specs.Ready.{AreLent, Ready, TellsChmod, bundle_of}
pub use Rattle.trio_entries.specs.Handed.{block_in, file_in, file_pages, fresh_in, handed_in, index_in}
pub use Rattle.trio_entries.specs.Telling.{whole_case}
pub use Rattle.trio_entries.specs.declared.telling.Told.{Told}
pub use Rattle.trio_grants.specs.Grants.{AllBelow, HasKey, Keyed, first_with, grant_under, holder, without}
pub use Rattle.trio_grants.specs.declared.grant.Grant.{Grant as TableGrant}
pub use Rattle.trio_image.specs.Image.{ImagePages, IsVerified, is_whole_page}
pub use Rattle.trio_judge.specs.declared.verdict.Verdict.{Verdict}
pub use Rattle.trio_laws.proofs.Bundles.{Unwritten, closed_unparted, in_numbers, written_same}
pub use Rattle.trio_laws.proofs.Cases.{after_allot, after_no_grant, after_no_mode}
pub use Rattle.trio_laws.proofs.Checkpoints.{checkpoint_settled}
pub use Rattle.trio_laws.proofs.EndLaws.{body_stands, lendable_is_home}
pub use Rattle.trio_laws.proofs.Grants.{logged_kept}
pub use Rattle.trio_laws.proofs.OthersOut.{others_keep_out}
pub use Rattle.trio_laws.proofs.Runs.{step_kept}
pub use Rattle.trio_laws.proofs.Standing.{has_parent}
pub use Rattle.trio_laws.proofs.StateFacts.{lent_file, lent_met, live_met, tables, tables as tables_of, write_alone, write_is}
pub use Rattle.trio_laws.proofs.acts.Underways.{acts_keep, some_apart}
pub use Rattle.trio_laws.proofs.history.Facts.{node_is}
pub use Rattle.trio_laws.proofs.history.Grows.{step_creds}
pub use Rattle.trio_laws.proofs.history.Listing.{met_at}
pub use Rattle.trio_laws.proofs.history.StandsTree.{states_are_trees}
pub use Rattle.trio_laws.proofs.judgement.CaseFacts.{new_not_live, row_of_met, written_find, written_row}
pub use Rattle.trio_laws.proofs.judgement.Equivalence.{rules_are_accept}
pub use Rattle.trio_laws.proofs.judgement.JudgedFacts.{judged_from, new_from, written_ino, written_judged}
pub use Rattle.trio_laws.proofs.judgement.ListingFacts.{has_file_at, has_file_by, listed_from}
pub use Rattle.trio_laws.proofs.judgement.Meeting.{entry_met}
pub use Rattle.trio_laws.proofs.judgement.Taking.{judged_met, reads}
pub use Rattle.trio_laws.proofs.session.Lent.{leases_stay_true, step_keeps_lent, step_keeps_root}
pub use Rattle.trio_laws.proofs.session.Rows.{rows_say}
pub use Rattle.trio_laws.specs.EndLaws.{checkpoints_of}
pub use Rattle.trio_laws.specs.Laws.{library_of}
pub use Rattle.trio_laws.specs.OutLaws.{HasOut, numbers_to, without_checkpoint}
pub use Rattle.trio_laws.specs.RuleLaws.{IsJudgeable}
pub use Rattle.trio_laws.specs.history.Recorded.{IsRecorded, LentWhole}
pub use Rattle.trio_laws.specs.history.Replays.{IsLibrary}
pub use Rattle.trio_laws.specs.history.Stands.{node_by, nodes_of, writer_of}
pub use Rattle.trio_laws.specs.history.ToldLaws.{notes_of}
pub use Rattle.trio_laws.specs.session.Lent.{AreLentTo, IsLentTo, LentIsTrue, root_of, sizes_of}
pub use Rattle.trio_layout.proofs.Superblocks.{superblock_facts}
pub use Rattle.trio_layout.specs.Accept.{is_accepted, next, with_bodies, with_body_in}
pub use Rattle.trio_layout.specs.Allowed.{has_kind}
pub use Rattle.trio_layout.specs.Body.{body_of, guard_in}
pub use Rattle.trio_layout.specs.Case.{Case}
pub use Rattle.trio_layout.specs.Chain.{Chain, chain_of}
pub use Rattle.trio_layout.specs.Copied.{with_copied}
pub use Rattle.trio_layout.specs.Core.{Core, Location, at_page, page_of}
pub use Rattle.trio_layout.specs.Edges.{has_file}
pub use Rattle.trio_layout.specs.Entries.{Listed, body_in_slot, entries_of, entries_of_kind, entries_on, page_entries, slot_bytes}
pub use Rattle.trio_layout.specs.Image.{Image, IsFit, body_by_row, row_at, settled_body, with_core_pages}
pub use Rattle.trio_layout.specs.JudgedFiles.{judged_files, written_at, written_met}
pub use Rattle.trio_layout.specs.Listing.{ListedEntry, ListedFile, Listing, entry_listed, file_listed, listing}
pub use Rattle.trio_layout.specs.Mode.{image_with_mode, row_with_mode}
pub use Rattle.trio_layout.specs.Pages.{block_sheets, index_sheets, settled_chain, sheets_of}
pub use Rattle.trio_layout.specs.Proposed.{proposed, proposed_pick}
pub use Rattle.trio_layout.specs.Range.{core_count, is_core}
pub use Rattle.trio_layout.specs.Rules.{meets_rules}
pub use Rattle.trio_layout.specs.Slot.{slot_of}
pub use Rattle.trio_layout.specs.Sound.{is_sound}
pub use Rattle.trio_layout.specs.Superblock.{page_count, superblock_fits}
pub use Rattle.trio_layout.specs.Survey.{FileRead, Met, Pick, children, children_in, file_of, met_in, owner_of, pages_of, plain, row_of, survey}
pub use Rattle.trio_layout.specs.Verifies.{Verifies}
pub use Rattle.trio_layout.specs.declared.range.CoreRange.{CoreRange}
pub use Rattle.trio_layout.specs.declared.superblock.Superblock.{Superblock}
pub use Rattle.trio_lease.specs.Bundles.{Bundled}
pub use Rattle.trio_lease.specs.Shown.{KeepsUntouched, LentFile, Shown}
pub use Rattle.trio_lease.specs.Views.{bundle_in, fresh_sheet, lent_sheet, written_in}
pub use Rattle.trio_lease.specs.declared.fresh.Allotted.{Allotted}
pub use Rattle.trio_lease.specs.declared.lease.Lease.{Lease}
pub use Rattle.trio_lease.specs.declared.lease.Lease.TheVariants.{Read as ReadLent, Write as WriteLent}
pub use Rattle.trio_lease.specs.declared.parts.FreshParts.{FreshParts}
pub use Rattle.trio_lease.specs.declared.parts.HoldParts.{HoldParts}
pub use Rattle.trio_lease.specs.declared.parts.InoParts.{InoParts}
pub use Rattle.trio_lease.specs.declared.parts.LentPage.{LentPage}
pub use Rattle.trio_lists.proofs.Counting.{count_from}
pub use Rattle.trio_lists.proofs.Filters.{In-filter, In-find, In-list_any, Ok-one, filter-In, filter-map, find-In, list_any-In, some_one}
pub use Rattle.trio_lists.proofs.Gathered.{new_beside}
pub use Rattle.trio_lists.proofs.Marked.{are_new-append}
pub use Rattle.trio_lists.proofs.Members.{In-cases, In-flat, In-is_among, In-left, In-map, In-right, flat_map-In, is_among-In, list_all-In, list_all-each, map-In, result_then-Ok}
pub use Rattle.trio_lists.proofs.New.{are_new-first, is_among-not}
pub use Rattle.trio_lists.proofs.Tabulated.{tabulated-get, tabulated-length}
pub use Rattle.trio_lists.specs.Lists.{In, are_new, gathered, is_among, result_then, there_or}
pub use Rattle.trio_lists.specs.Marked.{all_below}
pub use Rattle.trio_log.specs.Logged.{Logged}
pub use Rattle.trio_nodes.specs.GrantKinds.{excludes_kind, is_hold, is_read, is_write}
pub use Rattle.trio_nodes.specs.Handed.{Handed, HandedFile, head_of}
pub use Rattle.trio_nodes.specs.Libraries.{creds_in}
pub use Rattle.trio_nodes.specs.Nodes.{Nodes}
pub use Rattle.trio_nodes.specs.declared.answers.AllotFault.{AllotFault}
pub use Rattle.trio_nodes.specs.declared.answers.AllotFault.TheVariants.{NoInodes as NoFreeInodes, NoPages as NoFreePages}
pub use Rattle.trio_nodes.specs.declared.answers.GrantFault.{GrantFault}
pub use Rattle.trio_nodes.specs.declared.answers.GrantFault.TheVariants.{Busy, Denied, NoMemory as NoGrantMemory, NoParent, NotLive}
pub use Rattle.trio_nodes.specs.declared.answers.ModeFault.{ModeFault}
pub use Rattle.trio_nodes.specs.declared.answers.ModeFault.TheVariants.{BadMode, Busy as BusyMode, NoMemory as NoModeMemory, NotOwner}
pub use Rattle.trio_nodes.specs.declared.answers.ReleaseAnswer.{ReleaseAnswer}
pub use Rattle.trio_nodes.specs.declared.answers.ReleaseAnswer.TheVariants.{Accepted, Accepted as AcceptedBundle, Refused, Refused as RefusedBundle}
pub use Rattle.trio_nodes.specs.declared.answers.ReleaseFault.{ReleaseFault}
pub use Rattle.trio_nodes.specs.declared.answers.ReleaseFault.TheVariants.{NoMemory as NoReleaseMemory, NotClosed as NotClosedBundle}
pub use Rattle.trio_nodes.specs.declared.call.Call.{Call}
pub use Rattle.trio_nodes.specs.declared.entry.Entry.{Entry}
pub use Rattle.trio_nodes.specs.declared.entry.HandedPage.{HandedPage}
pub use Rattle.trio_nodes.specs.declared.grant.GrantKind.{GrantKind}
pub use Rattle.trio_nodes.specs.declared.grant.GrantKind.TheVariants.{Hold, Read, Write}
pub use Rattle.trio_nodes.specs.declared.grant.Holder.{Holder}
pub use Rattle.trio_open.proofs.ClosingFacts.{keys}
pub use Rattle.trio_open.proofs.Given.{hold_kind}
pub use Rattle.trio_open.proofs.LendLemmas.{sheets_untouched}
pub use Rattle.trio_open.proofs.Places.{same_more}
pub use Rattle.trio_open.specs.Covers.{CoversLent}
pub use Rattle.trio_open.specs.Entries.{Entries, HasRoom, begun_among, reads_among}
pub use Rattle.trio_open.specs.Open.{Opened, given_by, grant_on, grants_in, hold_of, keyed, lease_of, lent_by, shown_of, untouched}
pub use Rattle.trio_open.specs.inner.Given.{is_body_of}
pub use Rattle.trio_open.specs.inner.Lending.{IsLendable}
pub use Rattle.trio_open.specs.inner.Modes.{busy_holder, is_back, stays_around, with_mode_in}
pub use Rattle.trio_open.specs.inner.Parting.{lowest_parted}
pub use Rattle.trio_open.specs.inner.Reads.{is_read_of}
pub use Rattle.trio_page.specs.Home.{Pages}
pub use Rattle.trio_page.specs.declared.page.PageNo.{PageNo}
pub use Rattle.trio_rights.specs.Bundle.{Bundle, Written, bundle_pages, bundle_sheets, is_written}
pub use Rattle.trio_rights.proofs.KindFacts.{kind_cases, same_kind-self, same_kind-true}
pub use Rattle.trio_rights.specs.ByKind.{covers_blocks, is_directory}
pub use Rattle.trio_rights.specs.Kind.{same_kind}
pub use Rattle.trio_rights.specs.Row.{Row, row_in}
pub use Rattle.trio_rights.specs.Sheets.{Sheet, sheet_numbers, with_pages, without_pages}
pub use Rattle.trio_rights.specs.declared.kind.Kind.{Kind}
pub use Rattle.trio_rights.specs.declared.kind.Kind.TheVariants.{Directory}
pub use Rattle.trio_rights.specs.declared.rights.Creds.{Creds}
pub use Rattle.trio_rights.specs.declared.rights.LibNo.{LibNo}
pub use Rattle.trio_state.specs.Allotments.{allots, free_numbers, is_library, out_after}
pub use Rattle.trio_state.specs.Bundles.{Ends, grants_after, is_in_bundle, is_parted, lent_part, lowest, parted_hold, refused_image}
pub use Rattle.trio_state.specs.Given.{GivenEvent, GivenTo, HasGrant, WasAllotted, WasLent}
pub use Rattle.trio_state.specs.Grants.{denied_by, denied_or, excluding, given_back, grant_fault, has_parent_grant, holder_of, lacks_parent, opened, opens}
pub use Rattle.trio_state.specs.Kept.{Kept, is_lent}
pub use Rattle.trio_state.specs.Listed.{Notes}
pub use Rattle.trio_state.specs.Moves.{Acts, Answered, Begin, ComesBack, End, HasBegun, HasNoRoom, IsAwaited, IsFull, IsTaken, KeptUnderway, Outline, Underway, begun_by, outline_of, with_begun}
pub use Rattle.trio_state.specs.Run.{start}
pub use Rattle.trio_state.specs.State.{OpenGrant, State, creds_of, logged, settled}
pub use Rattle.trio_state.specs.Step.{Allot, Back, Comes, CtlAnswer, Done, Event, Grant, Granted, IsAccepted, IsRefused, NoMemory, NotGranted, Outcome, Parted, Release, Settle, Step, after_mode_fault, granted_to, mode_excluding, mode_fault, moded_to}
pub use Rattle.trio_state.specs.Tells.{Why, case_in}
pub use Rattle.trio_survey.specs.Stored.{core_in, image_in}
pub use Rattle.trio_surveys.proofs.Cores.{listed_is_core}
pub use Rattle.trio_surveys.proofs.Images.{free_is_low, free_unlisted, met_numbered, one_met, owner_at, owner_listed, read_met, root_or_listed, some_of}
pub use Rattle.trio_surveys.proofs.Local.{reads_from}
pub use Rattle.trio_surveys.proofs.Owned.{pages_are, sound_parts}
pub use Rattle.trio_surveys.proofs.Picked.{all_listed, listed_no_root, listed_placed}
pub use Rattle.trio_surveys.proofs.Places.{gathers_directory}
pub use Rattle.trio_surveys.proofs.Putting.{put_on}
pub use Rattle.trio_surveys.proofs.SheetLaws.{length-with_pages, page_at}
pub use Rattle.trio_surveys.proofs.Sheets.{among_cases, length-without, not_among, page_from, page_there, place_there, sheets_all, sheets_in, with_pages_known}
pub use Rattle.trio_surveys.proofs.Tree.{child_from}
pub use Rattle.trio_tables.proofs.OutLemmas.{length-with_all, lib_at-others, lib_at-set, with_all-read, within_some}
pub use Rattle.trio_tables.specs.Free.{count_up, free_pages, is_free_number}
pub use Rattle.trio_tables.specs.Out.{is_out, lib_at, with_all}
pub use Rattle.trio_tables.specs.Row.{as_row}
pub use Rattle.trio_ctl.specs.Answers.{allot_answer, allot_fault_answer, grant_answer, grant_fault_answer, mode_fault_answer, release_answer, release_fault_answer, verdict_of}
pub use Rattle.trio_ctl.specs.Backs.{AreBack, all_back, back_entries}
pub use Rattle.trio_ctl.specs.Ctl.{AreAsTold, Controller, HaveKinds, HoldsAreTold, IsControlled, IsIdle, Registered, Spare, or_zero, superblock_for, underway_of}
pub use Rattle.trio_ctl.specs.Desk.{CallStep, Happens, LogsCall, after_mode_refusal, desk_of, grants_of, out_of}
pub use Rattle.trio_ctl.specs.HandedIn.{AreMarked, WasLentAs, WereHeld, WereLent}
pub use Rattle.trio_ctl.specs.Kits.{HasKit, Serves}
pub use Rattle.trio_ctl.specs.Logged.{AreMine, HasHistory, alone, entries_made, recorded, with_bundle}
pub use Rattle.trio_ctl.specs.Pending.{IsVerdict, case_made}
pub use Rattle.trio_ctl.specs.Room.{sizes_in}
pub use Rattle.trio_ctl.specs.Stored.{IsStored, grants_staying, superblock_at_home}
pub use Rattle.trio_ctl.specs.declared.kit.Kit.{Kit}
pub use Rattle.trio_ctl.specs.inner.Beginning.{HaveBodies, underway_at}
pub use Rattle.trio_ctl.specs.inner.Belonging.{are_given_by}
pub use Rattle.trio_ctl.specs.inner.Denials.{denial}
pub use Rattle.trio_ctl.specs.inner.Outcomes.{IsOutcome, verdict_on}
pub use Rattle.trio_ctl.specs.inner.Pages.{fillings_from, page_or, pages_from, stored_pages}
pub use Rattle.trio_ctl.specs.inner.Telling.{TellsOutcome, noted_by}
