-- The words that the proofs of this crate share: of the standard library, of the crates below, and of this crate's own definitions.
pub use Rattle.std.proofs.Common.{◌&&◌, ◌*◌, ◌++◌, ◌+◌, ◌-◌, ◌<◌, ◌||◌, ◌∙◌, ◌∷◌, ◌≡◌, ◌≢◌, ◌≤◌, ◌⊎◌, Bool, Err, List, None, Ok, Option, Result, Some, [], ap, append_assoc, arith, cond, drop, drop-drop, eqb, ext_get_or, false, filter_map, get_or, inl, inr, is_ok, leb, length, length-drop, length-set, length-take, ltb, ltb-false, min, not, refl, set, slice_get, slice_set, subst, suc, sym, take, take-append-drop, take-take, take_all, true, unwrap_or, zero, ℕ}
pub use Rattle.std.proofs.lemmas.Bool.{and_from, and_left, and_parts, and_right, both_ways, cases_Bool, cases_eq, cases_lt, eq-eqb, eqb-false, eqb-true, false_from_ne_true, false≢true, le-ltb, leb-true, ltb-true, ne_eqb, not-false, not-true, not_from_false, not_from_true, or_cases, or_left, or_parts, or_right}
pub use Rattle.std.proofs.lemmas.Bool.Decides.{nat_tests}
pub use Rattle.std.proofs.lemmas.List.{append-nil, drop-take, get_or-set_other, get_or-set_same, get_or_past, length-append, length-map, length-replicate, map-append, map-id, nil_from_length, take-append-le}
pub use Rattle.std.proofs.lemmas.List.Concat.{flat_map-append}
pub use Rattle.std.proofs.lemmas.List.Folds.{list_any-append}
pub use Rattle.std.proofs.lemmas.List.Kept.{AllPairs-filter}
pub use Rattle.std.proofs.lemmas.List.Quantifiers.{all_pairs_push}
pub use Rattle.std.proofs.lemmas.List.Sums.{sum_by-cons}
pub use Rattle.std.proofs.lemmas.Option.{cond_some, same_Some}
pub use Rattle.std.proofs.lemmas.Simd.{map-map}
pub use Rattle.std.proofs.lemmas.Slice.Eq.{bytes_eq-Decides}
pub use Rattle.std.specs.List.{AllByRecursion, cons_option, count_by, filter, find, flat_map, list_all, list_any}
pub use Rattle.std.specs.Option.{ok_or, option_and_then, option_map, option_map_or}
pub use Rattle.std.specs.Prelude.{AllPairs, MatchBool, is_some, map, nat_lt, replicate, slice_index, slice_index_or}
pub use Rattle.std.specs.Str.{bytes_eq}
pub use Rattle.trio_desk.specs.Agrees.{Agrees, AllStand, HasContent, HasFile, HasHeld, HasPlaces, HasRights, HasStanding, Leases, Said, SaySame, node_says, row_says}
pub use Rattle.trio_desk.specs.Among.{IsAmong, IsForeign, written_numbers}
pub use Rattle.trio_desk.specs.Call.{DeskSeen}
pub use Rattle.trio_desk.specs.Contents.{Rights, ShownEntry, Sizes, bytes_shown, entries_lent, entries_or_none, entries_shown, entry_of_listed, entry_of_node, rights_in, rights_of}
pub use Rattle.trio_desk.specs.Edits.{DoesCall, InHand, MayShow}
pub use Rattle.trio_desk.specs.Out.{IsWellLent, Parcel, file_numbers, hold_numbers, ino_numbers, lent_numbers, numbers_of_file, page_numbers}
pub use Rattle.trio_desk.specs.Ready.{ArePossible, Ready, bundle_of, lent_files, parcel_case}
pub use Rattle.trio_desk.specs.Shows.{Naming, Shows, bytes_now, bytes_read, guard_now, made_by, naming_of, namings, namings_in, node_left, node_listed, node_now, pages_bytes, placed, with_bytes, with_guard, with_judged}
pub use Rattle.trio_layout.proofs.EntryNumbers.{AreInodes, if_ok_at, is_inode, within_fit}
pub use Rattle.trio_layout.proofs.QueueLaws.{met_by}
pub use Rattle.trio_layout.proofs.Walks.{fronts_keep, fronts_listed, fronts_new, fronts_tree, numbers-flat, pigeons, starts_met}
pub use Rattle.trio_layout.proofs.WithinCore.{rest_of, within_from, within_to}
pub use Rattle.trio_layout.specs.Accept.{is_accepted, next}
pub use Rattle.trio_layout.specs.Allowed.{all_up_to, has_kind, has_owner, is_allowed, keeps_rows, lists_own, may_stand, same_row}
pub use Rattle.trio_layout.specs.Body.{block_count, body_at, body_of, guard_in}
pub use Rattle.trio_layout.specs.Broken.{BreaksGrammar, BreaksOwning, BreaksRights, EntryAt, judged_listings}
pub use Rattle.trio_layout.specs.Case.{Case, Held, bundle_core, case_of}
pub use Rattle.trio_layout.specs.Chain.{Chain, chain_of, index_count, with_index}
pub use Rattle.trio_layout.specs.Copied.{with_copied}
pub use Rattle.trio_layout.specs.Core.{Core, Location, at_page, nowhere, page_of}
pub use Rattle.trio_layout.specs.Edges.{climbs, climbs_clear, comes_to_root, has_file, is_listed, is_listed_kept, is_moved, keeps_children, leaves_none, meets_edges, proposed_parent, row_parent, stays_listed}
pub use Rattle.trio_layout.specs.Entries.{Listed, body_in_slot, entries_of, entries_of_kind, entries_on, has_name, listed_at, page_entries, place_of, repeated_name, slot_bytes, slot_entries, unless_repeated, with_names_apart}
pub use Rattle.trio_layout.specs.Image.{Image, IsFit, row_at, settled_body, with_core_pages}
pub use Rattle.trio_layout.specs.Index.{Index}
pub use Rattle.trio_layout.specs.JudgedFiles.{entries_in, fronts, judged_entries, judged_files, judged_pages, new_entries, pages_within, written_at, written_files, written_met}
pub use Rattle.trio_layout.specs.Listing.{ListedEntry, ListedFile, Listing, entry_listed, file_listed, is_kept, listing}
pub use Rattle.trio_layout.specs.Mode.{body_put, body_with_mode, image_with_mode, row_with_mode}
pub use Rattle.trio_layout.specs.Pages.{block_sheets, settled_chain, sheets_of}
pub use Rattle.trio_layout.specs.Proposed.{is_place_of, kept_body, proposed, proposed_pick}
pub use Rattle.trio_layout.specs.Range.{is_core}
pub use Rattle.trio_layout.specs.Rules.{entry_in_grammar, entry_is_own, entry_keeps_rights, file_keeps_rights, has_rights, lent_body, meets_grammar, meets_owning, meets_rights, meets_rules}
pub use Rattle.trio_layout.specs.Slot.{entry_at, slot_of}
pub use Rattle.trio_layout.specs.Sound.{is_sound}
pub use Rattle.trio_layout.specs.Survey.{FileRead, Front, Met, Pick, children, children_in, descend, file_of, first_listed, met_in, numbers, pages_in, pages_of, plain, root_of, row_by, row_of, survey}
pub use Rattle.trio_layout.specs.Tables.{row_after}
pub use Rattle.trio_layout.specs.Verifies.{Verifies}
pub use Rattle.trio_layout.specs.Within.{chain_within, entries_where, entries_within, file_within, index_within}
pub use Rattle.trio_layout.specs.declared.body.Body.{Body}
pub use Rattle.trio_layout.specs.declared.range.CoreRange.{CoreRange}
pub use Rattle.trio_layout.specs.declared.slot.EntryPart.{EntryPart}
pub use Rattle.trio_layout.specs.declared.slot.SlotRead.{SlotRead}
pub use Rattle.trio_layout.specs.declared.slot.SlotRead.TheVariants.{Bad, Empty}
pub use Rattle.trio_lease.specs.Shown.{LentFile, Shown}
pub use Rattle.trio_lease.specs.Views.{fresh_sheet, lent_sheet, written_in}
pub use Rattle.trio_lease.specs.declared.fresh.Allotted.{Allotted}
pub use Rattle.trio_lease.specs.declared.parts.HoldParts.{HoldParts}
pub use Rattle.trio_lease.specs.declared.parts.LentPage.{LentPage}
pub use Rattle.trio_lists.proofs.Filters.{AllPairs-In, In-filter, In-find, In-list_any, Ok-one, filter-In, filter-map, filter-none, filter-same, find-In, get_or-In, list_any-In, list_any-map, some_one}
pub use Rattle.trio_lists.proofs.Gathered.{each_new, filtered_in, filtered_new, gathered_new, new_beside, one_keyed, one_of}
pub use Rattle.trio_lists.proofs.Marked.{are_new-append, is_among-push}
pub use Rattle.trio_lists.proofs.Members.{In-cases, In-flat, In-is_among, In-left, In-map, In-right, both-Ok, flat_map-In, flat_map-same, is_among-In, is_ok-Ok, list_all-In, list_all-each, map-In, result_map-Ok, result_then-Ok, there_or-Ok}
pub use Rattle.trio_lists.proofs.New.{are_new-before, are_new-fewer, are_new-first, is_among-not}
pub use Rattle.trio_lists.proofs.Sorting.{in_sorted, sorted_in, sorted_new}
pub use Rattle.trio_lists.proofs.Tabulated.{tabulated-get, tabulated-length, tabulated-past, tabulated-same}
pub use Rattle.trio_lists.specs.Counting.{count_up}
pub use Rattle.trio_lists.specs.Lists.{In, are_new, both, gathered, is_among, result_map, result_then, tabulated, there_or}
pub use Rattle.trio_lists.specs.Sorting.{inserted_by, sorted_by}
pub use Rattle.trio_nodes.proofs.NodeFacts.{with_node-else, with_node-same}
pub use Rattle.trio_nodes.specs.After.{batch_nodes, bytes_in, call_nodes, lacks_room, moded_node, moded_nodes, put_within, raw_bytes, raw_node, raw_nodes, with_blocks}
pub use Rattle.trio_nodes.specs.Apply.{Applied, Apply, LacksRoom, applied, done, is_done, listed_in, makes_file, of_node, reached, refused, resized}
pub use Rattle.trio_nodes.specs.GrantKinds.{excludes_kind, is_hold, is_read, is_write, same_kind}
pub use Rattle.trio_nodes.specs.Handed.{Handed, HandedFile}
pub use Rattle.trio_nodes.specs.Legal.{BlocksAreKnown, HasNameOf, HasPlaceOf, HasRightsOf, IsLegal, IsWithinGrants, KeepsRights, LegalCalls, LegalChmod, LegalFrom, MadeFits, Past, SameContent, SparesOthers, beginning, is_guarded, is_handed, is_owner, parent_in, past_after}
pub use Rattle.trio_nodes.specs.Libraries.{creds_in}
pub use Rattle.trio_nodes.specs.Nodes.{Nodes, entry_in, find_named, is_in, node_at, with_node}
pub use Rattle.trio_nodes.specs.Standing.{Standing, is_given, is_others, stands, stands_on}
pub use Rattle.trio_nodes.specs.Told.{ToldBlock}
pub use Rattle.trio_nodes.specs.Tree.{IsDirectory, IsTree}
pub use Rattle.trio_nodes.specs.Walk.{Path, and_then, dir_of, lacks, walk, walk_into}
pub use Rattle.trio_nodes.specs.declared.answers.GrantFault.{GrantFault}
pub use Rattle.trio_nodes.specs.declared.answers.GrantFault.TheVariants.{NoParent}
pub use Rattle.trio_nodes.specs.declared.answers.ModeFault.{ModeFault}
pub use Rattle.trio_nodes.specs.declared.answers.ModeFault.TheVariants.{BadMode, Busy, NoMemory as OutOfMemory, NotLive, NotOwner}
pub use Rattle.trio_nodes.specs.declared.call.Answer.TheVariants.{Done as IsDone}
pub use Rattle.trio_nodes.specs.declared.call.Call.{Call}
pub use Rattle.trio_nodes.specs.declared.call.Call.TheVariants.{Stat, Truncate}
pub use Rattle.trio_nodes.specs.declared.call.Done.{Done}
pub use Rattle.trio_nodes.specs.declared.call.Reply.{Reply}
pub use Rattle.trio_nodes.specs.declared.call.Reply.TheVariants.{Denied, IsDir, NotDir, NotFound}
pub use Rattle.trio_nodes.specs.declared.entry.Entry.{Entry}
pub use Rattle.trio_nodes.specs.declared.entry.Entry.TheVariants.{Raw}
pub use Rattle.trio_nodes.specs.declared.entry.HandedPage.{HandedPage}
pub use Rattle.trio_nodes.specs.declared.entry.RawFile.{RawFile}
pub use Rattle.trio_nodes.specs.declared.grant.GrantKind.{GrantKind}
pub use Rattle.trio_nodes.specs.declared.grant.GrantKind.TheVariants.{Hold, Read, Write}
pub use Rattle.trio_nodes.specs.declared.node.Node.{Node}
pub use Rattle.trio_nodes.specs.declared.note.Note.{Note}
pub use Rattle.trio_onetree.proofs.Children.{Up, find_named-Child, one_node}
pub use Rattle.trio_onetree.proofs.TreeStays.{tree_stays_through}
pub use Rattle.trio_rights.proofs.KindFacts.{is_directory-false, is_directory-true, kind_cases}
pub use Rattle.trio_rights.specs.Bundle.{Bundle, Written, bundle_pages, bundle_sheets, is_written}
pub use Rattle.trio_rights.specs.ByKind.{covers_blocks, is_directory, is_link}
pub use Rattle.trio_rights.specs.Row.{Row, is_child, row_in}
pub use Rattle.trio_rights.specs.Sheets.{Sheet, sheet_numbers, with_pages, without_pages}
pub use Rattle.trio_rights.specs.declared.kind.Kind.{Kind}
pub use Rattle.trio_rights.specs.declared.kind.Kind.TheVariants.{Directory, Link, Regular}
pub use Rattle.trio_rights.specs.declared.rights.Creds.{Creds}
pub use Rattle.trio_rights.specs.declared.rights.LibNo.{LibNo}
pub use Rattle.trio_rights.specs.declared.rights.Mode.{Mode}
pub use Rattle.trio_rights.specs.declared.rights.Need.{Need}
pub use Rattle.trio_rights.specs.declared.rights.Need.TheVariants.{Read as ToRead, Write as ToWrite}
pub use Rattle.trio_state.specs.Allotments.{allots, free_numbers, free_pages, out_after, out_with}
pub use Rattle.trio_state.specs.Bundles.{Ends, blank, grants_after, has_all, is_in_bundle, is_parent_written, is_parted, lent_part, parted_hold, refused_image, uncovered}
pub use Rattle.trio_state.specs.Given.{GivenEvent, GivenTo, HasGrant, HasNoRead, WasAllotted}
pub use Rattle.trio_state.specs.Grants.{denied_by, denied_or, excluding, given_back, grant_fault, has_parent_grant, holder_of, lacks_parent, lent_pages, opened, opens, told_children}
pub use Rattle.trio_state.specs.ImageNodes.{body_of_row}
pub use Rattle.trio_state.specs.Kept.{HasLentBlocks, HoldStands, Kept, LentIsListed, MayBothStand, is_lent}
pub use Rattle.trio_state.specs.Listed.{Notes, accepted_files, blocks_of_kind, changed_blocks, entry_guard, entry_name, entry_size, is_block_changed, lent_blocks, noted_guard, noted_name, noted_size, notes_after, size_in, told_row}
pub use Rattle.trio_state.specs.Moves.{ActAnswer, Begin, Beginning, ComesBack, End, HasNoRoom, IsFull, IsTaken, KeptUnderway, One, Outline, Underway, begun_by, outline_of, with_begun}
pub use Rattle.trio_state.specs.Run.{IsWhole, Move, Trace, start}
pub use Rattle.trio_state.specs.State.{IsLibrary, OpenGrant, State, covered, creds_of, logged, settled}
pub use Rattle.trio_state.specs.Step.{Accepted, Allot, Back, Comes, CtlAnswer, Does, Event, Given, Grant, IsAccepted, IsRefused, NoInodes, NoMemory, NoPages, NotClosed, NotModeSet, Outcome, Parted, Refused, Release, ReleaseEnd, SetMode, Settle, Settled, Step, after_grant_fault, after_mode_fault, allot_outcome, grant_outcome, granted_to, mode_excluding, mode_fault, mode_outcome, moded_to}
pub use Rattle.trio_state.specs.Tells.{Tells, Why, case_in}
pub use Rattle.trio_surveys.proofs.Accepted.{accepted_verifies, fit_proposed, fit_put}
pub use Rattle.trio_surveys.proofs.Alike.{same_kind_is, up_to_at}
pub use Rattle.trio_surveys.proofs.BundlePages.{there_same}
pub use Rattle.trio_surveys.proofs.Climbing.{climbs_more, climbs_past}
pub use Rattle.trio_surveys.proofs.Cores.{listed_is_core}
pub use Rattle.trio_surveys.proofs.Images.{MetAt, TablesOf, free_unlisted, met_numbered, met_row, one_met, owner_listed, read_met, root_is_met, root_or_listed, row_at_is, row_met, same_met, settled_body_met, some_of}
pub use Rattle.trio_surveys.proofs.Local.{chain_follows, file_agrees, reads_from, reads_to, survey_local}
pub use Rattle.trio_surveys.proofs.Moded.{body_moded, changed}
pub use Rattle.trio_surveys.proofs.ModedCore.{listed0, ms, page_now, read_now}
pub use Rattle.trio_surveys.proofs.ModedImage.{met_other, mode_body_other, mode_core_is, mode_file, mode_fit, mode_met, mode_verifies}
pub use Rattle.trio_surveys.proofs.OwnFiles.{lent_settled, place_from, place_parts}
pub use Rattle.trio_surveys.proofs.Owned.{index_apart, page_owner, pages_are, pages_new, sound_parts}
pub use Rattle.trio_surveys.proofs.PageSlots.{pages_same}
pub use Rattle.trio_surveys.proofs.Picked.{all_listed, bodies_are, file_put, listed_no_root, page_put_is, survey_put}
pub use Rattle.trio_surveys.proofs.Places.{below_from, gathered_from, gathers_directory, placed_from}
pub use Rattle.trio_surveys.proofs.Putting.{put_on, with_bodies-get}
pub use Rattle.trio_surveys.proofs.Reached.{child_met, child_parent, met_cases, no_root_listed, reached_met, survey_reached}
pub use Rattle.trio_surveys.proofs.RowsLaw.{met_same, row_there}
pub use Rattle.trio_surveys.proofs.SheetLaws.{length-with_pages}
pub use Rattle.trio_surveys.proofs.Sheets.{Pages, among_cases, length-without, page_from, page_same, page_there, place_there, place_within, sheets_all, sheets_in, with_pages-append, with_pages_absent, with_pages_apart, with_pages_cong, with_pages_known, with_pages_there, without_absent, without_apart, without_there}
pub use Rattle.trio_surveys.proofs.Tree.{child_from, child_has, child_numbered, child_placed}
pub use Rattle.trio_surveys.proofs.Within.{file_same}
pub use Rattle.trio_surveys.specs.Reading.{AgreeOn, pages_read, picked_entry, with_other}
pub use Rattle.trio_surveys.specs.Tree.{Reaches}
pub use Rattle.trio_tables.proofs.OutLemmas.{is_out-given, length-with_all, lib_at-none_out, lib_at-others, lib_at-set, within_some}
pub use Rattle.trio_tables.specs.Out.{is_out, lib_at}
pub use Rattle.trio_laws.specs.EndLaws.{IsSpread, checkpoints_of, unless_absent}
pub use Rattle.trio_laws.specs.Known.{Known, known}
pub use Rattle.trio_laws.specs.Laws.{library_of, plain_pages}
pub use Rattle.trio_laws.specs.OutLaws.{out_of, without_checkpoint}
pub use Rattle.trio_laws.specs.RuleLaws.{IsJudgeable}
pub use Rattle.trio_laws.specs.history.Entries.{Beside, answer_of, block_numbers, blocks_in as chain_blocks, bundle_handed, entry_of, event_of, is_block_told, is_told, is_touched, name_by, raw_blocks, raw_entry, raw_file, raw_files, sheet_handed, tells_blocks, told_blocks, told_blocks_of, told_by, told_file, written_handed}
pub use Rattle.trio_laws.specs.history.Recorded.{BesideFits, CallFits, IsMarked, LentWhole}
pub use Rattle.trio_laws.specs.history.Replays.{ReplaysFrom}
pub use Rattle.trio_laws.specs.history.Stands.{blocks_of, bytes_of, bytes_of_sheets, data_of, guard_of, name_in, name_of, node_by, node_in, node_of, nodes_of, past_of, size_of, standing_of, writer_of}
pub use Rattle.trio_laws.specs.history.ToldLaws.{note_of, notes_of}
pub use Rattle.trio_laws.specs.session.FileEdits.{bare_file, bytes_listed, core_in_hand, read_in_hand, with_body}
pub use Rattle.trio_laws.specs.session.Others.{NoHoldOnRoot}
pub use Rattle.trio_laws.specs.session.Sees.{IsView}
pub use Rattle.trio_laws.specs.session.Settles.{IsMoment, WasHeld}
pub use Rattle.trio_laws.specs.session.Takes.{IsInOrder, IsUntouched, Takes, case_as_stands, case_in_hand, with_allotment, with_write}
