-- The words that the proofs of this crate share: of the standard library, of the crates below, and of this crate's own definitions.
pub use Rattle.std.proofs.Common.{◌%◌, ◌&&◌, ◌*◌, ◌++◌, ◌+◌, ◌-◌, ◌/◌, ◌<◌, ◌^◌, ◌∙◌, ◌∷◌, ◌≡◌, ◌≢◌, ◌≤◌, ◌⊎◌, Bool, Err, List, None, Ok, Option, Result, Some, [], ap, append_assoc, arith, cond, drop, eqb, false, get_or, inl, inr, is_ok, leb, length, ltb, min, not, refl, replicate, subst, suc, sym, take, take-append-drop, true, zero, ℕ}
pub use Rattle.std.proofs.Math.Seq.{drop-cons, take-append-add}
pub use Rattle.std.proofs.lemmas.Bool.{and_from, and_parts, both_ways, cases_Bool, cases_eq, cases_lt, eq-eqb, eqb-true, false_from_ne_true, false≢true, le-leb, leb-true, lt-ltb, ltb-true, ne_eqb, not_from_false, or_left, or_right}
pub use Rattle.std.proofs.lemmas.Bool.Decides.{nat_tests}
pub use Rattle.std.proofs.lemmas.List.{append-nil, drop-append-le, drop-drop, drop-take, drop_all, get_or-append_right, get_or-take, get_or_append_left, get_or_past, length-append, length-drop, length-map, length-take, length-take-le, map-append, nil_from_length, take-append-le, take_all}
pub use Rattle.std.proofs.lemmas.List.Concat.{flat_map-append}
pub use Rattle.std.proofs.lemmas.List.Elements.{filter-append}
pub use Rattle.std.proofs.lemmas.List.Folds.{find-append}
pub use Rattle.std.proofs.lemmas.Option.{cond_some, get_or_from_slice_get, slice_get-get_or, slice_get-map, slice_get_within}
pub use Rattle.std.proofs.lemmas.Simd.{map-map}
pub use Rattle.std.specs.Int.{to_le_bytes, w64}
pub use Rattle.std.specs.List.{filter, find, flat_map, list_all, position}
pub use Rattle.std.specs.Option.{option_and_then, option_map, option_map_or, option_or, unwrap_or}
pub use Rattle.std.specs.Prelude.{if◌then◌else◌, ◌||◌, is_none, is_some, map, nat_le, slice_get, slice_index_or, slice_range, slice_set}
pub use Rattle.std.specs.Str.{bytes_eq}
pub use Rattle.trio_auxdir.specs.Places.{first_empty, place_at}
pub use Rattle.trio_auxdir.specs.Slots.{first_slot, name_in, slot_on, slot_with, slots_of}
pub use Rattle.trio_auxdir.specs.declared.place.Place.{Place}
pub use Rattle.trio_desk.specs.Agrees.{HasRights, Said}
pub use Rattle.trio_desk.specs.Among.{IsAmong, written_numbers}
pub use Rattle.trio_desk.specs.Call.{Ask, DeskSeen, Lent, NotSettled, SeenAfter, Settled, Told}
pub use Rattle.trio_desk.specs.Calls.{Made, NotMade, OneCall}
pub use Rattle.trio_desk.specs.Contents.{AreWithinLimits, Rights, Sizes, entries_or_none, rights_in, rights_of}
pub use Rattle.trio_desk.specs.Edits.{InHand, MayShow, TakesMore}
pub use Rattle.trio_desk.specs.Out.{AreWhole, IsFreshAllotment, IsFreshLease, IsWellLent, LibOut, Parcel, WasGiven, file_numbers, files_out, hold_numbers, ino_numbers, lent_core, lent_numbers, numbers_of_file, page_numbers, pages_out, zero_page}
pub use Rattle.trio_desk.specs.Ready.{ArePossible, ComesToShown, HandsInAll, bundle_of, lent_files, parcel_case}
pub use Rattle.trio_desk.specs.Shows.{Naming, Shows, bytes_now, bytes_read, guard_now, made_by, naming_of, namings, namings_in, node_left, node_listed, node_now, pages_bytes, placed, with_bytes, with_guard, with_judged}
pub use Rattle.trio_laws.proofs.judgement.JudgedFacts.{written_ino, written_ino_at, written_kind_at}
pub use Rattle.trio_laws.proofs.session.Again.{hand_files_once, judged_page, judged_reads, new_between, possible_with_less}
pub use Rattle.trio_laws.proofs.session.Calls.{nothing_is_ready}
pub use Rattle.trio_laws.proofs.session.Edges.{new_dead}
pub use Rattle.trio_laws.proofs.session.FileEdits.{bare, bare_at, body-number, body_stands, plain_entries, sorted-map, written_among}
pub use Rattle.trio_laws.proofs.session.LentNodes.{mapped}
pub use Rattle.trio_laws.proofs.session.Listed.{listed_as}
pub use Rattle.trio_laws.proofs.session.Namings.{find_map, naming_is}
pub use Rattle.trio_laws.proofs.session.Reading.{bytes_as_before, chain_same, file_as_before}
pub use Rattle.trio_laws.proofs.session.Ruled.{case_with, naming_once, owning_parts}
pub use Rattle.trio_laws.proofs.session.Sees.{sees_judged, sees_made, sees_written}
pub use Rattle.trio_laws.proofs.session.Stands.{judged_also, judged_made, judged_there, named_alike, pages_alike}
pub use Rattle.trio_laws.proofs.session.Starts.{judged_once, map-each, new_entry, start_from, start_judged, start_number, start_to}
pub use Rattle.trio_laws.proofs.session.TakenHold.{held_by}
pub use Rattle.trio_laws.specs.session.FileEdits.{bare_file, bytes_listed, core_in_hand, read_in_hand, with_body as written_with, with_content}
pub use Rattle.trio_laws.specs.session.Sees.{AboveIsOpen, IsLeftAlone, IsView}
pub use Rattle.trio_laws.specs.session.Takes.{Becomes, IsInOrder, IsUntouched, Takes, case_as_stands, case_in_hand, pages_in_hand, with_allotment, with_write}
pub use Rattle.trio_layout.proofs.EntryNumbers.{AreInodes, if_ok_at, is_inode, within_fit}
pub use Rattle.trio_layout.proofs.QueueLaws.{met_by}
pub use Rattle.trio_layout.proofs.Reading.{bytes_eq-true, true-bytes_eq}
pub use Rattle.trio_layout.proofs.SlotLemmas.{empty_value, entry_value}
pub use Rattle.trio_layout.proofs.Walks.{fronts_keep, fronts_listed, fronts_new, fronts_tree, numbers-flat, pigeons}
pub use Rattle.trio_layout.proofs.WithinCore.{rest_of, within_from, within_to}
pub use Rattle.trio_layout.specs.Accept.{with_body_in}
pub use Rattle.trio_layout.specs.Allowed.{has_kind}
pub use Rattle.trio_layout.specs.Body.{block_count, body_at, body_fits, body_of, guard_in, head_fits, size_fits}
pub use Rattle.trio_layout.specs.Case.{Case, Held, bundle_core, file_in}
pub use Rattle.trio_layout.specs.Chain.{Chain, index_count, with_index}
pub use Rattle.trio_layout.specs.Core.{Core, Location, at_page, page_of}
pub use Rattle.trio_layout.specs.Entries.{Listed, body_in_slot, has_name, listed_at, repeated_name, slot_bytes, slot_entries, unless_repeated, with_names_apart}
pub use Rattle.trio_layout.specs.Index.{Index}
pub use Rattle.trio_layout.specs.JudgedFiles.{entries_in, fronts, judged_entries, judged_files, judged_pages, new_entries, pages_within, written_at, written_files, written_met}
pub use Rattle.trio_layout.specs.Listing.{is_kept}
pub use Rattle.trio_layout.specs.Proposed.{is_place_of}
pub use Rattle.trio_layout.specs.Range.{core_count, is_core}
pub use Rattle.trio_layout.specs.Rules.{entry_in_grammar, entry_is_own, entry_keeps_rights, file_keeps_rights, has_rights, lent_body, meets_grammar, meets_owning, meets_rights}
pub use Rattle.trio_layout.specs.Slot.{IsEntry, entry_bytes, entry_fits, slot_of}
pub use Rattle.trio_layout.specs.Survey.{FileRead, Front, Met, children_in, descend, first_listed, met_in, numbers, pages_in, plain}
pub use Rattle.trio_layout.specs.Within.{chain_within, entries_where, entries_within, file_within, index_within}
pub use Rattle.trio_layout.specs.declared.body.Body.{Body}
pub use Rattle.trio_layout.specs.declared.range.CoreRange.{CoreRange}
pub use Rattle.trio_layout.specs.declared.slot.EntryPart.{EntryPart}
pub use Rattle.trio_layout.specs.declared.slot.SlotRead.{SlotRead}
pub use Rattle.trio_layout.specs.declared.slot.SlotRead.TheVariants.{Bad, Empty, Entry}
pub use Rattle.trio_lease.specs.Shown.{LentFile, Shown, page_at}
pub use Rattle.trio_lease.specs.Views.{fresh_sheet, lent_sheet, written_in}
pub use Rattle.trio_lease.specs.declared.fresh.Allotted.{Allotted}
pub use Rattle.trio_lease.specs.declared.parts.FreshParts.{FreshParts}
pub use Rattle.trio_lease.specs.declared.parts.HoldParts.{HoldParts}
pub use Rattle.trio_lease.specs.declared.parts.InoParts.{InoParts}
pub use Rattle.trio_lease.specs.declared.parts.LentPage.{LentPage}
pub use Rattle.trio_lists.proofs.Filters.{In-filter, In-find, In-list_any, Ok-one, filter-In, filter-same, find-In, get_or-In, list_any-In, some_one}
pub use Rattle.trio_lists.proofs.Gathered.{each_new, filtered_in, filtered_new, gathered_new, new_beside, one_keyed, one_of}
pub use Rattle.trio_lists.proofs.Marked.{are_new-append}
pub use Rattle.trio_lists.proofs.Members.{In-cases, In-flat, In-is_among, In-left, In-map, In-right, both-Ok, flat_map-In, flat_map-same, is_among-In, is_ok-Ok, list_all-In, list_all-each, map-In, result_map-Ok, result_then-Ok, there_or-Ok}
pub use Rattle.trio_lists.proofs.New.{are_new-before, are_new-fewer, are_new-first, are_new-take, is_among-not}
pub use Rattle.trio_lists.specs.Lists.{In, are_new, both, gathered, gathered_below, is_among, result_map, result_then, there_or}
pub use Rattle.trio_lists.specs.Sorting.{sorted_by}
pub use Rattle.trio_names.specs.Name.{is_name}
pub use Rattle.trio_nodes.proofs.NodeFacts.{with_node-else, with_node-same}
pub use Rattle.trio_nodes.specs.After.{batch_nodes}
pub use Rattle.trio_nodes.specs.Apply.{put_at, resized}
pub use Rattle.trio_nodes.specs.Nodes.{Nodes, node_at, with_node}
pub use Rattle.trio_nodes.specs.Tree.{IsDirectory, IsTree}
pub use Rattle.trio_nodes.specs.Walk.{Path}
pub use Rattle.trio_nodes.specs.declared.call.Done.{Done}
pub use Rattle.trio_nodes.specs.declared.grant.GrantKind.TheVariants.{Hold, Read, Write}
pub use Rattle.trio_nodes.specs.declared.node.Node.{Node}
pub use Rattle.trio_onetree.proofs.Children.{Up}
pub use Rattle.trio_onetree.proofs.TreeStays.{tree_stays_through}
pub use Rattle.trio_page.proofs.Cursor.{IsBytes, length-zeros, wide64}
pub use Rattle.trio_page.proofs.Fields.{length-with_number, length-with_part}
pub use Rattle.trio_page.specs.Field.{number_at, with_number, with_part, zeros}
pub use Rattle.trio_rights.specs.Bundle.{Bundle, Written, bundle_pages, bundle_sheets, is_written}
pub use Rattle.trio_rights.specs.Row.{Row, row_in}
pub use Rattle.trio_rights.specs.Sheets.{Sheet, sheet_numbers}
pub use Rattle.trio_rights.specs.declared.kind.Kind.{Kind}
pub use Rattle.trio_rights.proofs.KindFacts.{guard_fits-true, is_directory-false, is_directory-true, kind_cases}
pub use Rattle.trio_rights.specs.ByKind.{guard_fits, is_directory}
pub use Rattle.trio_rights.specs.declared.kind.Kind.TheVariants.{Directory, Link, Regular}
pub use Rattle.trio_rights.specs.declared.rights.Creds.{Creds}
pub use Rattle.trio_rights.specs.declared.rights.LibNo.{LibNo}
pub use Rattle.trio_rights.specs.declared.rights.Mode.{Mode}
pub use Rattle.trio_session.proofs.Alike.{desk_same, same_seen}
pub use Rattle.trio_session.proofs.Found.{find-position, position-some}
pub use Rattle.trio_session.proofs.Given.{left_at, right_at}
pub use Rattle.trio_session.proofs.Lists.{In-take, if_other, if_same, map_alike, once_at, slice_get-In}
pub use Rattle.trio_session.proofs.Numbers.{filter-all}
pub use Rattle.trio_session.proofs.Pages.{page_in-with_body, page_in-with_page_else, page_in-with_page_same, pages-with_page, sheet_at, sheets_of}
pub use Rattle.trio_session.proofs.Shows.{block_shown-open, block_shown-read, pages_shown-open, pages_shown-read}
pub use Rattle.trio_session.proofs.SlotBytes.{body_in_slot-filled, entry-filled, length-entry_bytes, number-cleared}
pub use Rattle.trio_session.proofs.SlotEdits.{EditsSlotIn, IsWhole, body-else, body-filled, edits_filled, entry_on, entry_on-cleared, slot_bytes-else}
pub use Rattle.trio_session.proofs.Slots.{slot_wider}
pub use Rattle.trio_session.specs.Asked.{IsAlike, SameDesk, with_allotted, with_lease}
pub use Rattle.trio_session.specs.Deeds.{slot_growth}
pub use Rattle.trio_session.specs.Layout.{cleared as cleared_slot, filled, gap, growth, linked, new_index, numbered, page_in, put_bytes, size_in, unlinked, unnamed, with_body_at, with_page, with_part_in}
pub use Rattle.trio_session.specs.Seen.{IsOn, IsOpen, IsOpenFile, IsOpenDir, MadeFile, Room, SessionSeen, block_number, block_shown, body_in, chain_in, clear, cleared_file, dir_pages, emptied, empty_shown, entry_count, entry_in, entry_shown, every_number, fill, grant_in, held_file, home_in, in_hand, is_allotted, kind_shown, made_body, made_chained, made_file, no_chain, number_shown, open_kind, pages_shown, place_in, place_of, place_shown, read_file, serves, slots_shown, spare_numbers, spare_pages, used_numbers, with_chain, written_file}
pub use Rattle.trio_surveys.proofs.Images.{same_met, some_of}
pub use Rattle.trio_surveys.proofs.Owned.{body_sized}
pub use Rattle.trio_surveys.proofs.Places.{Placed, below_from, gathered_from}
pub use Rattle.trio_surveys.proofs.Sheets.{Pages, among_cases}
pub use Rattle.trio_surveys.specs.Reading.{with_other}
pub use Rattle.trio_edit_laws.specs.Allotting.{NamesStay}
pub use Rattle.trio_edit_laws.specs.Calls.{MayCall, MayGoOn}
pub use Rattle.trio_edit_laws.specs.DirLaws.{Changes, HasSlot, LeavesFiles, LeavesMoved, StaysTree}
pub use Rattle.trio_edit_laws.specs.EditLaws.{AreSpare, GetsBytes, GetsSlots}
pub use Rattle.trio_edit_laws.specs.TakingLaws.{IsListedNow, TookMore}
pub use Rattle.trio_edit_laws.specs.Written.{AreMade, ChainsRead, EntriesHaveRights, IsInSlot, IsJudgedMade, IsUnlent, MayEdit, ReadsBy, ShowsTrees, bytes_in, chained, made_met}
pub use Rattle.trio_edit_laws.specs.session.Chains.{IsNamed}
pub use Rattle.trio_edit_laws.specs.session.FileEdits.{SameRights, files_in_hand, pages_listed}
pub use Rattle.trio_edit_laws.specs.session.JudgedEdits.{IsJudgedEdit, content_of, listed_with, met_with}
pub use Rattle.trio_edit_laws.specs.session.Listed.{JudgesSame, listed_in_hand}
pub use Rattle.trio_edit_laws.specs.session.SlotEdits.{AreSlotWrites, IsEmptyFile, IsFreeName, IsSlotWrite, SlotWrite, body_after, body_before, moved, naming_after, slot_after, slot_before, with_changed}
