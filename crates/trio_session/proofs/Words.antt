-- The words that the proofs of this crate share: of the standard library, of the crates below, and of this crate's own definitions.
pub use Rattle.std.proofs.Common.{◌%◌, ◌&&◌, ◌*◌, ◌++◌, ◌+◌, ◌-◌, ◌/◌, ◌<◌, ◌^◌, ◌||◌, ◌∙◌, ◌∷◌, ◌≡◌, ◌≢◌, ◌≤◌, ◌⊎◌, Bool, Bor, Err, Global, IsTrue, List, None, Ok, OnOk, Option, Some, [], ap, append_assoc, arith, cond, drop, eqb, false, get_or, inl, inr, leb, length, ltb, min, refl, replicate, subst, suc, sym, take, true, zero, ℕ}
pub use Rattle.std.proofs.Math.Seq.{drop-cons, take-append_seam}
pub use Rattle.std.proofs.lemmas.Bool.{and_from, and_parts, cases_Bool, cases_eq, cases_lt, eq-eqb, eqb-true, false_from_ne_true, false≢true, le-leb, leb-true, lt-ltb, ltb-true}
pub use Rattle.std.proofs.lemmas.Grind.{flat_map-append}
pub use Rattle.std.proofs.lemmas.List.{append-nil, drop-drop, get_or-set_same, get_or_append_left, length-append, length-drop, length-map, length-set, length-take, length-take-le, map-append, take-append-drop, take-take}
pub use Rattle.std.proofs.lemmas.Option.{get_or_from_slice_get, slice_get-get_or, slice_get-map, slice_get_within}
pub use Rattle.std.proofs.lemmas.Simd.{map-map}
pub use Rattle.std.specs.Global.{Vec}
pub use Rattle.std.specs.Int.{w32, w64}
pub use Rattle.std.specs.List.{filter, find, flat_map, position}
pub use Rattle.std.specs.Option.{is_some, option_and_then, option_copied, option_map, option_map_or, option_or}
pub use Rattle.std.specs.Prelude.{if◌then◌else◌, IfSome, Result, map, not, slice_get, slice_index, slice_index_or, slice_range, slice_set, vec_capacity}
pub use Rattle.std.specs.Result.{is_ok}
pub use Rattle.std.specs.Str.{bytes_eq}
pub use Rattle.std.specs.Vec.{with_item}
pub use Rattle.trio_auxdir.proofs.PageSlots.{zeros_empty}
pub use Rattle.trio_auxdir.proofs.SlotLists.{absent, absent_from}
pub use Rattle.trio_auxdir.specs.Places.{first_empty, place_of as place_at_name, slot_number, with_slot}
pub use Rattle.trio_auxdir.specs.Slots.{NamesDiffer, is_directory_page, name_in, slot_on, slot_with, slots_of, slots_on}
pub use Rattle.trio_auxdir.specs.declared.place.Place.{Place}
pub use Rattle.trio_desk.specs.Call.{Allot, Ask, DeskSeen, Done, Given, Grant, Judged, Lent, ModeSet, NotGiven, NotJudged, NotLent, NotModeSet, NotSettled, SeenAfter, SetMode, Settle, Settled, Told}
pub use Rattle.trio_desk.specs.Calls.{NotMade, OneCall}
pub use Rattle.trio_desk.specs.Contents.{Sizes}
pub use Rattle.trio_desk.specs.Edits.{nothing}
pub use Rattle.trio_desk.specs.Out.{IsFreshAllotment, IsFreshLease, IsWellLent, LibOut, Parcel, file_numbers, hold_numbers, ino_numbers, lent_core, lent_numbers, numbers_of_file, page_numbers, pages_out, parcel_of, zero_page}
pub use Rattle.trio_desk.specs.Ready.{bundle_of}
pub use Rattle.trio_layout.specs.Body.{block_count}
pub use Rattle.trio_layout.specs.Chain.{Chain, index_count}
pub use Rattle.trio_layout.specs.Core.{Core, at_page, page_of}
pub use Rattle.trio_layout.specs.Entries.{body_in_slot, listed_at, slot_bytes, slot_entries}
pub use Rattle.trio_layout.specs.Range.{is_core}
pub use Rattle.trio_layout.specs.Slot.{entry_bytes, entry_fits, slot_of}
pub use Rattle.trio_layout.specs.declared.range.CoreRange.{CoreRange}
pub use Rattle.trio_layout.specs.declared.slot.EntryPart.{EntryPart}
pub use Rattle.trio_layout.specs.declared.slot.SlotRead.{SlotRead}
pub use Rattle.trio_layout.specs.declared.slot.SlotRead.TheVariants.{Bad, Empty, Entry}
pub use Rattle.trio_lease.proofs.Places.{set_same}
pub use Rattle.trio_lease.specs.Bundles.{bundled}
pub use Rattle.trio_lease.specs.Shown.{LentFile, Shown, page_at, page_at as lent_bytes}
pub use Rattle.trio_lease.specs.Views.{fresh_sheet, lent_sheet, written_in}
pub use Rattle.trio_lease.specs.declared.fresh.Allotted.{Allotted}
pub use Rattle.trio_lease.specs.declared.lease.Lease.{Lease}
pub use Rattle.trio_lease.specs.declared.lease.Lease.TheVariants.{Hold, Read, Write}
pub use Rattle.trio_lease.specs.declared.parts.FreshParts.{FreshParts}
pub use Rattle.trio_lease.specs.declared.parts.HoldParts.{HoldParts}
pub use Rattle.trio_lease.specs.declared.parts.InoParts.{InoParts}
pub use Rattle.trio_lease.specs.declared.parts.LentPage.{LentPage}
pub use Rattle.trio_lease.specs.declared.read.ReadLease.{ReadLease}
pub use Rattle.trio_lists.proofs.Counting.{count_from}
pub use Rattle.trio_lists.proofs.Filters.{In-filter, In-find, filter-In, filter-map, filter-none, find-In, get_or-In}
pub use Rattle.trio_lists.proofs.Marked.{are_new-push}
pub use Rattle.trio_lists.proofs.Members.{In-cases, In-flat, In-is_among, In-left, In-map, In-right, is_among-In, map-In, result_then-Ok, there_or-Ok}
pub use Rattle.trio_lists.proofs.New.{are_new-before, are_new-beside, are_new-first, is_among-not}
pub use Rattle.trio_lists.specs.Counting.{count_up}
pub use Rattle.trio_lists.specs.Lists.{In, are_new, both, gathered_below, is_among, tabulated}
pub use Rattle.trio_names.specs.Name.{is_name}
pub use Rattle.trio_nodes.specs.declared.answers.GrantFault.TheVariants.{NoMemory as NoGrantMemory}
pub use Rattle.trio_nodes.specs.declared.grant.GrantKind.{GrantKind}
pub use Rattle.trio_nodes.specs.declared.grant.GrantKind.TheVariants.{Hold as ToHold}
pub use Rattle.trio_page.proofs.Cursor.{length-zeros}
pub use Rattle.trio_page.proofs.Fields.{length-with_number}
pub use Rattle.trio_page.specs.Field.{with_number, with_part, zeros}
pub use Rattle.trio_rights.proofs.KindFacts.{is_directory-false, is_directory-true, kind_cases}
pub use Rattle.trio_rights.specs.Bundle.{bundle_pages, bundle_sheets}
pub use Rattle.trio_rights.specs.ByKind.{is_directory}
pub use Rattle.trio_rights.specs.Sheets.{Sheet, sheet_numbers}
pub use Rattle.trio_rights.specs.declared.kind.Kind.{Kind}
pub use Rattle.trio_rights.specs.declared.kind.Kind.TheVariants.{Directory, Link, Regular}
pub use Rattle.trio_rights.specs.declared.rights.Creds.{Creds}
pub use Rattle.trio_rights.specs.declared.rights.LibNo.{LibNo}
pub use Rattle.trio_session.specs.Asked.{AfterSettle, IsAlike, IsSame, SameBut, TellsGrant, lent_chain, with_lease}
pub use Rattle.trio_session.specs.Layout.{Home, InSlot as HomeInSlot, Leased as HomeLeased, block_with, blocks_under, body_guarded, body_guarded, body_sized, body_with, chain_cut, chain_grown, cleared, cleared as cleared_slot, cut_file, file_with, filled, fresh_with, gap, grown_file, growth, index_with, linked, new_index, numbered, page_in, put_block, put_blocks, put_bytes, retitled, size_in, unlinked, unnamed, with_block_number, with_body_at, with_number_in, with_page, written_on}
pub use Rattle.trio_session.specs.Seen.{IsOn, MadeFile, MayGrow, Room, SessionSeen, block_number, body_in, body_shown, chain_in, dir_pages, emptied, empty_shown, entry_count, entry_in, entry_shown, every_number, filled_at, has_out, held_file, home_in, is_allotted, kind_shown, lower, lowest_from, made_body, made_chained, made_file, made_place, no_chain, number_shown, open_kind, place_in, place_of, place_shown, placed_made, read_file, renamed, room_in, serves, slots_shown, spare_pages, used_numbers, with_chain, with_made, without_made, written_file}
pub use Rattle.trio_session.specs.declared.indexes.IndexedDir.{IndexedDir}
pub use Rattle.trio_session.specs.declared.laid.FilePlace.{FilePlace}
pub use Rattle.trio_session.specs.declared.laid.FilePlace.TheVariants.{InSlot, Leased}
pub use Rattle.trio_session.specs.declared.laid.Laid.{Laid}
pub use Rattle.trio_session.specs.declared.laid.PagePlace.{PagePlace}
pub use Rattle.trio_session.specs.declared.laid.PagePlace.TheVariants.{Block, Fresh, Index}
pub use Rattle.trio_session.specs.declared.made.Made.{Made}
pub use Rattle.trio_session.specs.declared.session.Session.TheInside.{Inside}
pub use Rattle.trio_session.specs.inner.Found.{AmongMade, AmongWritten, AnIndex, CutDone, Finds, FoundAt, GrowDone, IsBlank, IsNowhere, IsRelaid, IsThere, Kept, MadeAnew, MayGrowAt, NoIndex, Removed, Roomier, TellsGrowth, ToldGrowth, Untold, WrittenAnew, taken_from}
pub use Rattle.trio_session.specs.inner.Giving.{AfterGrant, Denied, Gave, Granted, IsNewLaid, LaidLeased, NoGrant, Refused, reads_leased, with_given, with_leased}
pub use Rattle.trio_session.specs.inner.Indexes.{AreRead, IsIndexOf, IsIndexed, lease_on}
pub use Rattle.trio_session.specs.inner.Inside.{AreLaid, HasLent, chains_laid}
pub use Rattle.trio_session.specs.inner.Made.{AreDirs, AreMade, AreNumbered, AreSpread, Files, FindsFile, IsBlock, IsCleared, IsFileOn, IsIndexHere, IsMade, IsMadeAt, IsOne, OneFile, WasMade, Written, dir_numbers, entry_at, file_of, fresh_places, has_names, has_slots, made_room, made_seen, of_made, of_written, pages_of}
pub use Rattle.trio_session.specs.inner.Places.{AreApart, HasChain, IsAt, IsFile, IsLaid, IsWholeAt, body_at, chain_at, chain_laid, fresh_number, home_at, ino_at, lease_of, number_at, room_laid, sheet_at, shown_at, slot_file}
