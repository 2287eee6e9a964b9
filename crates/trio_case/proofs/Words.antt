-- The words that the proofs of this crate share: of the standard library, of the crates below, and of this crate's own definitions.
pub use Rattle.std.proofs.Common.{◌&&◌, ◌*◌, ◌++◌, ◌+◌, ◌-◌, ◌<◌, ◌^◌, ◌||◌, ◌∙◌, ◌∷◌, ◌≡◌, ◌≤◌, ◌⊎◌, Bool, Err, List, None, Ok, Option, Result, Some, [], ap, append_assoc, arith, cond, drop, eqb, false, get_or, inl, inr, insert, is_ok, leb, length, map, nat_le, nat_lt, not, refl, replicate, rules, set, slice_set, subst, suc, sym, take, true, vec_len, zero, ℕ}
pub use Rattle.std.proofs.Math.Seq.{drop-append_seam}
pub use Rattle.std.proofs.lemmas.Bool.{and_from, and_parts, cases_eq, cases_lt, false≢true, ltb-true}
pub use Rattle.std.proofs.lemmas.Bool.Decides.{nat_tests}
pub use Rattle.std.proofs.lemmas.List.{append-nil, drop-append-le, get_or-set_other, get_or-set_same, get_or_append_left, get_or_default, length-append, length-drop, length-map, length-replicate, length-set, map-append, map_push, take-append-drop, take-append-le, take_all, take_more, take_rest}
pub use Rattle.std.proofs.lemmas.List.Concat.{flat_map-append}
pub use Rattle.std.proofs.lemmas.List.Folds.{list_all-append}
pub use Rattle.std.proofs.lemmas.List.Sorted.{IsNonDecreasingBy-from_sort, answers_always, searched}
pub use Rattle.std.proofs.lemmas.List.Sums.{sum_by-cons}
pub use Rattle.std.proofs.lemmas.Option.{get_or_from_slice_get, slice_get-get_or, slice_get-map, slice_get_past, slice_get_read, slice_get_within}
pub use Rattle.std.specs.List.{find, flat_map, list_all, list_any}
pub use Rattle.std.specs.List.Sorted.{IsBinarySearchResult}
pub use Rattle.std.specs.Option.{option_and_then, option_copied, option_map, option_map_or}
pub use Rattle.std.specs.Ordering.{nat_cmp}
pub use Rattle.std.specs.Prelude.{MatchOption, MatchResult, count_by, is_some, slice_get, vec_capacity, ⊤}
pub use Rattle.std.specs.Result.{result_ok}
pub use Rattle.std.specs.Str.{bytes_eq}
pub use Rattle.std.specs.Vec.{with_item}
pub use Rattle.trio_layout.specs.Body.{body_of}
pub use Rattle.trio_layout.specs.Case.{Case, bundle_core}
pub use Rattle.trio_layout.specs.Chain.{Chain, index_count}
pub use Rattle.trio_layout.specs.Copied.{copied_row}
pub use Rattle.trio_layout.specs.Core.{Core, Location, page_of}
pub use Rattle.trio_layout.specs.Entries.{Listed, repeated_name, slot_bytes, slot_entries}
pub use Rattle.trio_layout.specs.Index.{Index}
pub use Rattle.trio_layout.specs.Listing.{ListedFile}
pub use Rattle.trio_layout.specs.Range.{is_core}
pub use Rattle.trio_layout.specs.Survey.{Met}
pub use Rattle.trio_layout.specs.Within.{chain_of_within, entries_where}
pub use Rattle.trio_layout.specs.declared.range.CoreRange.{CoreRange}
pub use Rattle.trio_lease.specs.Bundles.{Bundled}
pub use Rattle.trio_lease.specs.Shown.{LentFile, no_at}
pub use Rattle.trio_lease.specs.Views.{bundle_in, fresh_sheet, lent_sheet, written_in}
pub use Rattle.trio_lease.specs.declared.parts.FreshParts.{FreshParts}
pub use Rattle.trio_lease.specs.declared.parts.HoldParts.{HoldParts}
pub use Rattle.trio_lease.specs.declared.parts.InoParts.{InoParts}
pub use Rattle.trio_lease.specs.declared.parts.LentPage.{LentPage}
pub use Rattle.trio_lists.proofs.Members.{In-cases, In-is_among, In-map, list_all-In}
pub use Rattle.trio_lists.proofs.New.{are_new-first, is_among-not}
pub use Rattle.trio_lists.proofs.Sorting.{sorted_in}
pub use Rattle.trio_lists.proofs.Tabulated.{tabulated-get, tabulated-length}
pub use Rattle.trio_lists.specs.Lists.{In, are_new, both, gathered, gathered_below, is_among, result_map}
pub use Rattle.trio_lists.specs.Sorting.{inserted_by, sorted_by}
pub use Rattle.trio_rights.specs.ByKind.{is_directory}
pub use Rattle.trio_rights.specs.Bundle.{Written, bundle_pages, bundle_sheets, is_written}
pub use Rattle.trio_rights.specs.Row.{Row, row_in}
pub use Rattle.trio_rights.specs.Sheets.{Sheet, sheet_numbers, with_pages}
pub use Rattle.trio_rights.specs.declared.kind.Kind.TheVariants.{Directory, Regular}
pub use Rattle.trio_tables.specs.Row.{as_row}
pub use Rattle.trio_tables.specs.declared.row.Row.{Row as RowData}
pub use Rattle.trio_case.specs.Cases.{CaseShown, IsCase, case_in}
pub use Rattle.trio_case.specs.Listed.{entry_seen}
pub use Rattle.trio_case.specs.Memory.{writes_directory}
pub use Rattle.trio_case.specs.Order.{AreRising, in_order, place_of}
pub use Rattle.trio_case.specs.Places.{bytes_at, number_at}
pub use Rattle.trio_case.specs.Reading.{AreNamed, listed_seen}
pub use Rattle.trio_case.specs.Rooms.{AreCountedIn, HasPlaces, IsKept, IsRoomFor, IsUnread, KeepsPages, entries_kept, kept_page, looks_left, part, unread_blocks, unread_index}
pub use Rattle.trio_case.specs.declared.entries.DirEntry.{DirEntry}
pub use Rattle.trio_case.specs.declared.kept.KeptPage.{KeptPage}
pub use Rattle.trio_case.specs.declared.kept.KeptPages.{KeptPages}
pub use Rattle.trio_case.specs.declared.listing.ListedFile.{ListedFile as FileData}
pub use Rattle.trio_case.specs.declared.numbered.NumberPlace.{NumberPlace}
pub use Rattle.trio_case.specs.declared.numbers.Numbers.{Numbers}
pub use Rattle.trio_case.specs.declared.places.PagePlace.{PagePlace}
pub use Rattle.trio_case.specs.declared.places.PagePlace.TheVariants.{Block, Fresh}
pub use Rattle.trio_case.specs.declared.room.PageRoom.{PageRoom}
pub use Rattle.trio_case.specs.inner.Known.{file_seen, is_within, last_of, noted}
pub use Rattle.trio_case.specs.inner.Maps.{Tells, body_lent, most_copied, row_kept, rows_seen}
pub use Rattle.trio_case.specs.inner.Named.{MarksNames}
pub use Rattle.trio_case.specs.inner.Numbered.{AreCounted, HasNumberPlaces, counted_numbers}
pub use Rattle.trio_case.specs.inner.RowLists.{row_listed}
pub use Rattle.trio_case.specs.inner.Steps.{IsDone, IsFront, StandsAt}
pub use Rattle.trio_case.specs.inner.Unread.{AreUnread, CountsItself, numbers_of}
