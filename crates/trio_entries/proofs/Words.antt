-- The words that the proofs of this crate share: of the standard library, of the crates below, and of this crate's own definitions.
pub use Rattle.std.proofs.Common.{◌&&◌, ◌++◌, ◌+◌, ◌-◌, ◌<◌, ◌||◌, ◌↔◌, ◌∙◌, ◌∷◌, ◌≡◌, ◌≤◌, Bool, Err, List, None, Ok, Option, Result, Some, [], ap, append_assoc, arith, cond, drop, eqb, false, get_or, inl, inr, length, map, nat_le, not, refl, replicate, rules, set, subst, suc, sym, take, true, zero, ℕ}
pub use Rattle.std.proofs.Math.Seq.{drop-cons}
pub use Rattle.std.proofs.lemmas.Bool.{and_parts, false≢true}
pub use Rattle.std.proofs.lemmas.Bool.Decides.{nat_tests}
pub use Rattle.std.proofs.lemmas.Grind.{flat_map-append}
pub use Rattle.std.proofs.lemmas.List.{append-nil, drop_all, get_or-set_other, get_or-set_same, get_or_default, length-append, length-map, length-replicate, length-take-le, map-append, take-append-drop, take_all, take_more}
pub use Rattle.std.proofs.lemmas.List.Sorted.{IsNonDecreasingBy-from_sort}
pub use Rattle.std.specs.List.{cons_option, filter_map, find, flat_map, list_all, list_any}
pub use Rattle.std.specs.List.Sorted.{IsBinarySearchResult, IsPermutation}
pub use Rattle.std.specs.Option.{option_and_then, option_map, option_map_or}
pub use Rattle.std.specs.Ordering.{nat_cmp}
pub use Rattle.std.specs.Prelude.{is_some, slice_get}
pub use Rattle.std.specs.Str.{bytes_eq}
pub use Rattle.std.specs.Vec.{vec_capacity, vec_len}
pub use Rattle.trio_case.proofs.CaseRows.{writes_of}
pub use Rattle.trio_case.proofs.Making.{bundle_length, bundle_numbers}
pub use Rattle.trio_case.proofs.Ordered.{place_has}
pub use Rattle.trio_case.specs.Cases.{CaseShown, case_in}
pub use Rattle.trio_case.specs.Listed.{entry_seen}
pub use Rattle.trio_case.specs.Memory.{size_of, writes_directory}
pub use Rattle.trio_case.specs.Order.{place_of}
pub use Rattle.trio_case.specs.declared.listing.ListedEntry.{ListedEntry as EntryData}
pub use Rattle.trio_case.specs.declared.size.BundleSize.{BundleSize}
pub use Rattle.trio_layout.proofs.Walks.{fronts_keep}
pub use Rattle.trio_layout.specs.Case.{Case, bundle_core}
pub use Rattle.trio_layout.specs.Core.{Core, Location, page_of}
pub use Rattle.trio_layout.specs.Edges.{is_listed, meets_edges}
pub use Rattle.trio_layout.specs.Entries.{slot_bytes}
pub use Rattle.trio_layout.specs.JudgedFiles.{entries_in, fronts, judged_entries, judged_pages, new_entries, written_at, written_files, written_met}
pub use Rattle.trio_layout.specs.Listing.{ListedEntry, ListedFile, Listing, entry_listed, listing}
pub use Rattle.trio_layout.specs.Rules.{entry_is_own, meets_grammar, meets_owning, meets_rights, meets_rules}
pub use Rattle.trio_layout.specs.Slot.{entry_at, entry_fits, slot_of}
pub use Rattle.trio_layout.specs.Survey.{FileRead, Met, children_in, numbers, plain}
pub use Rattle.trio_layout.specs.Tables.{row_after}
pub use Rattle.trio_layout.specs.declared.slot.EntryPart.{EntryPart}
pub use Rattle.trio_layout.specs.declared.slot.SlotRead.TheVariants.{Bad, Empty, Entry}
pub use Rattle.trio_lease.specs.Bundles.{Bundled}
pub use Rattle.trio_lease.specs.Shown.{LentFile}
pub use Rattle.trio_lease.specs.Views.{bundle_in, lent_sheet, written_in}
pub use Rattle.trio_lease.specs.declared.parts.FreshParts.{FreshParts}
pub use Rattle.trio_lease.specs.declared.parts.HoldParts.{HoldParts}
pub use Rattle.trio_lease.specs.declared.parts.InoParts.{InoParts}
pub use Rattle.trio_lease.specs.declared.parts.LentPage.{LentPage}
pub use Rattle.trio_lists.proofs.Filters.{In-list_any, filter-In, get_or-In, list_any-map}
pub use Rattle.trio_lists.proofs.Members.{In-cases, In-left, In-map, flat_map-In, is_among-In, list_all-In, map-In}
pub use Rattle.trio_lists.proofs.New.{are_new-first, is_among-not}
pub use Rattle.trio_lists.proofs.Sorting.{sorted_in, sorted_new}
pub use Rattle.trio_lists.specs.Lists.{In, are_new, is_among}
pub use Rattle.trio_lists.specs.Sorting.{sorted_by}
pub use Rattle.trio_nodes.specs.Handed.{Handed, all_pages, head_of}
pub use Rattle.trio_nodes.specs.Told.{ToldBundle, block_in}
pub use Rattle.trio_nodes.specs.declared.entry.HandedHead.{HandedHead}
pub use Rattle.trio_nodes.specs.declared.entry.RawFile.{RawFile}
pub use Rattle.trio_rights.specs.ByKind.{covers_blocks, is_directory}
pub use Rattle.trio_rights.specs.Bundle.{Bundle, Written, bundle_pages}
pub use Rattle.trio_rights.specs.Row.{Row, row_in}
pub use Rattle.trio_rights.specs.Sheets.{Sheet, sheet_numbers}
pub use Rattle.trio_rights.specs.declared.kind.Kind.{Kind}
pub use Rattle.trio_rights.specs.declared.kind.Kind.TheVariants.{Directory, Regular}
pub use Rattle.trio_state.specs.Listed.{Notes, block_told, blocks_listed_of, blocks_of_kind, changed_blocks, entry_guard, entry_name, entry_size, is_marked, is_untold, lent_blocks, noted_guard, noted_name, noted_size, size_in, told_entry, told_gone, told_row, told_same, told_written, written_guard, written_size}
pub use Rattle.trio_state.specs.Moves.{FileOutline, Outline, file_outline, outline_of}
pub use Rattle.trio_tables.specs.Row.{as_row}
pub use Rattle.trio_entries.specs.Drafts.{HasHandedPlaces, HasToldPlaces, IsRoom, outline_pages, outline_size}
pub use Rattle.trio_entries.specs.Handed.{file_in, file_pages, fresh_in, handed_in, index_in}
pub use Rattle.trio_entries.specs.Telling.{whole_case}
pub use Rattle.trio_entries.specs.declared.handed.Room.{Room}
pub use Rattle.trio_entries.specs.inner.Finding.{has_mark, own_numbers}
pub use Rattle.trio_entries.specs.inner.Once.{AreListedOnce, lent_once}
pub use Rattle.trio_entries.specs.inner.Outlined.{head_in}
pub use Rattle.trio_entries.specs.inner.Placed.{blocks_in, numbers_of}
pub use Rattle.trio_entries.specs.inner.Slots.{IsReadable}
pub use Rattle.trio_entries.specs.inner.Sources.{file_numbers, numbers_in, pages_of}
