-- The words that the proofs of this crate share: of the standard library, of the crates below, and of this crate's own definitions.
pub use Rattle.std.proofs.Common.{◌&&◌, ◌*◌, ◌++◌, ◌+◌, ◌-◌, ◌<◌, ◌∙◌, ◌∷◌, ◌≡◌, ◌≤◌, ◌⊎◌, Bool, List, None, Ok, Option, Result, Some, [], ap, arith, cond, drop, eqb, false, get_or, inl, inr, is_ok, leb, length, ltb, min, refl, set, slice_get, slice_index_or, slice_set, subst, suc, sym, take, true, zero, ℕ}
pub use Rattle.std.proofs.lemmas.Bool.{and_from, and_parts, both_ways, cases_Bool, cases_eq, cases_lt, eq-eqb, eqb-true, false_from_ne_true, false≢true, le-ltb, leb-true, ltb-true, ne_eqb, or_cases, or_right}
pub use Rattle.std.proofs.lemmas.List.{drop-take, get_or-set_other, length-set, map-append}
pub use Rattle.std.proofs.lemmas.Option.{cond_some}
pub use Rattle.std.proofs.lemmas.Slice.Eq.{bytes_eq-Decides}
pub use Rattle.std.specs.Int.{w32}
pub use Rattle.std.specs.List.{flat_map}
pub use Rattle.std.specs.Option.{option_and_then, option_map, option_map_or}
pub use Rattle.std.specs.Prelude.{is_some, map, replicate, slice_index}
pub use Rattle.std.specs.Str.{bytes_eq}
pub use Rattle.trio_layout.proofs.Walks.{fronts_are, fronts_new, numbers-flat}
pub use Rattle.trio_layout.specs.Accept.{with_bodies, with_body_in}
pub use Rattle.trio_layout.specs.Body.{block_count, body_of}
pub use Rattle.trio_layout.specs.Case.{bundle_core, case_of}
pub use Rattle.trio_layout.specs.Chain.{Chain, chain_from, chain_of, index_count, index_page, with_index}
pub use Rattle.trio_layout.specs.Core.{Core, Location, at_page, page_of}
pub use Rattle.trio_layout.specs.Edges.{climbs}
pub use Rattle.trio_layout.specs.Entries.{Listed, body_in_slot, entries_of_kind, entries_on, listed_at, page_entries, repeated_name, slot_bytes, slot_entries, unless_repeated, with_names_apart}
pub use Rattle.trio_layout.specs.Image.{Image, IsFit, body_at_place, body_by_row, row_at, settled_body}
pub use Rattle.trio_layout.specs.Index.{Index, index_of}
pub use Rattle.trio_layout.specs.Mode.{body_with_mode}
pub use Rattle.trio_layout.specs.Proposed.{proposed}
pub use Rattle.trio_layout.specs.Range.{is_core}
pub use Rattle.trio_layout.specs.Slot.{entry_at, entry_fits, slot_of}
pub use Rattle.trio_layout.specs.Sound.{are_in_grammar, is_sound, listed_numbers, listed_pages, owners_table, rows_table}
pub use Rattle.trio_layout.specs.Survey.{FileRead, Front, Met, Pick, children, children_in, descend, file_of, first_listed, levels, met_in, numbers, owner_of, pages_in, pages_of, plain, root_of, row_by, row_of, row_read, survey}
pub use Rattle.trio_layout.specs.Verifies.{Verifies}
pub use Rattle.trio_layout.specs.Within.{file_within}
pub use Rattle.trio_layout.specs.declared.body.Body.{Body}
pub use Rattle.trio_layout.specs.declared.range.CoreRange.{CoreRange}
pub use Rattle.trio_layout.specs.declared.slot.EntryPart.{EntryPart}
pub use Rattle.trio_layout.specs.declared.slot.SlotRead.{SlotRead}
pub use Rattle.trio_layout.specs.declared.slot.SlotRead.TheVariants.{Bad, Empty, Entry}
pub use Rattle.trio_lists.proofs.Filters.{In-find, find-In}
pub use Rattle.trio_lists.proofs.Gathered.{new_beside}
pub use Rattle.trio_lists.proofs.Marked.{are_new-append}
pub use Rattle.trio_lists.proofs.Members.{In-cases, In-flat, In-left, In-map, In-right, flat_map-In, flat_map-same, is_among-In, list_all-In, list_all-each, map-In, option_and_then-Some, result_map-Ok, result_then-Ok, there_or-Ok}
pub use Rattle.trio_lists.proofs.New.{are_new-before, are_new-fewer}
pub use Rattle.trio_lists.proofs.Tabulated.{tabulated-get, tabulated-length, tabulated-same}
pub use Rattle.trio_lists.specs.Lists.{In, are_new, both, gathered, gathered_below, is_among, result_map, result_then, there_or}
pub use Rattle.trio_page.proofs.Fields.{length-with_part}
pub use Rattle.trio_rights.specs.Bundle.{Bundle, bundle_pages, bundle_sheets}
pub use Rattle.trio_rights.specs.Row.{Row}
pub use Rattle.trio_rights.specs.Sheets.{Sheet, sheet_numbers, with_pages}
pub use Rattle.trio_rights.specs.declared.kind.Kind.{Kind}
pub use Rattle.trio_rights.specs.declared.kind.Kind.TheVariants.{Directory, Link, Regular}
pub use Rattle.trio_rights.specs.declared.rights.Creds.{Creds}
pub use Rattle.trio_surveys.specs.Reading.{AgreeOn, pages_read, with_other}
pub use Rattle.trio_surveys.specs.Tree.{Reaches}
