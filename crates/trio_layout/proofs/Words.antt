-- The words that the proofs of this crate share: of the standard library, of the crates below, and of this crate's own definitions.
pub use Rattle.std.proofs.Common.{◌&&◌, ◌*◌, ◌++◌, ◌+◌, ◌-◌, ◌<◌, ◌==◌, ◌^◌, ◌||◌, ◌∙◌, ◌∷◌, ◌≡◌, ◌≤◌, ◌⊎◌, Bool, IfSome, IsTrue, List, None, Ok, Option, Result, Some, [], ap, append_assoc, arith, cond, drop, eqb, false, get_or, inl, inr, length, nat_le, nat_lt, not, refl, subst, suc, sym, take, true, zero, ℕ}
pub use Rattle.std.proofs.lemmas.Bool.{and_from, and_parts, cases_eq, cases_lt, eqb-true, false≢true, leb-true, lt-ltb, ltb-true, ne_eqb}
pub use Rattle.std.proofs.lemmas.Bool.Decides.{nat_tests}
pub use Rattle.std.proofs.lemmas.List.{append-nil, get_or_append_left, length-append, length-drop, map-append, nil_from_length, take-append-drop}
pub use Rattle.std.proofs.lemmas.List.Folds.{list_all-append}
pub use Rattle.std.specs.Int.{to_le_bytes, w16, w32, w64}
pub use Rattle.std.specs.List.{flat_map, list_all}
pub use Rattle.std.specs.Prelude.{slice_range}
pub use Rattle.std.specs.Str.{bytes_eq}
pub use Rattle.trio_lists.proofs.Marked.{are_new-append}
pub use Rattle.trio_lists.proofs.Members.{In-cases, In-left, In-right}
pub use Rattle.trio_lists.specs.Lists.{In, are_new, is_among, result_map, result_then}
pub use Rattle.trio_names.specs.Name.{IsName, is_name}
pub use Rattle.trio_page.proofs.Cursor.{IsBytes, Stands, after_number, after_part, follow, length-zeros, no_front, number_at-lt, number_here, number_is, number_known, part_here, part_is, put_number, put_part, rest_zeros, whole_front, wide16, wide32, wide64, zeros_rest}
pub use Rattle.trio_page.proofs.Fields.{length-slice}
pub use Rattle.trio_page.specs.Field.{number_at, with_number, with_part, zeros}
pub use Rattle.trio_rights.specs.declared.kind.Kind.{Kind}
pub use Rattle.trio_rights.specs.declared.kind.Kind.TheVariants.{Directory, Link, Regular}
pub use Rattle.trio_layout.specs.Body.{IsBody, block_count, body_at, body_fits, head_fits, size_fits}
pub use Rattle.trio_layout.specs.Core.{Core, Location, page_of}
pub use Rattle.trio_layout.specs.Entries.{Listed}
pub use Rattle.trio_layout.specs.Index.{Index, IsIndexPage, index_at, index_fits, link_fits, numbers_in}
pub use Rattle.trio_layout.specs.Queue.{pass, pass_on}
pub use Rattle.trio_layout.specs.Range.{core_count, is_core}
pub use Rattle.trio_layout.specs.Slot.{IsEntry, entry_at, entry_fits}
pub use Rattle.trio_layout.specs.Superblock.{IsSuperblock, superblock_fits}
pub use Rattle.trio_layout.specs.Survey.{Front, Met, descend, first_listed, levels, numbers}
pub use Rattle.trio_layout.specs.Within.{entries_within}
pub use Rattle.trio_layout.specs.declared.body.Body.{Body}
pub use Rattle.trio_layout.specs.declared.range.CoreRange.{CoreRange}
pub use Rattle.trio_layout.specs.declared.slot.EntryPart.{EntryPart}
pub use Rattle.trio_layout.specs.declared.slot.SlotRead.{SlotRead}
pub use Rattle.trio_layout.specs.declared.slot.SlotRead.TheVariants.{Bad, Empty, Entry}
pub use Rattle.trio_layout.specs.declared.superblock.Superblock.{Superblock}
