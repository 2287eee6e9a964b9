-- The words that the proofs of this crate share: of the standard library, of the crates below, and of this crate's own definitions.
pub use Rattle.std.proofs.Common.{◌&&◌, ◌++◌, ◌+◌, ◌-◌, ◌<◌, ◌||◌, ◌∙◌, ◌∷◌, ◌≡◌, ◌≤◌, Bool, Err, IfOk, List, None, Ok, Option, Result, Some, [], ap, append_assoc, arith, cond, drop, eqb, false, get_or, inl, inr, is_ok, leb, length, ltb, map, min, not, refl, replicate, rules, set, subst, suc, sym, take, true, vec_len, zero, ℕ}
pub use Rattle.std.proofs.lemmas.Bool.{and_from, and_parts, cases_eq, false≢true, or_cases}
pub use Rattle.std.proofs.lemmas.Bool.Decides.{nat_tests}
pub use Rattle.std.proofs.lemmas.List.{append-nil, drop-append-le, drop_more, get_or-map, get_or-set_other, get_or-set_same, get_or_append_left, get_or_default, get_or_read, length-append, length-drop, length-map, length-replicate, length-set, map-append, map_push, take-append-drop, take-append-le, take_all, take_more}
pub use Rattle.std.proofs.lemmas.List.Concat.{flat_map-append}
pub use Rattle.std.proofs.lemmas.List.Folds.{list_all-append}
pub use Rattle.std.proofs.lemmas.List.Sums.{count_by-le-length}
pub use Rattle.std.proofs.lemmas.Option.{get_or_from_slice_get, slice_get_within}
pub use Rattle.std.proofs.lemmas.Result.{err_from_is_err_and}
pub use Rattle.std.proofs.lemmas.Simd.{map-map}
pub use Rattle.std.specs.BTreeMap.{get}
pub use Rattle.std.specs.Cmp.Lexicographic.{slice_cmp}
pub use Rattle.std.specs.List.{flat_map, list_all}
pub use Rattle.std.specs.Option.{option_and_then, option_or}
pub use Rattle.std.specs.Ordering.{nat_cmp}
pub use Rattle.std.specs.Prelude.{is_some, slice_get}
pub use Rattle.std.specs.Str.{bytes_eq}
pub use Rattle.trio_layout.proofs.EntryNumbers.{if_ok_at, if_ok_map, if_ok_then, if_ok_weaker}
pub use Rattle.trio_layout.proofs.QueueLaws.{among-first_listed}
pub use Rattle.trio_layout.specs.Body.{block_count, body_of}
pub use Rattle.trio_layout.specs.Chain.{Chain, chain_from, chain_of, index_count, index_page, with_index}
pub use Rattle.trio_layout.specs.Core.{Core, Location, at_page, nowhere, page_of}
pub use Rattle.trio_layout.specs.Entries.{Listed, entries_of, entries_of_kind, entries_on, page_entries, place_of, repeated_name, slot_bytes, slot_entries}
pub use Rattle.trio_layout.specs.Index.{Index, index_at, index_bytes, index_fits, link_fits}
pub use Rattle.trio_layout.specs.Queue.{queue}
pub use Rattle.trio_layout.specs.Range.{is_core}
pub use Rattle.trio_layout.specs.Sound.{FailsAt, IsSound, are_in_grammar, are_listed_once, listed_numbers, listed_pages, owners_table, rows_table}
pub use Rattle.trio_layout.specs.Survey.{FileRead, Met, Pick, children, children_in, file_of, file_with, first_listed, met_in, numbers, pages_in, pages_of, plain, root_of, row_by, survey}
pub use Rattle.trio_layout.specs.declared.range.CoreRange.{CoreRange}
pub use Rattle.trio_layout.specs.declared.refusal.FaultAt.{FaultAt}
pub use Rattle.trio_layout.specs.declared.superblock.Superblock.{Superblock}
pub use Rattle.trio_lists.proofs.Marked.{are_new-append, below_at, is_among-append}
pub use Rattle.trio_lists.proofs.Members.{In-cases}
pub use Rattle.trio_lists.specs.Lists.{In, are_new, both, gathered, gathered_below, is_among, result_map, result_then, there_or}
pub use Rattle.trio_lists.specs.Marked.{MarksJust, all_below}
pub use Rattle.trio_rights.specs.Row.{Row}
pub use Rattle.trio_rights.specs.declared.kind.Kind.{Kind}
pub use Rattle.trio_rights.specs.declared.kind.Kind.TheVariants.{Directory, Link, Regular}
pub use Rattle.trio_tables.specs.Stored.{padded_to_pages, page_at}
pub use Rattle.trio_survey.specs.Answer.{IsRefused}
pub use Rattle.trio_survey.specs.Picks.{pick_of}
pub use Rattle.trio_survey.specs.Seen.{core_with, listed_seen, met_seen}
pub use Rattle.trio_survey.specs.Stored.{HasPage, PagesVerify, core_in, image_in}
pub use Rattle.trio_survey.specs.Verdict.{IsDenied}
pub use Rattle.trio_survey.specs.Within.{IsWithin, all_some}
pub use Rattle.trio_survey.specs.declared.blocks.DirEntry.{DirEntry}
pub use Rattle.trio_survey.specs.declared.blocks.Span.{Span}
pub use Rattle.trio_survey.specs.declared.fault.SurveyFault.{SurveyFault}
pub use Rattle.trio_survey.specs.declared.fault.SurveyFault.TheVariants.{Fails, NoMemory}
pub use Rattle.trio_survey.specs.inner.Again.{IsListedBefore, heads_of}
pub use Rattle.trio_survey.specs.inner.Blocks.{AreNamed, GoesOn, HasParts, IsGood, IsPart, MarksNames, SaysBlocks, block_kept, entries_kept, entry_seen}
pub use Rattle.trio_survey.specs.inner.Files.{file_kept, listing_blocks}
pub use Rattle.trio_survey.specs.inner.Kept.{Keeps, kept_count}
pub use Rattle.trio_survey.specs.inner.Walk.{AreMarked, FirstEntry, FirstRepeat, Grows, IsFirstRepeat, Stands, Tabled, are_marked, file_repeat, framed}
