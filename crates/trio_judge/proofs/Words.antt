-- The words that the proofs of this crate share: of the standard library, of the crates below, and of this crate's own definitions.
pub use Rattle.std.proofs.Common.{◌&&◌, ◌*◌, ◌++◌, ◌+◌, ◌-◌, ◌<◌, ◌^◌, ◌||◌, ◌∙◌, ◌∷◌, ◌≡◌, ◌≤◌, ◌⊎◌, Bool, Err, List, None, Ok, Option, Result, Some, [], ap, append_assoc, arith, cond, drop, eqb, false, get_or, inl, inr, is_ok, is_some, length, map, not, refl, replicate, rules, subst, suc, sym, take, true, vec_len, zero, ℕ}
pub use Rattle.std.proofs.lemmas.Bool.{and_from, and_parts, false≢true}
pub use Rattle.std.proofs.lemmas.Bool.Decides.{nat_tests}
pub use Rattle.std.proofs.lemmas.List.{append-nil, drop_more, get_or_default, length-append, length-map, length-take-le, map-append, map_push, take-append-drop, take_all, take_more}
pub use Rattle.std.proofs.lemmas.List.Concat.{flat_map-append}
pub use Rattle.std.proofs.lemmas.List.Folds.{list_all-append}
pub use Rattle.std.specs.List.{filter, flat_map, list_all}
pub use Rattle.std.specs.Option.{option_map, option_map_or, option_or}
pub use Rattle.std.specs.Prelude.{MatchOption, vec_capacity}
pub use Rattle.trio_case.proofs.CaseRows.{writes_of}
pub use Rattle.trio_case.proofs.Distinct.{no_more}
pub use Rattle.trio_case.proofs.Ordered.{mark_more}
pub use Rattle.trio_case.proofs.Parts.{all-push}
pub use Rattle.trio_case.proofs.Sorted.{sorted-map}
pub use Rattle.trio_case.specs.Cases.{CaseShown, case_in}
pub use Rattle.trio_case.specs.Order.{AreMarked, is_marked, place_of}
pub use Rattle.trio_case.specs.Reading.{listed_seen}
pub use Rattle.trio_case.specs.Rooms.{entries_in_room, entries_kept, file_in_room}
pub use Rattle.trio_case.specs.declared.entries.DirEntry.{DirEntry}
pub use Rattle.trio_layout.proofs.WithinCore.{within_from}
pub use Rattle.trio_layout.specs.Body.{block_count, body_of}
pub use Rattle.trio_layout.specs.Broken.{BreaksGrammar, judged_listings}
pub use Rattle.trio_layout.specs.Case.{Case, bundle_core, file_in}
pub use Rattle.trio_layout.specs.Core.{Location, at_page, nowhere}
pub use Rattle.trio_layout.specs.Entries.{Listed}
pub use Rattle.trio_layout.specs.JudgedFiles.{entries_in, judged_entries, new_entries, pages_within, written_files, written_met}
pub use Rattle.trio_layout.specs.Listing.{Listing, entry_listed, file_listed}
pub use Rattle.trio_layout.specs.Rules.{entry_in_grammar, entry_is_own, entry_keeps_rights, file_keeps_rights}
pub use Rattle.trio_layout.specs.Sound.{PageListing}
pub use Rattle.trio_layout.specs.Survey.{FileRead, Met, children_in, first_listed, met_in, numbers, pages_in, plain}
pub use Rattle.trio_layout.specs.declared.refusal.FaultAt.{FaultAt}
pub use Rattle.trio_lease.specs.Bundles.{Bundled}
pub use Rattle.trio_lease.specs.Shown.{LentFile}
pub use Rattle.trio_lease.specs.Views.{bundle_in, written_in}
pub use Rattle.trio_lists.proofs.Filters.{get_or-In}
pub use Rattle.trio_lists.proofs.Marked.{are_new-append, is_among-push}
pub use Rattle.trio_lists.proofs.Members.{In-cases, In-flat, In-is_among, In-left, In-map, In-right, is_among-In, list_all-In, map-In}
pub use Rattle.trio_lists.specs.Lists.{In, are_new, is_among}
pub use Rattle.trio_lists.specs.Sorting.{sorted_by}
pub use Rattle.trio_rights.specs.ByKind.{is_directory}
pub use Rattle.trio_rights.specs.Bundle.{Written, bundle_pages}
pub use Rattle.trio_rights.specs.Row.{row_in}
pub use Rattle.trio_rights.specs.declared.kind.Kind.TheVariants.{Directory}
pub use Rattle.trio_judge.specs.declared.walk.JudgedFile.{JudgedFile}
pub use Rattle.trio_judge.specs.declared.walk.Walk.{Walk}
pub use Rattle.trio_judge.specs.inner.Again.{AreFoundHeads, IsListedBefore, has_body}
pub use Rattle.trio_judge.specs.inner.Walk.{AreFound, AreOwn, BadEntry, FirstForeign, HasListingRoom, IsForeign, IsPassed, IsQueued, IsReady, KeepRights, Lists, Noted, OwningFails, Owns, PlacesLeft, RightsFail, SameQueue, Stands, Starts, file_met, files_of, is_new, listed_met, listing_of, own_numbers, writes_directory}
