-- The words that the proofs of this crate share: of the standard library, of the crates below, and of this crate's own definitions.
pub use Rattle.std.proofs.Common.{◌&&◌, ◌++◌, ◌+◌, ◌-◌, ◌<◌, ◌==◌, ◌∙◌, ◌∷◌, ◌≡◌, ◌≢◌, ◌≤◌, ◌⊎◌, Bool, IsTrue, List, None, Option, Some, [], ap, arith, drop, false, get_or, inl, inr, length, length-set, map, refl, reverse, set, subst, suc, sym, take, true, vec_len, zero, ℕ}
pub use Rattle.std.proofs.Math.Seq.{drop-cons, take-suc}
pub use Rattle.std.proofs.lemmas.Bool.{cases_eq, cases_lt, false≢true, ne_eqb}
pub use Rattle.std.proofs.lemmas.List.{get_or-map, get_or_past, length-map, map-append}
pub use Rattle.std.specs.List.{find, flat_map}
pub use Rattle.std.specs.Option.{option_map, option_map_or}
pub use Rattle.std.specs.Prelude.{if◌then◌else◌, All, is_some, not, slice_index}
pub use Rattle.trio_allot.proofs.OutLemmas.{with_all-push}
pub use Rattle.trio_allot.specs.Out.{OutByNumber, page_numbers}
pub use Rattle.trio_case.specs.Listed.{entry_seen}
pub use Rattle.trio_case.specs.declared.listing.ListedEntry.{ListedEntry as EntryData}
pub use Rattle.trio_checkpoint.proofs.Restoring.{below_parts, length-with_pages, put_both, within_still}
pub use Rattle.trio_checkpoint.specs.Covered.{Checkpointed}
pub use Rattle.trio_layout.specs.Accept.{with_bodies}
pub use Rattle.trio_layout.specs.Edges.{is_listed}
pub use Rattle.trio_layout.specs.Listing.{ListedEntry, ListedFile, Listing}
pub use Rattle.trio_lease.specs.Shown.{LentFile}
pub use Rattle.trio_lease.specs.Views.{bundle_in, fresh_sheet, written_in}
pub use Rattle.trio_lease.specs.declared.parts.LentPage.{LentPage}
pub use Rattle.trio_lists.proofs.Filters.{get_or-In}
pub use Rattle.trio_lists.proofs.Marked.{below_at}
pub use Rattle.trio_lists.proofs.Members.{In-map, map-In}
pub use Rattle.trio_lists.specs.Lists.{In, is_among}
pub use Rattle.trio_lists.specs.Marked.{all_below}
pub use Rattle.trio_page.specs.Home.{Pages}
pub use Rattle.trio_rights.specs.Bundle.{Bundle, Written, bundle_pages, bundle_sheets}
pub use Rattle.trio_rights.specs.Row.{Row, row_in}
pub use Rattle.trio_rights.specs.Sheets.{Sheet, sheet_numbers, with_pages}
pub use Rattle.trio_rights.specs.declared.kind.Kind.TheVariants.{Regular}
pub use Rattle.trio_tables.proofs.OutLemmas.{length-with_all, with_all-read}
pub use Rattle.trio_tables.specs.Out.{with_all}
pub use Rattle.trio_tables.specs.Row.{as_row}
pub use Rattle.trio_commit.specs.Bodies.{bodies_home, kept_body, kept_children, page_changes, placed_files, with_children}
pub use Rattle.trio_commit.specs.Handed.{lent_uncovered}
pub use Rattle.trio_commit.specs.Listed.{HasNumbersBelow, HasPagesBelow, written_pages}
pub use Rattle.trio_commit.specs.Store.{checkpoint_at}
pub use Rattle.trio_commit.specs.inner.Files.{IsWithinImage, as_before, file_sheets, lease_numbers, leases_in, lent_sheets, uncovered_sheets}
pub use Rattle.trio_commit.specs.inner.Putting.{looks_for, taken_number, with_taken}
pub use Rattle.trio_commit.specs.inner.Tables.{owner_listed, owner_staying, row_judged, row_moved}
