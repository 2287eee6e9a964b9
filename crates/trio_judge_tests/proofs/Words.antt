-- The words that the proofs of this crate share: of the standard library, of the crates below, and of this crate's own definitions.
pub use Rattle.std.proofs.Common.{◌++◌, ◌+◌, ◌<◌, ◌||◌, ◌∙◌, ◌∷◌, ◌≡◌, ◌≢◌, ◌≤◌, Bool, List, None, Some, [], ap, arith, cond, eqb, false, get_or, inl, inr, length, map, refl, subst, sym, take, true, ℕ}
pub use Rattle.std.proofs.lemmas.Bool.{and_parts, eqb-true, false≢true}
pub use Rattle.std.proofs.lemmas.List.{take_all}
pub use Rattle.std.proofs.lemmas.Option.{get_or_from_slice_get, slice_get_within}
pub use Rattle.std.specs.List.{flat_map, list_all, list_any}
pub use Rattle.std.specs.Prelude.{IsTrue, is_some, slice_get, slice_index_or}
pub use Rattle.trio_case.proofs.Making.{there_of}
pub use Rattle.trio_case.specs.Cases.{is_child}
pub use Rattle.trio_layout.specs.Range.{is_core}
pub use Rattle.trio_lease.specs.Shown.{LentFile}
pub use Rattle.trio_lease.specs.Views.{bundle_in, fresh_sheet, lent_sheet}
pub use Rattle.trio_lease.specs.declared.parts.FreshParts.{FreshParts}
pub use Rattle.trio_lease.specs.declared.parts.LentPage.{LentPage}
pub use Rattle.trio_lists.specs.Lists.{In}
pub use Rattle.trio_proposal.proofs.Puts.{lent_there}
pub use Rattle.trio_proposal.specs.Judgement.{CanBeJudged, image_of}
pub use Rattle.trio_rights.specs.Row.{Row, row_in}
pub use Rattle.trio_rights.specs.Sheets.{Sheet}
pub use Rattle.trio_tables.specs.Row.{as_row}
pub use Rattle.trio_judge_tests.specs.Whole.{IsWhole, file_fits, sheet_fits}
