-- The words that the proofs of this crate share: of the standard library, of the crates below, and of this crate's own definitions.
pub use Rattle.std.proofs.Common.{◌&&◌, ◌++◌, ◌+◌, ◌-◌, ◌<◌, ◌||◌, ◌∙◌, ◌∷◌, ◌≡◌, ◌≤◌, ◌⊎◌, Bool, IsTrue, List, None, Option, Some, [], ap, arith, cond, eqb, false, get_or, inl, inr, leb, length, ltb, map, not, refl, set, slice_index_or, subst, suc, sym, take, true, vec_len, zero, ℕ}
pub use Rattle.std.proofs.lemmas.Bool.{and_from, and_parts, both_ways, cases_eq, eq-eqb, false≢true, ne_eqb}
pub use Rattle.std.specs.List.{find, flat_map}
pub use Rattle.std.specs.Option.{option_map}
pub use Rattle.std.specs.Prelude.{is_some}
pub use Rattle.trio_layout.specs.Accept.{with_bodies}
pub use Rattle.trio_layout.specs.Allowed.{is_allowed}
pub use Rattle.trio_layout.specs.Core.{Core, page_of}
pub use Rattle.trio_layout.specs.Image.{Image, IsFit, row_at}
pub use Rattle.trio_layout.specs.Proposed.{is_place_of, kept_body, proposed, proposed_pick}
pub use Rattle.trio_layout.specs.Sound.{is_sound}
pub use Rattle.trio_layout.specs.Survey.{Met, Pick, owner_of, row_of, survey}
pub use Rattle.trio_layout.specs.declared.range.CoreRange.{CoreRange}
pub use Rattle.trio_lease.specs.Bundles.{Bundled}
pub use Rattle.trio_lease.specs.Shown.{LentFile}
pub use Rattle.trio_lease.specs.Views.{bundle_in, fresh_sheet, lent_sheet, written_in}
pub use Rattle.trio_lease.specs.declared.parts.LentPage.{LentPage}
pub use Rattle.trio_lists.proofs.Members.{In-left, In-right}
pub use Rattle.trio_lists.specs.Lists.{In, is_among}
pub use Rattle.trio_lists.specs.Marked.{MarksJust}
pub use Rattle.trio_rights.specs.Bundle.{Bundle, Written, bundle_pages, bundle_sheets, is_written}
pub use Rattle.trio_rights.specs.Row.{Row, row_in}
pub use Rattle.trio_rights.specs.Sheets.{Sheet, sheet_numbers, with_pages}
pub use Rattle.trio_rights.specs.declared.rights.Creds.{Creds}
pub use Rattle.trio_survey.specs.Picks.{pick_of}
pub use Rattle.trio_surveys.proofs.Images.{met_numbered, met_row, read_met, row_met}
pub use Rattle.trio_proposal.specs.Judgement.{CanBeJudged, image_of}
pub use Rattle.trio_proposal.specs.inner.Steps.{AreLentBodies, ArePlaced, ArePut, AreWithin, kept_at, lease_sheets, lent_body, mets_below, owner_may, picked_by, row_may}
