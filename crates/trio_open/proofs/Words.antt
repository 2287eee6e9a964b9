-- The words that the proofs of this crate share: of the standard library, of the crates below, and of this crate's own definitions.
pub use Rattle.std.proofs.Common.{◌&&◌, ◌++◌, ◌+◌, ◌<◌, ◌==◌, ◌||◌, ◌∙◌, ◌∷◌, ◌≡◌, ◌≤◌, Bool, List, None, Option, Some, [], ap, arith, drop, false, get_or, inl, inr, is_some, length, map, not, refl, rules, subst, suc, sym, take, true, zero, ℕ}
pub use Rattle.std.proofs.Math.Seq.{drop-cons, take-suc}
pub use Rattle.std.proofs.lemmas.Bool.{and_from, and_parts, eq-eqb, false≢true, not-true}
pub use Rattle.std.proofs.lemmas.List.{get_or_default, map-append}
pub use Rattle.std.specs.List.{filter, find, flat_map, list_any}
pub use Rattle.std.specs.Option.{option_copied, option_map}
pub use Rattle.std.specs.Prelude.{if◌then◌else◌, slice_get, vec_capacity}
pub use Rattle.trio_checkpoint.specs.Covered.{core_of}
pub use Rattle.trio_grants.specs.Grants.{HasKey, Keyed, without}
pub use Rattle.trio_layout.specs.Body.{guard_in}
pub use Rattle.trio_layout.specs.Pages.{sheets_of}
pub use Rattle.trio_lease.specs.Bundles.{Bundled}
pub use Rattle.trio_lease.specs.Shown.{LentFile, no_at, page_at}
pub use Rattle.trio_lease.specs.Views.{bundle_in, fresh_sheet, lent_sheet, written_in}
pub use Rattle.trio_lease.specs.declared.parts.FreshParts.{FreshParts}
pub use Rattle.trio_lease.specs.declared.parts.LentPage.{LentPage}
pub use Rattle.trio_lists.proofs.Marked.{are_new-append}
pub use Rattle.trio_lists.proofs.Members.{In-left, In-right, map-In}
pub use Rattle.trio_lists.proofs.New.{are_new-before, are_new-fewer}
pub use Rattle.trio_lists.specs.Lists.{In, are_new, is_among}
pub use Rattle.trio_nodes.specs.declared.grant.GrantKind.TheVariants.{Read, Write}
pub use Rattle.trio_page.specs.declared.page.PageNo.{PageNo}
pub use Rattle.trio_rights.specs.Bundle.{Bundle, Written, bundle_pages}
pub use Rattle.trio_rights.specs.Sheets.{Sheet, without_pages}
pub use Rattle.trio_rights.specs.declared.rights.LibNo.{LibNo}
pub use Rattle.trio_state.specs.Bundles.{is_in_bundle, lower}
pub use Rattle.trio_open.specs.Belonging.{AreWhole}
pub use Rattle.trio_open.specs.Open.{Opened, keyed, untouched}
pub use Rattle.trio_open.specs.inner.Given.{are_numbered, is_numbered}
pub use Rattle.trio_open.specs.inner.Parting.{lowest_parted}
pub use Rattle.trio_open.specs.inner.Room.{pages_shown}
