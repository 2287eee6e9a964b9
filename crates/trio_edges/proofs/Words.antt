-- The words that the proofs of this crate share: of the standard library, of the crates below, and of this crate's own definitions.
pub use Rattle.std.proofs.Common.{◌<◌, ◌∙◌, ◌≡◌, Some, [], ap, arith, eqb, false, get_or, inr, length, map, not, refl, rules, sym, true, ℕ}
pub use Rattle.std.proofs.lemmas.Bool.{and_parts}
pub use Rattle.std.proofs.lemmas.Bool.Decides.{nat_tests}
pub use Rattle.std.specs.List.{list_all, list_any}
pub use Rattle.std.specs.Option.{option_map}
pub use Rattle.trio_case.specs.Listed.{entry_seen}
pub use Rattle.trio_layout.specs.Edges.{climbs_clear, comes_to_root, is_listed, proposed_parent, stays_listed}
pub use Rattle.trio_layout.specs.Listing.{ListedFile}
pub use Rattle.trio_lists.proofs.Members.{In-map}
pub use Rattle.trio_lists.specs.Lists.{In, is_among}
pub use Rattle.trio_rights.specs.Row.{row_in}
pub use Rattle.trio_tables.specs.Row.{as_row}
pub use Rattle.trio_edges.specs.inner.Steps.{is_clear}
