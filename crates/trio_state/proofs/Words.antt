-- The words that the proofs of this crate share: of the standard library, of the crates below, and of this crate's own definitions.
pub use Rattle.std.proofs.Common.{refl}
pub use Rattle.std.specs.Prelude.{◌++◌, ◌∷◌, ◌≡◌, List, None, Some, [], false, map, true, ℕ}
pub use Rattle.trio_layout.specs.Accept.{is_accepted}
pub use Rattle.trio_layout.specs.Case.{Case}
pub use Rattle.trio_layout.specs.Core.{Core}
pub use Rattle.trio_layout.specs.Edges.{meets_edges}
pub use Rattle.trio_layout.specs.Image.{Image}
pub use Rattle.trio_layout.specs.Listing.{listing}
pub use Rattle.trio_layout.specs.Rules.{meets_grammar, meets_owning, meets_rights}
pub use Rattle.trio_layout.specs.Sound.{owners_table, rows_table}
pub use Rattle.trio_layout.specs.Survey.{numbers, plain}
pub use Rattle.trio_layout.specs.Verifies.{Verifies}
pub use Rattle.trio_layout.specs.declared.body.Body.{Body}
pub use Rattle.trio_rights.specs.Bundle.{Bundle, Written}
pub use Rattle.trio_rights.specs.Sheets.{Sheet}
pub use Rattle.trio_rights.specs.declared.kind.Kind.TheVariants.{Directory, Regular}
