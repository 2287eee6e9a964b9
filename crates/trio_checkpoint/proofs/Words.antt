-- The words that the proofs of this crate share: of the standard library, of the crates below, and of this crate's own definitions.
pub use Rattle.std.proofs.Common.{◌&&◌, ◌++◌, ◌-◌, ◌∙◌, ◌∷◌, ◌≡◌, ◌≤◌, All, Bool, IsSome, IsTrue, List, None, Ok, Option, Some, [], ap, arith, eqb, false, get_or, inl, inr, is_some, length, refl, set, subst, sym, take, true, ℕ}
pub use Rattle.std.proofs.lemmas.Bool.{and_from, and_parts, cases_lt, false≢true}
pub use Rattle.std.proofs.lemmas.List.{append-nil, map-append}
pub use Rattle.std.proofs.lemmas.List.Elements.{All-head, All-tail}
pub use Rattle.std.proofs.lemmas.List.Folds.{list_all-append}
pub use Rattle.trio_layout.specs.Body.{guard_in}
pub use Rattle.trio_layout.specs.Chain.{chain_of}
pub use Rattle.trio_layout.specs.Core.{Core, page_of}
pub use Rattle.trio_layout.specs.Pages.{covered_of, sheets_of}
pub use Rattle.trio_lists.specs.Lists.{result_map}
pub use Rattle.trio_lists.specs.Marked.{all_below}
pub use Rattle.trio_rights.specs.Sheets.{Sheet, sheet_numbers, with_pages}
pub use Rattle.trio_rights.specs.declared.kind.Kind.{Kind}
pub use Rattle.trio_checkpoint.specs.Covered.{are_there, core_of, covered_numbers, renewed, with_body}
pub use Rattle.trio_checkpoint.specs.inner.Steps.{AreCopies, IsCopy}
