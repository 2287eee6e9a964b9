-- The words that the proofs of this crate share: of the standard library, of the crates below, and of this crate's own definitions.
pub use Rattle.std.proofs.Common.{◌++◌, ◌<◌, ◌∙◌, ◌∷◌, ◌≡◌, ◌≤◌, List, None, Option, Some, [], ap, arith, drop, inl, inr, length, map, refl, subst, suc, sym, take, true, zero, ℕ}
pub use Rattle.std.proofs.lemmas.List.Edits.{map_over_more}
pub use Rattle.std.specs.Prelude.{is_some, slice_get, slice_index_or, slice_set}
pub use Rattle.trio_lists.specs.Lists.{In}
pub use Rattle.trio_page.specs.declared.page.PageNo.{PageNo}
pub use Rattle.trio_lease.specs.Places.{place_in_files}
pub use Rattle.trio_lease.specs.Shown.{KeepsUntouched, LentFile, all_touched, as_touched, lent_at, with_touched}
pub use Rattle.trio_lease.specs.declared.parts.LentPage.{LentPage}
