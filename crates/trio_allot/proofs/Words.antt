-- The words that the proofs of this crate share: of the standard library, of the crates below, and of this crate's own definitions.
pub use Rattle.std.proofs.Common.{if◌then◌else◌, ◌&&◌, ◌++◌, ◌+◌, ◌-◌, ◌<◌, ◌==◌, ◌∙◌, ◌∷◌, ◌≡◌, ◌≤◌, ◌⊎◌, Bool, IsSome, List, None, Option, Some, [], ap, arith, cond, drop, false, get_or, get_or-set_other, inl, inr, le_trans, length, length-set, map, refl, reverse, set, slice_index_or, subst, suc, sym, take, true, vec_capacity, vec_len, zero, ℕ}
pub use Rattle.std.proofs.lemmas.Bool.{and_parts, false≢true}
pub use Rattle.std.proofs.lemmas.List.{map-append}
pub use Rattle.std.proofs.lemmas.List.Elements.{All-head, All-tail}
pub use Rattle.std.specs.List.{filter, list_any}
pub use Rattle.std.specs.Prelude.{All, is_some, not}
pub use Rattle.trio_lease.specs.declared.parts.FreshParts.{FreshParts}
pub use Rattle.trio_page.specs.Home.{raised}
pub use Rattle.trio_rights.specs.Row.{row_in}
pub use Rattle.trio_rights.specs.declared.rights.LibNo.{LibNo}
pub use Rattle.trio_tables.proofs.OutLemmas.{length-with_all, with_all-read}
pub use Rattle.trio_tables.specs.Free.{count_up, free_numbers, free_pages, is_free_number, is_free_page, numbers_where}
pub use Rattle.trio_tables.specs.Out.{lib_at, with_all}
pub use Rattle.trio_allot.specs.Out.{fresh_number, fresh_page, inode_numbers, page_numbers, raised_by, with_pages}
